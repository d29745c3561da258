use Rattle.std.proofs.Common.{◌≡◌, ◌↔◌, Result, Ok, Err, ap, sym, subst, ◌∙◌}
use Rattle.std.proofs.lemmas.Result.{IfOk-from_err}
use Rattle.host.specs.declared.HostFault.{HostFault}
use Rattle.host.specs.declared.mem.MemHost.{MemHost}
use Rattle.host.specs.Host.{failures_after, wants_after}
use Rattle.host.specs.MemHost.{file_in_mem_host, said_of, fails_of, calls_of, read_faults_of, write_faults_of, memory_faults_of, NextFails, KeepsFiles}
use Rattle.host.proofs.Counting.{any_err}
use Rattle.host.proofs.MemCalls.{Fault, handed_fault, at_ok, at_err, same_fault, no_want, no_failure, not_failed, on_ok_then, on_err_then, write_called, reads_same, writes_counted, wants_counted, said_same, file_same}
use Rattle.host.proofs.mem.MemHostHost.begin.Goals as goal

-- the call is one that fails
pub returns-in_err-start_write : goal.returns-in_err-start_write
returns-in_err-start_write c =
    let r = c.from_residual in
    let d = c.in_err-start_write.field-0.0 in
    let refused = c.in_err-start_write.ensures in
    let e : r.result ≡ Err d = handed_fault r.result d r.ensures.1 in
    record {
      failed = subst (λ r. Fault (Unit {0}) r ↔ NextFails c.args.self.now) (sym e) (same_fault d (NextFails c.args.self.now) refused.failed);
      ok = IfOk-from_err r.result _ r.ensures.0;
      fault = any_err r.result (λ name. ap (λ (h : MemHost). file_in_mem_host h name) refused.change);
      said = ap said_of refused.change;
      call = record { calls = ap calls_of refused.change; fails = ap fails_of refused.change };
      read_faults = ap read_faults_of refused.change;
      write_faults = ap write_faults_of refused.change ∙ ap (λ (r : Result (Unit {0}) HostFault). failures_after r (write_faults_of c.args.self.now)) (sym e);
      memory_faults =
          ap memory_faults_of refused.change
          ∙ no_want d (memory_faults_of c.args.self.now) (λ is. refused.memory (ap Err is))
          ∙ ap (λ (r : Result (Unit {0}) HostFault). wants_after r (memory_faults_of c.args.self.now)) (sym e);
    }

-- the file was made, or it was not
pub returns : goal.returns
returns c =
    let old = c.args.self.now in
    let begun = c.start_write.new.self in
    let started = c.in_ok-start_write.ensures in
    let made = c.put-made in
    let went = made.new.self in
    let new = c.counted.new.self in
    let first : Result (Unit {0}) HostFault = Ok c.in_ok-start_write.field-0 in
    let last = c.counted.result in
    let counted = c.counted.ensures in
    record {
      failed = not_failed last c.in_ok-start_write.field-0 (NextFails old) counted.memory started.failed;
      ok = on_ok_then last (λ ok.
          let put = at_ok made.result (counted.answer.0 ok) made.ensures.ok in
          record {
            file = ap (λ (h : MemHost). file_in_mem_host h c.args.name.now) counted.change ∙ put.file;
            others = λ other apart. file_same old begun went new first last started.change counted.change other (put.others other apart);
          });
      fault = on_err_then last (λ not_ok name.
          file_same old begun went new first last started.change counted.change name
          (at_err {P = KeepsFiles begun went} made.result (λ ok. not_ok (counted.answer.1 ok)) made.ensures.err name));
      said = said_same old begun went new first last started.change counted.change made.ensures.said;
      call = write_called old begun went new first last started.change counted.change made.ensures.counts;
      read_faults = reads_same old begun went new first last started.change counted.change made.ensures.counts;
      write_faults =
          writes_counted old begun went new first last started.change counted.change made.ensures.counts
          ∙ no_failure last (write_faults_of old) counted.memory;
      memory_faults = wants_counted old begun went new first last started.change counted.change made.ensures.counts;
    }
