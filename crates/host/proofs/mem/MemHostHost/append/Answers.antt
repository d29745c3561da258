-- What the calls change, put together. Searches find it too, but take long.
use Rattle.std.proofs.Common.{◌≡◌, ℕ, ◌++◌, ◌↔◌, [], take, Some, unwrap_or, Result, Ok, Err, refl, ap, sym, subst, ◌∙◌}
use Rattle.std.proofs.lemmas.Bool.{false≢true}
use Rattle.std.proofs.lemmas.List.{length-take, take_min}
use Rattle.std.proofs.lemmas.Result.{IfOk-from_err}
use Rattle.host.specs.declared.HostFault.{HostFault}
use Rattle.host.specs.declared.mem.MemHost.{MemHost}
use Rattle.host.specs.Host.{failures_after, wants_after}
use Rattle.host.specs.MemHost.{file_in_mem_host, said_of, fails_of, calls_of, read_faults_of, write_faults_of, memory_faults_of, NextFails, KeepsFiles}
use Rattle.host.proofs.Counting.{any_err}
use Rattle.host.proofs.MemCalls.{Fault, handed_fault, at_ok, at_err, same_fault, other_fault, no_fault, no_failed_call, no_want, piece_length, write_called, reads_same, writes_counted, wants_counted, said_same, file_same, file_added}
use Rattle.host.proofs.mem.MemHostHost.append.Goals as goal

-- the call is one that fails
pub returns-in_err-start_write : goal.returns-in_err-start_write
returns-in_err-start_write c =
    let r = c.from_residual in
    let d = c.in_err-start_write.field-0.0 in
    let refused = c.in_err-start_write.ensures in
    let e : r.result ≡ Err d = handed_fault r.result d r.ensures.1 in
    record {
      failed = subst (λ r. Fault ℕ r ↔ NextFails c.args.self.now) (sym e) (same_fault d (NextFails c.args.self.now) refused.failed);
      count = IfOk-from_err r.result _ r.ensures.0;
      ok = IfOk-from_err r.result _ r.ensures.0;
      fault = any_err r.result (λ name. ap (λ (h : MemHost). file_in_mem_host h name) refused.change);
      said = ap said_of refused.change;
      call = record { calls = ap calls_of refused.change; fails = ap fails_of refused.change };
      read_faults = ap read_faults_of refused.change;
      write_faults = ap write_faults_of refused.change ∙ ap (λ (r : Result ℕ HostFault). failures_after r (write_faults_of c.args.self.now)) (sym e);
      memory_faults =
          ap memory_faults_of refused.change
          ∙ no_want d (memory_faults_of c.args.self.now) (λ is. refused.memory (ap Err is))
          ∙ ap (λ (r : Result ℕ HostFault). wants_after r (memory_faults_of c.args.self.now)) (sym e);
    }

-- want of memory
pub returns-in_err-counted : goal.returns-in_err-counted
returns-in_err-counted c =
    let r = c.from_residual-in_err-counted in
    let d = c.in_err-counted.field-0.0 in
    let old = c.args.self.now in
    let begun = c.start_write.new.self in
    let started = c.in_ok-start_write.ensures in
    let added = c.add-added in
    let went = added.new.self in
    let new = c.counted.new.self in
    let first : Result (Unit {0}) HostFault = Ok c.in_ok-start_write.field-0 in
    let counted = c.in_err-counted.ensures in
    let e : r.result ≡ Err d = handed_fault r.result d r.ensures.1 in
    let kept : KeepsFiles begun went = at_err added.result (λ ok. false≢true (counted.answer.1 ok)) added.ensures.err in
    record {
      failed = subst (λ r. Fault ℕ r ↔ NextFails old) (sym e) (other_fault d c.in_ok-start_write.field-0 (NextFails old) (no_failed_call d counted.memory) started.failed);
      count = IfOk-from_err r.result _ r.ensures.0;
      ok = IfOk-from_err r.result _ r.ensures.0;
      fault = any_err r.result (λ name. file_same old begun went new first (Err d) started.change counted.change name (kept name));
      said = said_same old begun went new first (Err d) started.change counted.change added.ensures.said;
      call = write_called old begun went new first (Err d) started.change counted.change added.ensures.counts;
      read_faults = reads_same old begun went new first (Err d) started.change counted.change added.ensures.counts;
      write_faults =
          writes_counted old begun went new first (Err d) started.change counted.change added.ensures.counts
          ∙ ap (λ (r : Result ℕ HostFault). failures_after r (write_faults_of old)) (sym (e ∙ ap Err counted.memory));
      memory_faults =
          wants_counted old begun went new first (Err d) started.change counted.change added.ensures.counts
          ∙ ap (λ (r : Result ℕ HostFault). wants_after r (memory_faults_of old)) (sym e);
    }

-- the bytes were added
pub returns : goal.returns
returns c =
    let bytes = c.args.bytes.now in
    let name = c.args.name.now in
    let m = c.min.result in
    let old = c.args.self.now in
    let begun = c.start_write.new.self in
    let started = c.in_ok-start_write.ensures in
    let added = c.add-added in
    let went = added.new.self in
    let new = c.counted.new.self in
    let first : Result (Unit {0}) HostFault = Ok c.in_ok-start_write.field-0 in
    let last : Result (Unit {0}) HostFault = Ok c.in_ok-counted.field-0 in
    let counted = c.in_ok-counted.ensures in
    let put = at_ok added.result (counted.answer.0 refl) added.ensures.ok in
    record {
      failed = no_fault _ c.in_ok-start_write.field-0 (NextFails old) started.failed;
      count = piece_length m bytes c.min.ensures;
      ok = record {
        file =
            file_added old begun went new first last started.change counted.change name (take m bytes) put.file
            ∙ ap (λ xs. Some (unwrap_or (file_in_mem_host old name) [] ++ xs)) (sym (ap (λ n. take n bytes) (length-take m bytes) ∙ take_min m bytes));
        others = λ other apart. file_same old begun went new first last started.change counted.change other (put.others other apart);
      };
      fault = tt;
      said = said_same old begun went new first last started.change counted.change added.ensures.said;
      call = write_called old begun went new first last started.change counted.change added.ensures.counts;
      read_faults = reads_same old begun went new first last started.change counted.change added.ensures.counts;
      write_faults = writes_counted old begun went new first last started.change counted.change added.ensures.counts;
      memory_faults = wants_counted old begun went new first last started.change counted.change added.ensures.counts;
    }
