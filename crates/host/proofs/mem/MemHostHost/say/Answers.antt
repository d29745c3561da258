use Rattle.std.proofs.Common.{◌≡◌, ◌↔◌, ℕ, take, ◌++◌, Result, Err, refl, ap, sym, subst, ◌∙◌}
use Rattle.std.proofs.lemmas.List.{length-take, take_min}
use Rattle.std.proofs.lemmas.Result.{IfOk-from_err}
use Rattle.host.specs.declared.HostFault.{HostFault}
use Rattle.host.specs.declared.mem.MemHost.{MemHost}
use Rattle.host.specs.Host.{failures_after, wants_by, wants_after}
use Rattle.host.specs.MemHost.{file_in_mem_host, said_of, fails_of, calls_of, read_faults_of, write_faults_of, memory_faults_of, NextFails}
use Rattle.host.proofs.Counting.{any_err}
use Rattle.host.proofs.MemCalls.{Fault, handed_fault, same_fault, other_fault, no_fault, no_failed_call, no_want, piece_length, taken, not_taken}
use Rattle.host.proofs.mem.MemHostHost.say.Goals as goal

-- the call is one that fails
pub returns-in_err-start_write : goal.returns-in_err-start_write
returns-in_err-start_write c =
    let r = c.from_residual in
    let d = c.in_err-start_write.field-0.0 in
    let refused = c.in_err-start_write.ensures in
    let e : r.result ≡ Err d = handed_fault r.result d r.ensures.1 in
    record {
      failed = subst (λ r. Fault ℕ r ↔ NextFails c.args.self.now) (sym e) (same_fault d (NextFails c.args.self.now) refused.failed);
      count = IfOk-from_err r.result _ r.ensures.0;
      ok = IfOk-from_err r.result _ r.ensures.0;
      fault = any_err r.result (ap said_of refused.change);
      files = λ name. ap (λ (h : MemHost). file_in_mem_host h name) refused.change;
      call = record { calls = ap calls_of refused.change; fails = ap fails_of refused.change };
      read_faults = ap read_faults_of refused.change;
      write_faults = ap write_faults_of refused.change ∙ ap (λ (r : Result ℕ HostFault). failures_after r (write_faults_of c.args.self.now)) (sym e);
      memory_faults =
          ap memory_faults_of refused.change
          ∙ no_want d (memory_faults_of c.args.self.now) (λ is. refused.memory (ap Err is))
          ∙ ap (λ (r : Result ℕ HostFault). wants_after r (memory_faults_of c.args.self.now)) (sym e);
    }

-- want of memory
pub returns-in_err-counted : goal.returns-in_err-counted
returns-in_err-counted c =
    let r = c.from_residual-in_err-counted in
    let d = c.in_err-counted.field-0.0 in
    let started = c.in_ok-start_write.ensures in
    let counted = c.in_err-counted.ensures in
    let e : r.result ≡ Err d = handed_fault r.result d r.ensures.1 in
    record {
      failed = subst (λ r. Fault ℕ r ↔ NextFails c.args.self.now) (sym e) (other_fault d c.in_ok-start_write.field-0 (NextFails c.args.self.now) (no_failed_call d counted.memory) started.failed);
      count = IfOk-from_err r.result _ r.ensures.0;
      ok = IfOk-from_err r.result _ r.ensures.0;
      fault = any_err r.result (ap said_of counted.change ∙ not_taken _ _ _ _ c.extend_from_slice-said.ensures.items counted.answer.1 ∙ ap said_of started.change);
      files = λ name. ap (λ (h : MemHost). file_in_mem_host h name) counted.change ∙ ap (λ (h : MemHost). file_in_mem_host h name) started.change;
      call = record { calls = ap calls_of counted.change ∙ ap calls_of started.change; fails = ap fails_of counted.change ∙ ap fails_of started.change };
      read_faults = ap read_faults_of counted.change ∙ ap read_faults_of started.change;
      write_faults =
          ap write_faults_of counted.change
          ∙ ap write_faults_of started.change
          ∙ ap (λ (r : Result ℕ HostFault). failures_after r (write_faults_of c.args.self.now)) (sym (e ∙ ap Err counted.memory));
      memory_faults =
          ap memory_faults_of counted.change
          ∙ ap (wants_by d) (ap memory_faults_of started.change)
          ∙ ap (λ (r : Result ℕ HostFault). wants_after r (memory_faults_of c.args.self.now)) (sym e);
    }

-- the bytes were said
pub returns : goal.returns
returns c =
    let bytes = c.args.bytes.now in
    let m = c.min.result in
    let started = c.in_ok-start_write.ensures in
    let counted = c.in_ok-counted.ensures in
    record {
      failed = no_fault _ c.in_ok-start_write.field-0 (NextFails c.args.self.now) started.failed;
      count = piece_length m bytes c.min.ensures;
      ok =
          ap said_of counted.change
          ∙ taken _ _ _ _ c.extend_from_slice-said.ensures.items (counted.answer.0 refl)
          ∙ ap (λ (h : MemHost). said_of h ++ take m bytes) started.change
          ∙ ap (λ xs. said_of c.args.self.now ++ xs) (sym (ap (λ n. take n bytes) (length-take m bytes) ∙ take_min m bytes));
      fault = tt;
      files = λ name. ap (λ (h : MemHost). file_in_mem_host h name) counted.change ∙ ap (λ (h : MemHost). file_in_mem_host h name) started.change;
      call = record { calls = ap calls_of counted.change ∙ ap calls_of started.change; fails = ap fails_of counted.change ∙ ap fails_of started.change };
      read_faults = ap read_faults_of counted.change ∙ ap read_faults_of started.change;
      write_faults = ap write_faults_of counted.change ∙ ap write_faults_of started.change;
      memory_faults = ap memory_faults_of counted.change ∙ ap memory_faults_of started.change;
    }
