use Rattle.std.proofs.Common.{◌≤◌, length, refl}
use Rattle.std.proofs.lemmas.Result.{IfOk-weaker, IfOk-at_ok}
use Rattle.host.specs.RealHost.{untold}
use Rattle.host.proofs.Counting.{failures_kept, wants_kept, no_write_fault, write_fault, write_alone, any_err, of_each, of_handed}
use Rattle.host.proofs.real.RealHostHost.say.Goals as goal

pub returns : goal.returns
returns g c =
    let now = c.args.self.now in
    let new = c.counted.new in
    let a = untold now.read_faults now.write_faults now.memory_faults in
    let b = untold now.read_faults new.failures new.wants in
    let r = c.counted.result in
    let counts = c.counted.ensures in
    record {
      only = record { files = λ name. refl; reads = refl; writes = failures_kept r now.write_faults new.failures counts.failed; memory = wants_kept r now.memory_faults new.wants counts.wanted };
      some = of_handed c.some_taken.result r _ counts.answer (IfOk-weaker c.some_taken.result _ _ (λ k h. h.0) c.some_taken.ensures.some);
      bound = of_handed c.some_taken.result r _ counts.answer (IfOk-weaker c.some_taken.result _ _ (λ k h. IfOk-at_ok (λ n. n ≤ length c.args.bytes.now) h.1 c.write_some.ensures.bound) c.some_taken.ensures.some);
      bytes = of_each r _ (λ _. refl);
      counted = no_write_fault a b r refl counts.failed counts.wanted;
      fault = any_err r (record { files = λ name. refl; said = refl });
      failed = write_fault a b r counts.failed counts.wanted;
      alone = write_alone a b r refl counts.failed counts.wanted;
    }
