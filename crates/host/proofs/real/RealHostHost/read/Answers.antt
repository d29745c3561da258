use Rattle.std.proofs.Common.{inl, refl}
use Rattle.host.specs.RealHost.{untold}
use Rattle.host.proofs.Counting.{failures_kept, wants_kept, no_read_fault, read_alone, failed_risen, wanted_risen, of_each, of_handed, not_missing}
use Rattle.host.proofs.real.RealHostHost.read.Goals as goal

pub returns : goal.returns
returns g c =
    let now = c.args.self.now in
    let new = c.counted.new in
    let a = untold now.read_faults now.write_faults now.memory_faults in
    let b = untold new.failures now.write_faults new.wants in
    let r = c.counted.result in
    let counts = c.counted.ensures in
    record {
      only = record { files = λ name. refl; said = refl; writes = refl; reads = failures_kept r now.read_faults new.failures counts.failed; memory = wants_kept r now.memory_faults new.wants counts.wanted };
      bound = of_handed c.read_file.result r _ counts.answer c.read_file.ensures;
      bytes = of_each r _ (λ _. tt);
      counted = no_read_fault a b r refl counts.failed counts.wanted;
      failed = λ is. inl (failed_risen now.read_faults new.failures r counts.failed is);
      memory = wanted_risen now.memory_faults new.wants r counts.wanted;
      alone = read_alone a b r refl counts.failed counts.wanted;
      missing = λ is. absurd (not_missing is);
    }
