use Rattle.std.proofs.Common.{◌≡◌, drop, not}
use Rattle.std.specs.List.{list_any}
use Rattle.asm80_first_walk.specs.declared.ifs.OpenIf.{OpenIf}
use Rattle.asm80_first_walk.proofs.ifs.some_skips.Given as goal

abbrev pub invariant-loop-open : goal.invariant-loop-open
invariant-loop-open l = list_any (λ (i : OpenIf). not i.is_taken) (drop l.open-index l.ifs) ≡ list_any (λ (i : OpenIf). not i.is_taken) l.ifs
