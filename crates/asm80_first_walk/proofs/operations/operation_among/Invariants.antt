use Rattle.std.proofs.Common.{◌≡◌, List, ℕ, drop, Bor}
use Rattle.std.specs.Prelude.{find}
use Rattle.std.specs.Str.{bytes_eq}
use Rattle.asm80_source_def.specs.declared.operation.Operation.{Operation}
use Rattle.asm80_first_walk.proofs.operations.operation_among.Given as goal

abbrev pub invariant-loop-entry : goal.invariant-loop-entry
invariant-loop-entry l =
    find (λ (x : Bor (List ℕ) × Operation). bytes_eq x.0.now l.word) (drop l.entry-index l.table)
    ≡ find (λ (x : Bor (List ℕ) × Operation). bytes_eq x.0.now l.word) l.table
