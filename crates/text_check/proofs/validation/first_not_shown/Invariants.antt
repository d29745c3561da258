use Rattle.std.proofs.Common.{◌≡◌, ℕ, Some}
use Rattle.std.specs.Prelude.{drop}
use Rattle.flow.specs.Blocks.{blocks}
use Rattle.flow.specs.Solving.{Needs, AreAllNeeds}
use Rattle.simulation_def.specs.Matches.{blocks_reason}
use Rattle.simulation_def.specs.Needed.{needed_by}
use Rattle.text_check.specs.Findings.{last_of, HoldsBlock}
use Rattle.text_check.proofs.Walking.{LastIs}
use Rattle.text_check.proofs.validation.first_not_shown.Given as goal

abbrev pub invariant-loop-leader : goal.invariant-loop-leader
invariant-loop-leader l = record {
  reasons : (n : Needs) → AreAllNeeds l.program n → blocks_reason l.program l.text (needed_by l.program n) (drop l.leader-index (blocks l.program)) ≡ blocks_reason l.program l.text (needed_by l.program n) (blocks l.program);
  last : (n : Needs) (b : ℕ × ℕ) → AreAllNeeds l.program n → last_of (blocks l.program) ≡ Some b → LastIs (drop l.leader-index (blocks l.program)) b (HoldsBlock l.program l.text n l.work b);
}
