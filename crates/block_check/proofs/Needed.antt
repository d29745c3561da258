-- The needs of a program are one set at each place, and a leader has a block to run.
use Rattle.std.proofs.Common.{◌≡◌, ◌∙◌, ℕ, Option, Some, None, refl, sym}
use Rattle.std.specs.Prelude.{is_some, cond}
use Rattle.cells.specs.Parts.{Parts, nothing}
use Rattle.asm80_types.specs.Program.{Program}
use Rattle.flow.proofs.OneNeeds.{needs_once}
use Rattle.flow.specs.declared.node.Node.TheVariants.{Start}
use Rattle.flow.specs.Blocks.{block_at, IsLeader, BlocksCut}
use Rattle.flow.specs.Solving.{Needs, AreAllNeeds}
use Rattle.sym_block_def.specs.Block80.{MayRun}
use Rattle.simulation_def.specs.Needed.{needed_by}
use Rattle.simulation_def.proofs.Blocks.{may_run}
use Rattle.block_check.specs.Kept.{AreKept, KeepsNeeds}

pub kept_once : (p : Program) (a : ℕ) (o : Option ℕ) (x y : Parts) → AreKept p a o x → AreKept p a o y → x ≡ y
kept_once p a None x y f g = f ∙ sym g
kept_once p a (Some count) x y f g = needs_once p (Start a) x y f g

-- a leader's block
pub leader_block : (p : Program) (a : ℕ) → BlocksCut p → IsLeader p a → (n : ℕ) × (block_at p a ≡ Some n) × MayRun p a n
leader_block p a cut h = let b = cut.has_block a h in (b.0, cut.found a b.0 b.1, may_run p a b.0 cut b.1)

-- what is needed at blocks is kept by needs
pub needed_keeps : (p : Program) (n : Needs) → AreAllNeeds p n → KeepsNeeds p (needed_by p n)
needed_keeps p n h = record { at = λ a. kept_where (block_at p a) a; returned = h.returned }
  where
    kept_where : (o : Option ℕ) (a : ℕ) → AreKept p a o (cond (is_some o) (n.at a) nothing)
    kept_where None a = refl
    kept_where (Some count) a = h.at a
