-- The parts that are kept, of the values that say them.
use Rattle.std.specs.Prelude.{◌≡◌, ℕ, Option, Some, None, IsTrue}
use Rattle.cells.specs.Parts.{Parts, nothing}
use Rattle.sym_block_def.specs.Outcome.{Exit, One, Sys}
use Rattle.sym_block_def.specs.BlockMatch.{Keeps, kept_at}
use Rattle.simulation_def.specs.Ones.{all_kept}
use Rattle.asm80_types.specs.Program.{Program}
use Rattle.flow.specs.declared.node.Node.TheVariants.{Start, Return}
use Rattle.flow.specs.Blocks.{block_at}
use Rattle.flow.specs.Solving.{AreNeeds}
use Rattle.block_check.specs.declared.asked.Wanted.{Wanted}
use Rattle.block_check.specs.declared.kept.Kept.{Kept}
use Rattle.block_check.specs.declared.kept.Kept.TheVariants.{All, Needed}

-- what is needed at an address where a block of so many instructions begins; nothing where none does
abbrev pub AreKept : Program → ℕ → Option ℕ → Parts → Type 0
AreKept p a None keep = keep ≡ nothing
AreKept p a (Some count) keep = AreNeeds p (Start a) keep

-- kept is what is needed at the first address of each block, nothing at any other place, and what is needed at a return
pub record KeepsNeeds (p : Program) (k : Keeps) : Type 0 where
  pub at : (a : ℕ) → AreKept p a (block_at p a) (k.at a)
  pub returned : AreNeeds p Return k.returned

-- what is kept at each place
abbrev pub KeepsAre : Kept → Keeps → Type 0
KeepsAre (All program) k = k ≡ all_kept program.now
KeepsAre (Needed graph) k = KeepsNeeds graph.now.program k

-- the needs are found
abbrev pub AreFound : Kept → Type 0
AreFound (All program) = Unit {0}
AreFound (Needed graph) = IsTrue graph.now.is_solved

abbrev pub wanted_parts : Wanted → Parts
wanted_parts w = record (w.others) { a = w.a }

-- what is kept where a call of the system goes on, and the parts of it that a direct call loses
abbrev pub kept_behind : Keeps → Exit → Parts
kept_behind k (One (Sys back)) = kept_at k back
kept_behind k x = nothing

abbrev pub lost_of : Parts → Parts
lost_of x = record nothing { b = x.b; l = x.l }
