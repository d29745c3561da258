-- The blocks of a program are blocks to run.
use Rattle.std.proofs.Common.{◌≡◌, ℕ, zero, suc, ◌+◌, length, refl, ap, arith}
use Rattle.i80.specs.Columns.{length80}
use Rattle.asm80_types.specs.Program.{Program}
use Rattle.flow.specs.Blocks.{IsStraight, IsBlockOf, BlocksCut}
use Rattle.sym_block_def.specs.Block80.{MayRun, OnlyLastEnds, instrs_from}

straight_whole : (p : Program) (a n : ℕ) → IsStraight p a n → length (instrs_from p a n) ≡ n
straight_whole p a zero h = refl
straight_whole p a (suc n) h = rw (h.1) (ap suc (straight_whole p (a + length80 h.0) n h.3))

straight_ends : (p : Program) (a n : ℕ) → IsStraight p a n → OnlyLastEnds (instrs_from p a n)
straight_ends p a zero h = tt
straight_ends p a (suc zero) h = rw (h.1) tt
straight_ends p a (suc (suc n)) h =
    let rest = straight_ends p (a + length80 h.0) (suc n) h.3 in
    rw (h.1, h.3.1) (h.2 (omega arith), rw (h.3.1) at rest)

-- a block of the cut is one to be run
pub may_run : (p : Program) (a n : ℕ) → BlocksCut p → IsBlockOf p a n → MayRun p a n
may_run p a n cut h =
    let size = cut.sizes a n h in
    let straight = cut.straight a n h in
    record { some = size.0; few = size.1; whole = straight_whole p a n straight; ends = straight_ends p a n straight }
