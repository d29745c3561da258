-- The front of a block: so many of its instructions, as a block to be run.
use Rattle.std.proofs.Common.{◌≡◌, ℕ, zero, suc, ◌+◌, ◌<◌, ◌≤◌, length, refl, ap, arith}
use Rattle.i80.specs.Columns.{length80}
use Rattle.asm80_types.specs.Program.{Program}
use Rattle.flow.specs.Blocks.{IsStraight}
use Rattle.sym_block_def.specs.Block80.{MayRun, OnlyLastEnds, instrs_from}

front_whole : (p : Program) (a n k : ℕ) → IsStraight p a n → k ≤ n → length (instrs_from p a k) ≡ k
front_whole p a n zero h le = refl
front_whole p a zero (suc k) h le = absurd (omega (arith, le))
front_whole p a (suc n) (suc k) h le = rw (h.1) (ap suc (front_whole p (a + length80 h.0) n k h.3 (omega (arith, le))))

front_ends : (p : Program) (a n k : ℕ) → IsStraight p a n → k ≤ n → OnlyLastEnds (instrs_from p a k)
front_ends p a n zero h le = tt
front_ends p a zero (suc k) h le = absurd (omega (arith, le))
front_ends p a (suc n) (suc zero) h le = rw (h.1) tt
front_ends p a (suc zero) (suc (suc k)) h le = absurd (omega (arith, le))
front_ends p a (suc (suc n)) (suc (suc k)) h le =
    let rest = front_ends p (a + length80 h.0) (suc n) (suc k) h.3 (omega (arith, le)) in
    rw (h.1, h.3.1) (h.2 (omega arith), rw (h.3.1) at rest)

pub front_may_run : (p : Program) (a n k : ℕ) → IsStraight p a n → n ≤ 16 → 0 < k → k ≤ n → MayRun p a k
front_may_run p a n k h few some le = record { some = some; few = omega (arith, few, le); whole = front_whole p a n k h le; ends = front_ends p a n k h le }
