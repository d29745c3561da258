-- Two machines have the same dialogue, by numbers of turns.
use Rattle.std.specs.Prelude.{ℕ, ◌+◌, ◌*◌, ◌≤◌}
use Rattle.dialogue.specs.Run.{Run, IsNotStopped, IsFrontOf}

-- as far as the first run has come without stopping, the second has the same dialogue. It is not behind once it has taken
-- 16 turns for each of the first's and 16 more; and once the first has taken 16 turns for each of the second's and 16 more,
-- the second is not ahead and has not stopped
pub record SameDialogue (S X S' X' : Type 0) (first : ℕ → Run S X) (second : ℕ → Run S' X') : Type 0 where
  pub follows : (n m : ℕ) → IsNotStopped (first n).status → 16 * n + 16 ≤ m → IsFrontOf (first n).dialogue (second m).dialogue
  pub leads : (n m : ℕ) → IsNotStopped (first n).status → 16 * (m + 1) ≤ n → IsFrontOf (second m).dialogue (first n).dialogue
  pub goes_on : (n m : ℕ) → IsNotStopped (first n).status → 16 * (m + 1) ≤ n → IsNotStopped (second m).status
