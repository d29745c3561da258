-- The status of a command by the one thing that its work comes to.
use Rattle.std.specs.Prelude.{◌≡◌, ℕ, ◌⊎◌, Result, Ok, Err}
use Rattle.cmd_common.specs.declared.stop.Stop.{Stop}
use Rattle.cmd_common.specs.Lines.{status_of}

-- the status of a work that was done, which its count says, or of a stop
abbrev pub came_status : Result ℕ Stop → ℕ
came_status (Ok count) = 0
came_status (Err stop) = status_of stop

-- this alone is what the work comes to
pub record IsOnlyEnd (Comes : Result ℕ Stop → Type 0) (r : Result ℕ Stop) : Type 0 where
  pub comes : Comes r
  pub only : (other : Result ℕ Stop) → Comes other → other ≡ r

-- the status is that of the one thing that the work comes to, want of memory aside
abbrev pub HasStatus : (Result ℕ Stop → Type 0) → ℕ → Type 0
HasStatus Comes status = (status ≡ 5) ⊎ ((r : Result ℕ Stop) × IsOnlyEnd Comes r × (status ≡ came_status r))
