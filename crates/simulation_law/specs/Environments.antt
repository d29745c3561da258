-- Linked runs have environments that stand for one another, whatever the 8086 holds in the parts that are not kept.
use Rattle.std.specs.Prelude.{◌≡◌, ◌<◌, ℕ, List, [], Option, Some}
use Rattle.cells.specs.declared.Place.{Place}
use Rattle.cells.specs.declared.Rule.{Rule}
use Rattle.cells.specs.Parts.{Parts}
use Rattle.dialogue.specs.Run.{Run}
use Rattle.asm86_line_types.specs.declared.line.Label.{Label}
use Rattle.asm80_types.specs.Program.{Program}
use Rattle.cpu80_tagged.specs.State.{State80}
use Rattle.cpu86.specs.State.{State86}
use Rattle.cpu86.specs.Call.{Stop}
use Rattle.sym_terms.specs.Values86.{Env86}
use Rattle.sym_block_def.specs.BlockMatch.{Keeps, kept_at}
use Rattle.simulation_def.specs.States.{IsHeldPlace}
use Rattle.simulation_def.specs.Runs80.{env80}
use Rattle.simulation_def.specs.Runs86.{IsEnv86}
use Rattle.simulation_def.specs.Linked.{places, Linked}
use Rattle.simulation_law.specs.Linked.{EnvsStand}
use Rattle.simulation_law.specs.Replayed.{MemoryStands}

-- each place that a register or a cell may hold has a label in the code
abbrev pub HasLabels : Program → (Label → Option ℕ) → Type 0
HasLabels p offset = (q : Place) → IsHeldPlace p q → (n : ℕ) × (places offset q ≡ Some n) × (n < 0x10000)

-- what the two states hold, where so much is kept
pub record HasEnvs (p : Program) (offset : Label → Option ℕ) (keep : Parts) (s : State80) (t : State86) : Type 0 where
  pub env : Env86
  pub is_env : IsEnv86 keep offset t env
  pub unloaded : env.loads ≡ []
  pub envs : EnvsStand (places offset) (env80 s []) env
  pub memory : MemoryStands p (places offset) s.mem t.mem

abbrev pub LinkedRunsHaveEnvs : Type 0
LinkedRunsHaveEnvs =
    (p : Program) (offset : Label → Option ℕ) (cut : List (ℕ × ℕ)) (keeps : Keeps) (x : Run State80 Rule) (y : Run State86 Stop) →
    HasLabels p offset →
    Linked p offset cut keeps x y →
    HasEnvs p offset (kept_at keeps x.state.place) x.state y.state
