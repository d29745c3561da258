-- Loads and stores that agree, replayed by both machines.
use Rattle.std.specs.Prelude.{◌≡◌, ◌<◌, ℕ, true, false, List, ◌++◌, Option}
use Rattle.cells.specs.declared.Place.{Place}
use Rattle.cells.specs.declared.Cell.{Cell}
use Rattle.asm80_types.specs.Program.{Program}
use Rattle.cpu80_tagged.specs.Memory.{is_closed}
use Rattle.sym_terms.specs.Values80.{Env80, Load80}
use Rattle.sym_terms.specs.Values86.{Env86, Load86}
use Rattle.sym_block_def.specs.Outcome.{Action}
use Rattle.sym_block_def.specs.Sorts.{ActionsAreSorted}
use Rattle.sym_block_def.specs.Agree.{actions_agree}
use Rattle.sym_block_def.specs.Stands.{Stands}
use Rattle.simulation_def.specs.Runs80.{Replays80}
use Rattle.simulation_def.specs.Runs86.{Replays86}
use Rattle.simulation_law.specs.Linked.{EnvsStand}

-- each cell that is not closed stands for the 8086's, and those are bytes
pub record MemoryStands (p : Program) (offset : Place → Option ℕ) (m : ℕ → Cell) (n : ℕ → ℕ) : Type 0 where
  pub cells : (a : ℕ) → a < 0x10000 → is_closed p a ≡ false → Stands offset (m a) (n a)
  pub bytes : (a : ℕ) → n a < 256

-- after actions that agree, what was loaded stands for one another, and so does memory
pub record ReplayedStand (p : Program) (offset : Place → Option ℕ) (e : Env80) (d : Env86) (loads80 : List Load80) (loads86 : List Load86) (m : ℕ → Cell) (n : ℕ → ℕ) : Type 0 where
  pub envs : EnvsStand offset (record e { loads = e.loads ++ loads80 }) (record d { loads = d.loads ++ loads86 })
  pub memory : MemoryStands p offset m n

abbrev pub AgreeingActionsStand : Type 0
AgreeingActionsStand =
    (p : Program) (offset : Place → Option ℕ) (e : Env80) (d : Env86) (xs ys : List Action) (loads80 : List Load80) (loads86 : List Load86) (m m' : ℕ → Cell) (n n' : ℕ → ℕ) →
    EnvsStand offset e d →
    MemoryStands p offset m n →
    ActionsAreSorted ys →
    actions_agree xs ys ≡ true →
    Replays80 p e m xs loads80 m' →
    Replays86 d n ys loads86 n' →
    ReplayedStand p offset e d loads80 loads86 m' n'
