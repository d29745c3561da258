-- What a block's outcome means for the tagged 8080 that runs the block: its parts, SP and memory have the values of the outcome's
-- terms, and its last step answers as the outcome's exit says.
use Rattle.std.specs.Prelude.{◌≡◌, ◌<◌, ℕ, ◌+◌, ◌-◌, Bool, true, false, cond, List, [], ◌∷◌, ◌++◌, length, Some, Result, Ok, ◌⊎◌}
use Rattle.cells.specs.declared.Place.{Place}
use Rattle.cells.specs.declared.Place.TheVariants.{At}
use Rattle.cells.specs.declared.Cell.{Cell}
use Rattle.cells.specs.declared.Cell.TheVariants.{Num, Lo, Hi}
use Rattle.cells.specs.declared.Rule.{Rule}
use Rattle.cells.specs.declared.Flags.{Flags}
use Rattle.i80.specs.declared.Reg.{Reg}
use Rattle.dialogue.specs.Tried.{try_then}
use Rattle.dialogue.specs.declared.request.Event.TheVariants.{In as AskedIn, Out as AskedOut}
use Rattle.dialogue.specs.Run.{Answer, Ran, Asks, Ends, Stops}
use Rattle.dialogue.specs.Words.{wrap}
use Rattle.asm80_types.specs.Program.{Program, IsProgram}
use Rattle.cpu80_tagged.specs.State.{State80, Regs80, reg80}
use Rattle.cpu80_tagged.specs.Memory.{is_closed, is_write_protected, put, read_word}
use Rattle.cpu80_tagged.specs.Effect.{push}
use Rattle.cpu80_tagged.specs.Call.{Return, call_system, place_if, is_place, popped_return}
use Rattle.cpu80_tagged.specs.Step.{step80, leave_to, return_at, machine80}
use Rattle.sym_terms.specs.Term.{Term, High, Low, Loaded16, same_bool}
use Rattle.sym_terms.specs.Values80.{Env80, Load80, LoadedByte, LoadedWord, Byte, Word, OneBit, word_of, Val80}
use Rattle.sym_block_def.specs.Outcome.{Action, Load8, Load16, Store8, Store16, Way, Goto, ByTerms, Call, Sys, SysReturn, Boot, Leave, In, Out, Exit, One, Two, Held, Outcome}
use Rattle.sym_block_def.specs.Block80.{reg_term, MayRun, block80}
use Rattle.simulation_def.specs.Steps.{RunsOn}
use Rattle.simulation_def.specs.States.{IsHeldPlace, IsState80}

-- the environment of a run: what a state holds at the start, and what was loaded since, in order
abbrev pub env80 : State80 → List Load80 → Env80
env80 s loads = record {
  a = s.regs.a;
  b = s.regs.b;
  c = s.regs.c;
  d = s.regs.d;
  e = s.regs.e;
  h = s.regs.h;
  l = s.regs.l;
  flags = s.flags;
  sp = s.sp;
  loads = loads;
}

abbrev pub with_load80 : Env80 → Load80 → Env80
with_load80 e load = record e { loads = e.loads ++ load ∷ [] }

-- the five flags, and the registers, have the values of these terms
abbrev pub FlagsHold80 : Env80 → Held → Flags → Type 0
FlagsHold80 e x f =
    Val80 e x.s (OneBit f.s) × Val80 e x.z (OneBit f.z) × Val80 e x.ac (OneBit f.ac) × Val80 e x.p (OneBit f.p) × Val80 e x.cy (OneBit f.cy)

pub record Holds80 (e : Env80) (x : Held) (regs : Regs80) (flags : Flags) : Type 0 where
  pub in_regs : (r : Reg) → Val80 e (reg_term x r) (Byte (reg80 regs r))
  pub in_flags : FlagsHold80 e x flags

-- an address of a byte, and of a word, which does not begin at the last cell
abbrev pub IsAddress : Env80 → Term → ℕ → Type 0
IsAddress e t n = (n < 0x10000) × Val80 e t (word_of n)

abbrev pub IsWordAddress : Env80 → Term → ℕ → Type 0
IsWordAddress e t n = (n + 1 < 0x10000) × Val80 e t (word_of n)

-- Loads and stores in their order lead from one memory to another: each term of an action has its value by what was loaded before
-- it, a load brings the next of these loads from a cell that is not closed, and a store goes to one that may be written.
abbrev pub Replays80 : Program → Env80 → (ℕ → Cell) → List Action → List Load80 → (ℕ → Cell) → Type 0
Replays80 p e m [] [] m' = m' ≡ m
Replays80 p e m [] (load ∷ loads) m' = ⊥
Replays80 p e m (Load8 a ∷ xs) [] m' = ⊥
Replays80 p e m (Load8 a ∷ xs) (LoadedWord h l ∷ loads) m' = ⊥
Replays80 p e m (Load8 a ∷ xs) (LoadedByte c ∷ loads) m' =
    (n : ℕ) × IsAddress e a n × (is_closed p n ≡ false) × (c ≡ m n) × Replays80 p (with_load80 e (LoadedByte c)) m xs loads m'
Replays80 p e m (Load16 a ∷ xs) [] m' = ⊥
Replays80 p e m (Load16 a ∷ xs) (LoadedByte c ∷ loads) m' = ⊥
Replays80 p e m (Load16 a ∷ xs) (LoadedWord h l ∷ loads) m' =
    (n : ℕ) × IsWordAddress e a n × (is_closed p n ≡ false) × (is_closed p (n + 1) ≡ false) × (l ≡ m n) × (h ≡ m (n + 1))
    × Replays80 p (with_load80 e (LoadedWord h l)) m xs loads m'
Replays80 p e m (Store8 a v ∷ xs) loads m' =
    (n : ℕ) × (c : Cell) × IsAddress e a n × Val80 e v (Byte c) × (is_write_protected p n ≡ false) × Replays80 p e (put m n c) xs loads m'
Replays80 p e m (Store16 a v ∷ xs) loads m' =
    (n : ℕ) × (h l : Cell) × IsWordAddress e a n × Val80 e v (Word h l) × (is_write_protected p n ≡ false) × (is_write_protected p (n + 1) ≡ false)
    × Replays80 p e (put (put m n l) (n + 1) h) xs loads m'

-- the way that an exit takes: of two, the one where the flag has the value, which is known
abbrev pub Takes80 : Env80 → Exit → Way → Type 0
Takes80 e (One way) taken = taken ≡ way
Takes80 e (Two flag value where_so otherwise) taken =
    (b : Bool) × Val80 e flag (OneBit (Some b)) × (taken ≡ cond (same_bool b value) where_so otherwise)

-- a place that two bytes name: those of a register pair; or those of the next word that is loaded, from SP as a return, SP rising by 2
pub record GoesByPair80 (p : Program) (e : Env80) (t : State80) (h l : Term) (a : Answer State80 Rule) : Type 0 where
  pub place : Place
  pub is_held : IsHeldPlace p place
  pub high : Val80 e h (Byte (Hi place))
  pub low : Val80 e l (Byte (Lo place))
  pub is_place : is_place p place ≡ true
  pub answers : a ≡ leave_to t t.sp place

pub record GoesByReturn80 (p : Program) (e : Env80) (t : State80) (h l : Term) (a : Answer State80 Rule) : Type 0 where
  pub place : Place
  pub is_held : IsHeldPlace p place
  pub loaded : read_word p t t.sp ≡ Ok (record { high = Hi place; low = Lo place })
  pub is_high : h ≡ High (Loaded16 (length e.loads))
  pub is_low : l ≡ Low (Loaded16 (length e.loads))
  pub high : Val80 (with_load80 e (LoadedWord (Hi place) (Lo place))) h (Byte (Hi place))
  pub low : Val80 (with_load80 e (LoadedWord (Hi place) (Lo place))) l (Byte (Lo place))
  pub is_place : is_place p place ≡ true
  pub answers : a ≡ leave_to t (wrap (t.sp + 2)) place

-- where a call of the system, or what asks a port, goes on: at a place, if an instruction is there (P1)
abbrev pub going_on : Program → State80 → Place → Result Return Rule
going_on p t q = try_then (place_if (is_place p q) q) (λ r. Ok (record { place = r; sp = t.sp; is_popped = false }))

-- what the last step of a block answers by the way that is taken; the terms' values are those of the state `t`
abbrev pub Answers80 : Program → Env80 → State80 → Way → Answer State80 Rule → Type 0
Answers80 p e t (Goto q) a = (is_place p q ≡ true) × (a ≡ Ran (record t { place = q }))
Answers80 p e t (ByTerms h l) a = GoesByPair80 p e t h l a ⊎ GoesByReturn80 p e t h l a
Answers80 p e t (Call target back) a =
    (u : State80) × (is_place p target ≡ true) × IsHeldPlace p back × (push p t (Hi back) (Lo back) ≡ Ok u) × (a ≡ Ran (record u { place = target }))
Answers80 p e t (Sys back) a = (return_at p t t.place ≡ going_on p t back) × (a ≡ call_system p t (going_on p t back))
Answers80 p e t SysReturn a = (return_at p t t.place ≡ popped_return p t) × (a ≡ call_system p t (popped_return p t))
Answers80 p e t Boot a = a ≡ Ends
Answers80 p e t Leave a = ⊥
Answers80 p e t (In port next) a = (is_place p next ≡ true) × (return_at p t t.place ≡ going_on p t next) × (a ≡ Asks (AskedIn port) t)
Answers80 p e t (Out port next) a =
    (byte : ℕ) × (t.regs.a ≡ Num byte) × (is_place p next ≡ true) × (return_at p t t.place ≡ going_on p t next) × (a ≡ Asks (AskedOut port byte) t)

-- A block of so many instructions runs: all steps but the last run on, so that an event can join the dialogue in the last alone.
-- That one answers by the way that the exit takes. The state with which the terms end has their values.
pub record BlockRuns80 (p : Program) (count : ℕ) (o : Outcome) (s : State80) : Type 0 where
  pub last : State80
  pub runs : RunsOn (machine80 p) [] (count - 1) 0 s last
  pub loads : List Load80
  pub ended : State80
  pub is_state : IsState80 p ended
  pub holds : Holds80 (env80 s loads) o.held ended.regs ended.flags
  pub sp : Val80 (env80 s loads) o.sp (word_of ended.sp)
  pub memory : Replays80 p (env80 s []) s.mem o.actions loads ended.mem
  pub dma : ended.dma ≡ s.dma
  pub way : Way
  pub takes : Takes80 (env80 s loads) o.exit way
  pub answers : Answers80 p (env80 s loads) ended way (step80 p last)

-- one of so many steps leaves the profile, and those before it run on
pub record BlockLeaves80 (p : Program) (count : ℕ) (s : State80) : Type 0 where
  pub before : ℕ
  pub within : before < count
  pub last : State80
  pub runs : RunsOn (machine80 p) [] before 0 s last
  pub rule : Rule
  pub stops : step80 p last ≡ Stops rule

-- from each state at a block's first instruction, the machine leaves the profile within the block or runs it
abbrev pub BlocksRun80 : Type 0
BlocksRun80 =
    (p : Program) (first count : ℕ) (s : State80) → IsProgram p → MayRun p first count → IsState80 p s → s.place ≡ At first →
    BlockLeaves80 p count s ⊎ BlockRuns80 p count (block80 p first count) s
