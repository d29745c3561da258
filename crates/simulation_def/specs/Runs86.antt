-- What a walk's outcome means for the 8086 that runs the text: its parts, SP and memory have the values of the outcome's terms, and
-- the machine comes to where the outcome's exit leads, or asks what it says.
use Rattle.std.specs.Prelude.{◌≡◌, ◌≢◌, ◌<◌, ◌≤◌, ℕ, ◌+◌, ◌*◌, ◌/◌, ◌%◌, Bool, true, cond, List, [], ◌∷◌, ◌++◌, length, Option, Some, Ok, ◌⊎◌}
use Rattle.cells.specs.declared.Place.{Place}
use Rattle.cells.specs.declared.Place.TheVariants.{At as AtPlace, Exit as EndPlace}
use Rattle.cells.specs.declared.Part.{Part}
use Rattle.cells.specs.declared.Part.TheVariants.{A, B, C, D, E, H, L, S, Z, Ac, P, Cy}
use Rattle.cells.specs.Parts.{Parts, has}
use Rattle.i80.specs.declared.Reg.{Reg}
use Rattle.i86.specs.declared.Instr86.{Instr86}
use Rattle.i86.specs.Code.{ReadsCode}
use Rattle.dialogue.specs.declared.request.Event.TheVariants.{In as AskedIn, Out as AskedOut}
use Rattle.dialogue.specs.ByteMemory.{put, word_at}
use Rattle.base.specs.Arithmetic.{as_bit}
use Rattle.dialogue.specs.Run.{Asks}
use Rattle.dialogue.specs.Words.{wrap}
use Rattle.asm86_line_types.specs.declared.line.Label.{Label}
use Rattle.asm86_line_types.specs.declared.line.Label.TheVariants.{At, Sys as SysLabel, End as EndLabel}
use Rattle.asm86_line_types.specs.declared.line.Line86.{Line86}
use Rattle.asm86_line_types.specs.Image.{Assembles, image_of, offset_in, statements}
use Rattle.asm80_types.specs.Program.{Program, is_start}
use Rattle.cpu86.specs.State.{State86, Regs86, Flags86, reg8, put_word, push}
use Rattle.cpu86.specs.Call.{call_system}
use Rattle.cpu86.specs.Step.{step86, machine86}
use Rattle.sym_terms.specs.Term.{Term, High, Low, Loaded16, same_bool}
use Rattle.sym_terms.specs.Values86.{Env86, Load86, LoadedByte, LoadedWord, Number, Val86, start86}
use Rattle.sym_block_def.specs.Outcome.{Action, Load8, Load16, Store8, Store16, Way, Goto, ByTerms, Call, Sys, SysReturn, Boot, Leave, In, Out, Exit, One, Two, Held, Outcome}
use Rattle.templates.specs.Template.{reg_of}
use Rattle.sym_block_def.specs.Block80.{reg_term, MayRun}
use Rattle.sym_block_def.specs.Walk86.{walk86}
use Rattle.sym_block_def.specs.Sorts.{StatementsAreCoded}
use Rattle.sym_block_def.specs.Stands.{label_of}
use Rattle.simulation_def.specs.Steps.{RunsOn}
use Rattle.simulation_def.specs.States.{IsState86}

-- what the 8086 holds for a part of the 8080
abbrev pub part86 : State86 → Part → ℕ
part86 s A = s.regs.al
part86 s B = s.regs.ch
part86 s C = s.regs.cl
part86 s D = s.regs.dh
part86 s E = s.regs.dl
part86 s H = s.regs.bh
part86 s L = s.regs.bl
part86 s S = as_bit s.flags.sf
part86 s Z = as_bit s.flags.zf
part86 s Ac = as_bit s.flags.af
part86 s P = as_bit s.flags.pf
part86 s Cy = as_bit s.flags.cf

-- An environment of a run from a state: it has what the state holds for each part that is kept, and SP; for the other parts it may
-- have any byte, since no term speaks of them. `offset` gives the offset of each label.
pub record IsEnv86 (keep : Parts) (offset : Label → Option ℕ) (s : State86) (e : Env86) : Type 0 where
  pub starts : (q : Part) → has keep q ≡ true → start86 e q ≡ part86 s q
  pub bytes : (q : Part) → start86 e q < 256
  pub sp : e.sp ≡ s.sp
  pub offsets : (q : Place) → e.offset q ≡ offset (label_of q)

abbrev pub with_loads : Env86 → List Load86 → Env86
with_loads e loads = record e { loads = loads }

abbrev pub with_load86 : Env86 → Load86 → Env86
with_load86 e load = record e { loads = e.loads ++ load ∷ [] }

-- the five flags, and the registers, have the values of these terms
abbrev pub FlagsHold86 : Env86 → Held → Flags86 → Type 0
FlagsHold86 e x f =
    Val86 e x.s (Number (as_bit f.sf)) × Val86 e x.z (Number (as_bit f.zf)) × Val86 e x.ac (Number (as_bit f.af)) × Val86 e x.p (Number (as_bit f.pf)) × Val86 e x.cy (Number (as_bit f.cf))

pub record Holds86 (e : Env86) (x : Held) (regs : Regs86) (flags : Flags86) : Type 0 where
  pub in_regs : (r : Reg) → Val86 e (reg_term x r) (Number (reg8 regs (reg_of r)))
  pub in_flags : FlagsHold86 e x flags

-- Loads and stores in their order lead from one memory to another: each term of an action has its value by what was loaded before
-- it, and a load brings the next of these loads.
abbrev pub Replays86 : Env86 → (ℕ → ℕ) → List Action → List Load86 → (ℕ → ℕ) → Type 0
Replays86 e m [] [] m' = m' ≡ m
Replays86 e m [] (load ∷ loads) m' = ⊥
Replays86 e m (Load8 a ∷ xs) [] m' = ⊥
Replays86 e m (Load8 a ∷ xs) (LoadedWord w ∷ loads) m' = ⊥
Replays86 e m (Load8 a ∷ xs) (LoadedByte b ∷ loads) m' =
    (n : ℕ) × (n < 0x10000) × Val86 e a (Number n) × (b ≡ m n) × Replays86 (with_load86 e (LoadedByte b)) m xs loads m'
Replays86 e m (Load16 a ∷ xs) [] m' = ⊥
Replays86 e m (Load16 a ∷ xs) (LoadedByte b ∷ loads) m' = ⊥
Replays86 e m (Load16 a ∷ xs) (LoadedWord w ∷ loads) m' =
    (n : ℕ) × (n < 0x10000) × Val86 e a (Number n) × (w ≡ word_at m n) × Replays86 (with_load86 e (LoadedWord w)) m xs loads m'
Replays86 e m (Store8 a v ∷ xs) loads m' =
    (n b : ℕ) × (n < 0x10000) × (b < 256) × Val86 e a (Number n) × Val86 e v (Number b) × Replays86 e (put m n b) xs loads m'
Replays86 e m (Store16 a v ∷ xs) loads m' =
    (n w : ℕ) × (n < 0x10000) × (w < 0x10000) × Val86 e a (Number n) × Val86 e v (Number w) × Replays86 e (put_word m n w) xs loads m'

-- the way that an exit takes: of two, the one where the flag has the value
abbrev pub Takes86 : Env86 → Exit → Way → Type 0
Takes86 e (One way) taken = taken ≡ way
Takes86 e (Two flag value where_so otherwise) taken =
    (b : Bool) × Val86 e flag (Number (as_bit b)) × (taken ≡ cond (same_bool b value) where_so otherwise)

-- a place that two bytes name: those of BX; or those of the next word that is loaded, which RET pops
pub record GoesByPair86 (e : Env86) (t : State86) (h l : Term) (u : State86) : Type 0 where
  pub high_byte : ℕ
  pub low_byte : ℕ
  pub high_fits : high_byte < 256
  pub low_fits : low_byte < 256
  pub high : Val86 e h (Number high_byte)
  pub low : Val86 e l (Number low_byte)
  pub leads : u ≡ record t { ip = 256 * high_byte + low_byte }

pub record GoesByReturn86 (e : Env86) (t : State86) (h l : Term) (u : State86) : Type 0 where
  pub word : ℕ
  pub popped : word ≡ word_at t.mem t.sp
  pub is_high : h ≡ High (Loaded16 (length e.loads))
  pub is_low : l ≡ Low (Loaded16 (length e.loads))
  pub high : Val86 (with_load86 e (LoadedWord word)) h (Number (word / 256))
  pub low : Val86 (with_load86 e (LoadedWord word)) l (Number (word % 256))
  pub leads : u ≡ record t { ip = word; sp = wrap (t.sp + 2) }

-- the machine stands at a label
abbrev pub StandsAtLabel : (Label → Option ℕ) → Label → State86 → State86 → Type 0
StandsAtLabel offset l t u = (n : ℕ) × (offset l ≡ Some n) × (u ≡ record t { ip = n })

-- an offset is that of the place where a call comes back; of EXIT here, which stands for no place that is known, nothing is said
abbrev pub ComesBackTo : (Label → Option ℕ) → Place → ℕ → Type 0
ComesBackTo offset (AtPlace a) n = offset (At a) ≡ Some n
ComesBackTo offset EndPlace n = Unit {0}

-- the machine stands at a label, behind a call that pushed where it comes back
abbrev pub Called : (Label → Option ℕ) → (ℕ → Type 0) → Label → State86 → State86 → Type 0
Called offset IsBack l t u = (n : ℕ) × (n < 0x10000) × IsBack n × StandsAtLabel offset l (push t n) u

-- where what asks goes on: at a place, where an instruction starts there; of EXIT nothing is said
abbrev pub GoesOnAt : Program → (Label → Option ℕ) → Place → ℕ → Type 0
GoesOnAt p offset (AtPlace a) n = is_start p a ≡ true → offset (At a) ≡ Some n
GoesOnAt p offset EndPlace n = Unit {0}

-- where a way leads, from a state `t` to a state `u`
abbrev pub Leads86 : Program → (Label → Option ℕ) → Env86 → State86 → Way → State86 → Type 0
Leads86 p offset e t (Goto q) u = StandsAtLabel offset (label_of q) t u
Leads86 p offset e t (ByTerms h l) u = GoesByPair86 e t h l u ⊎ GoesByReturn86 e t h l u
Leads86 p offset e t (Call target back) u = Called offset (ComesBackTo offset back) (label_of target) t u
Leads86 p offset e t (Sys back) u = Called offset (GoesOnAt p offset back) SysLabel t u
Leads86 p offset e t SysReturn u = StandsAtLabel offset SysLabel t u
Leads86 p offset e t Boot u = StandsAtLabel offset EndLabel t u
Leads86 p offset e t Leave u = ⊥
Leads86 p offset e t (In port next) u = ⊥
Leads86 p offset e t (Out port next) u = ⊥

-- what the machine asks at `u` by a way, with any choice, and where it goes on: INT 224, of a direct call with a function other than
-- 0, calls the system; IN and OUT ask a port
abbrev pub Asks86 : Program → (ℕ → Option Instr86) → (Label → Option ℕ) → Bool → State86 → Way → State86 → Type 0
Asks86 p fetch offset direct t (Sys back) u =
    (n : ℕ) × (direct ≡ true) × (t.regs.cl ≢ 0) × GoesOnAt p offset back n
    × ((choice : ℕ) → step86 fetch u choice ≡ call_system (record t { ip = n }) choice)
Asks86 p fetch offset direct t (In port next) u =
    (n : ℕ) × GoesOnAt p offset next n × ((choice : ℕ) → step86 fetch u choice ≡ Asks (AskedIn port) (record t { ip = n }))
Asks86 p fetch offset direct t (Out port next) u =
    (n : ℕ) × GoesOnAt p offset next n × ((choice : ℕ) → step86 fetch u choice ≡ Asks (AskedOut port t.regs.al) (record t { ip = n }))
Asks86 p fetch offset direct t (Goto q) u = ⊥
Asks86 p fetch offset direct t (ByTerms h l) u = ⊥
Asks86 p fetch offset direct t (Call target back) u = ⊥
Asks86 p fetch offset direct t SysReturn u = ⊥
Asks86 p fetch offset direct t Boot u = ⊥
Asks86 p fetch offset direct t Leave u = ⊥

-- the machine comes to where the way leads in at least one step; or it asks in the step that follows
pub record Leaves86 (p : Program) (fetch : ℕ → Option Instr86) (offset : Label → Option ℕ) (count : ℕ) (e : Env86) (t : State86) (way : Way) (steps : ℕ) (u : State86) : Type 0 where
  pub some : 1 ≤ steps
  pub few : steps ≤ 10 * count
  pub leads : Leads86 p offset e t way u

pub record LeavesAsking86 (p : Program) (fetch : ℕ → Option Instr86) (offset : Label → Option ℕ) (count : ℕ) (direct : Bool) (t : State86) (way : Way) (steps : ℕ) (u : State86) : Type 0 where
  pub few : steps + 1 ≤ 10 * count
  pub asks : Asks86 p fetch offset direct t way u

-- A text is walked: each instruction of the walk is one step that runs on, whatever the choices give, up to where the taken way
-- leads; only what asks asks in the step behind them. The state with which the terms end has their values.
pub record WalkRuns86 (p : Program) (fetch : ℕ → Option Instr86) (offset : Label → Option ℕ) (choices : List ℕ) (used count : ℕ) (o : Outcome) (s : State86) (e : Env86) : Type 0 where
  pub steps : ℕ
  pub arrived : State86
  pub runs : RunsOn (machine86 fetch) choices steps used s arrived
  pub loads : List Load86
  pub ended : State86
  pub is_state : IsState86 ended
  pub holds : Holds86 (with_loads e loads) o.held ended.regs ended.flags
  pub sp : Val86 (with_loads e loads) o.sp (Number ended.sp)
  pub memory : Replays86 (with_loads e []) s.mem o.actions loads ended.mem
  pub dma : ended.dma ≡ s.dma
  pub data_segment : ended.ds ≡ s.ds
  pub stack_segment : ended.ss ≡ s.ss
  pub way : Way
  pub takes : Takes86 (with_loads e loads) o.exit way
  pub leaves : Leaves86 p fetch offset count (with_loads e loads) ended way steps arrived ⊎ LeavesAsking86 p fetch offset count o.direct ended way steps arrived
  pub one : o.direct ≡ true → o.exit ≡ One way
  pub direct : o.direct ≡ true → LeavesAsking86 p fetch offset count o.direct ended way steps arrived

-- the offset of each label of a text
abbrev pub offsets_of : List Line86 → Label → Option ℕ
offsets_of lines = offset_in (image_of lines).labels

-- each walk with an outcome is what the machine does from each state at the leader's label
abbrev pub WalksRun86 : Type 0
WalksRun86 =
    (p : Program) (lines : List Line86) (fetch : ℕ → Option Instr86) (keep : Parts) (first count : ℕ) (o : Outcome)
    (choices : List ℕ) (used : ℕ) (s : State86) (e : Env86) →
    Assembles lines →
    StatementsAreCoded (statements lines) →
    ReadsCode (image_of lines).code fetch →
    MayRun p first count →
    walk86 p (statements lines) keep first count ≡ Ok o →
    IsState86 s →
    s.ss ≡ s.ds →
    offsets_of lines (At first) ≡ Some s.ip →
    IsEnv86 keep (offsets_of lines) s e →
    WalkRuns86 p fetch (offsets_of lines) choices used count o s e
