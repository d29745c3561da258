-- How the walk goes through statements that go on to the next, and how it ends where a template stands that ends a block.
use Rattle.std.specs.Prelude.{◌≡◌, ℕ, suc, ◌≤◌, length, Bool, true, false, List, [], ◌∷◌, ◌++◌, Some, Result, Ok}
use Rattle.cells.specs.declared.Part.{Part}
use Rattle.cells.specs.declared.Part.TheVariants.{C}
use Rattle.cells.specs.declared.Cond.{Cond}
use Rattle.cells.specs.Parts.{Parts}
use Rattle.i80.specs.declared.Goal.{Goal}
use Rattle.i80.specs.declared.Goal.TheVariants.{Bdos}
use Rattle.i80.specs.declared.Instr80.{Instr80}
use Rattle.i80.specs.declared.Instr80.TheVariants.{Jif, Call, Cif, Rif}
use Rattle.i80.specs.Columns.{ends80, uses80, is_well_formed, flag_of_condition}
use Rattle.i86.specs.declared.Jump.{Jump}
use Rattle.i86.specs.declared.Instr86.{Instr86}
use Rattle.i86.specs.declared.Instr86.TheVariants.{MovSsAx, Jcc, JmpNear, JmpShort, JmpBx, CallNear, Ret, Int224, InAl, OutAl}
use Rattle.asm80_types.specs.Program.{Program, is_start}
use Rattle.asm86_line_types.specs.declared.line.Label.{Label}
use Rattle.asm86_line_types.specs.declared.line.Label.TheVariants.{At, Skip}
use Rattle.asm86_line_types.specs.declared.line.Stmt86.{Stmt86}
use Rattle.asm86_line_types.specs.declared.line.Stmt86.TheVariants.{Mark, Run, MovOffset, Jcc as JccTo}
use Rattle.templates.specs.Template.{template, label_of_goal}
use Rattle.sym_block_def.specs.declared.reason.Reason.{Reason}
use Rattle.sym_block_def.specs.Outcome.{Way, Exit, Held, Outcome}
use Rattle.sym_block_def.specs.Block80.{Symbolic80, flag_term, wanted, exit80}
use Rattle.sym_block_def.specs.Symbolic86.{Symbolic86}
use Rattle.sym_block_def.specs.Walk86.{Surroundings, after_label, way_to, is_passed, met, outcome86, flag_of_jump, jumps_at, is_call, walk_through, walk_some}
use Rattle.sym_block_def.specs.Agree.{exit_agrees}
use Rattle.templates_law.specs.Match.Meeting.{Among, Agree}
use Rattle.templates_law.specs.Match.Rows.{all_passed}

-- an instruction that goes on to the next statement
abbrev pub goes_on : Instr86 → Bool
goes_on Ret = false
goes_on JmpBx = false
goes_on Int224 = false
goes_on (InAl port) = false
goes_on (OutAl port) = false
goes_on MovSsAx = false
goes_on (Jcc j d) = false
goes_on (JmpNear d) = false
goes_on (JmpShort d) = false
goes_on (CallNear d) = false
goes_on i = true

abbrev pub is_straight : Stmt86 → Bool
is_straight (Run i) = goes_on i
is_straight (MovOffset r l) = true
is_straight x = false

abbrev pub AreStraight : List Stmt86 → Type 0
AreStraight [] = Unit {0}
AreStraight (x ∷ xs) = (is_straight x ≡ true) × AreStraight xs

-- room for so many statements more
abbrev pub room_for : List Stmt86 → ℕ → ℕ
room_for [] room = room
room_for (x ∷ xs) room = suc (room_for xs room)

-- the walk passes statements that go on, each by its effect
abbrev pub StatementsArePassed : Type 0
StatementsArePassed =
    (w : Surroundings) (xs rest : List Stmt86) (room : ℕ) (t : Symbolic86) →
    AreStraight xs →
    walk_through w (room_for xs room) (met w (xs ++ rest)) t ≡ walk_through w room (met w rest) (all_passed t xs)

-- templates: where the instruction goes on all of their statements do; they are few; and they begin with a statement, so that a walk
-- that begins with one passes an instruction
pub record TemplatesAreWalked : Type 0 where
  pub straight : (i : Instr80) (at : ℕ) (save : Bool) → ends80 i ≡ false → AreStraight (template i at save)
  pub few : (i : Instr80) (at : ℕ) (save : Bool) → length (template i at save) ≤ 5
  pub some : (i : Instr80) (at : ℕ) (save : Bool) (w : Surroundings) (room : ℕ) (rest : List Stmt86) (t : Symbolic86) →
      is_well_formed i ≡ true →
      walk_some w room (met w (template i at save ++ rest)) t ≡ walk_through w room (met w (template i at save ++ rest)) t

-- What stands behind a block: a label at which its way ends, and which is that of the address after it where an instruction starts
-- there.
pub record EndsBehind (w : Surroundings) (rest : List Stmt86) : Type 0 where
  pub label : Label
  pub more : List Stmt86
  pub way : Way
  pub begins : rest ≡ Mark label ∷ more
  pub stops : is_passed w label ≡ false
  pub leads : way_to label ≡ Some way
  pub next : w.goes_on ≡ true → label ≡ At w.after

-- the statements behind a condition's own label are those behind its template
abbrev pub SkipsTo : Surroundings → Instr80 → ℕ → List Stmt86 → Type 0
SkipsTo w (Jif c goal) at rest = after_label w.text (Skip at) ≡ Some rest
SkipsTo w (Cif c goal) at rest = after_label w.text (Skip at) ≡ Some rest
SkipsTo w (Rif c) at rest = after_label w.text (Skip at) ≡ Some rest
SkipsTo w i at rest = Unit {0}

-- the walk ends with the terms that it has, by an exit that agrees with one of the 8080; `direct` where INT 224 asks the system
pub record WalkEnds (walked : Result Outcome Reason) (t : Symbolic86) (direct : Bool) (exit : Exit) : Type 0 where
  pub exit86 : Exit
  pub is : walked ≡ Ok (outcome86 t direct exit86)
  pub agrees : exit_agrees exit exit86 ≡ true

-- a jump where a condition holds
pub record JumpsWhere (c : Cond) (j : Jump) : Type 0 where
  pub flag : (x : Held) → flag_of_jump x j ≡ flag_term x c
  pub value : jumps_at j ≡ wanted c

pub record ExitsAgree : Type 0 where
  -- the template of an instruction that ends a block, in any text
  pub ending : (p : Program) (w : Surroundings) (before : Parts) (i : Instr80) (at room : ℕ) (save : Bool) (rest : List Stmt86) (s : Symbolic80) (t : Symbolic86) →
      ends80 i ≡ true →
      w.goes_on ≡ is_start p w.after →
      EndsBehind w rest →
      SkipsTo w i at rest →
      ((q : Part) → Among (uses80 i) q → Among before q) →
      Agree (Among before) s t →
      WalkEnds (walk_through w (suc (suc room)) (met w (template i at save ++ rest)) t) t false (exit80 p w.after s i)
  -- the end of a block whose last instruction goes on
  pub falling : (p : Program) (w : Surroundings) (i : Instr80) (room : ℕ) (rest : List Stmt86) (s : Symbolic80) (t : Symbolic86) →
      ends80 i ≡ false →
      w.goes_on ≡ is_start p w.after →
      EndsBehind w rest →
      WalkEnds (walk_through w room (met w rest) t) t false (exit80 p w.after s i)
  -- a conditional jump that is the one short jump where the condition holds
  pub short : (p : Program) (w : Surroundings) (before : Parts) (c : Cond) (goal : Goal) (j : Jump) (room : ℕ) (rest : List Stmt86) (s : Symbolic80) (t : Symbolic86) →
      JumpsWhere c j →
      w.goes_on ≡ is_start p w.after →
      EndsBehind w rest →
      ((q : Part) → Among (flag_of_condition c) q → Among before q) →
      Agree (Among before) s t →
      WalkEnds (walk_through w (suc room) (met w (JccTo j (label_of_goal goal) ∷ rest)) t) t false (exit80 p w.after s (Jif c goal))
  -- and a call of the system by INT 224, where C holds a number other than 0
  pub direct : (p : Program) (w : Surroundings) (before : Parts) (room : ℕ) (rest : List Stmt86) (s : Symbolic80) (t : Symbolic86) →
      is_call s.held.c ≡ true →
      Among before C →
      w.goes_on ≡ is_start p w.after →
      EndsBehind w rest →
      Agree (Among before) s t →
      WalkEnds (walk_through w (suc room) (met w (Run Int224 ∷ rest)) t) t true (exit80 p w.after s (Call Bdos))
