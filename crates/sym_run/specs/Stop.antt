-- The statement at which a walk through a text ends: where the walk is refused, the one that it is refused at. No term is looked at, since
-- none has a say in where a walk goes on. A position is what stands in the text from a statement on.
use Rattle.std.specs.Prelude.{◌≡◌, ◌≤◌, ℕ, zero, suc, ◌*◌, Bool, true, false, cond, List, [], ◌∷◌, length, drop, Option, Some, None, is_some, Err}
use Rattle.i86.specs.declared.Instr86.{Instr86}
use Rattle.i86.specs.declared.Instr86.TheVariants.{MovSsAx, Jcc, JmpNear, JmpShort, JmpBx, CallNear, Ret, Int224, InAl, OutAl}
use Rattle.asm86_line_types.specs.declared.line.Label.{Label}
use Rattle.asm86_line_types.specs.declared.line.Label.TheVariants.{At, Sys}
use Rattle.asm86_line_types.specs.declared.line.Stmt86.{Stmt86}
use Rattle.asm86_line_types.specs.declared.line.Stmt86.TheVariants.{Mark, Run, MovOffset, Jmp, Jmps, Jcc as JccTo, Call as CallTo}
use Rattle.asm80_types.specs.Program.{Program}
use Rattle.cells.specs.Parts.{Parts}
use Rattle.sym_block_def.specs.declared.reason.Reason.{Reason}
use Rattle.sym_block_def.specs.declared.reason.Reason.TheVariants.{Missing, Length, Form}
use Rattle.sym_block_def.specs.Outcome.{Way}
use Rattle.sym_block_def.specs.Block80.{instrs_from}
use Rattle.sym_run.specs.declared.stop.Stop.{Stop as StopPlace}
use Rattle.sym_block_def.specs.Walk86.{Surroundings, surroundings, after_label, way_to, is_passed, walk86}

-- a walk stops at a position, before which so many instructions were left to it
pub record Stop : Type 0 where
  pub room : ℕ
  pub at : List Stmt86

abbrev pub stop : ℕ → List Stmt86 → Stop
stop room at = record { room = room; at = at }

-- the labels that are passed stand before it
abbrev pub pass : Surroundings → List Stmt86 → List Stmt86
pass w [] = []
pass w (Mark l ∷ xs) = cond (is_passed w l) (pass w xs) (Mark l ∷ xs)
pass w (x ∷ xs) = x ∷ xs

-- a jump to a K or U label goes on there; any other ends the way
abbrev pub if_no_way : Option Way → Option (List Stmt86) → Option (List Stmt86)
if_no_way None on = on
if_no_way (Some way) on = None

abbrev pub goes_to : Surroundings → Label → Option (List Stmt86)
goes_to w l = if_no_way (way_to l) (after_label w.text l)

-- instructions that end a walk, or that it is refused at
abbrev pub is_last : Instr86 → Bool
is_last Ret = true
is_last JmpBx = true
is_last Int224 = true
is_last (InAl port) = true
is_last (OutAl port) = true
is_last MovSsAx = true
is_last (Jcc j d) = true
is_last (JmpNear d) = true
is_last (JmpShort d) = true
is_last (CallNear d) = true
is_last i = false

-- what stands where a walk goes on after a statement: before a conditional jump, and after one, where labels and jumps alone are passed
abbrev pub next_after : Bool → Surroundings → Stmt86 → List Stmt86 → Option (List Stmt86)
next_after jumped w (Jmp l) rest = goes_to w l
next_after jumped w (Jmps l) rest = goes_to w l
next_after false w (Run i) rest = cond (is_last i) None (Some rest)
next_after false w (MovOffset r l) rest = Some rest
next_after jumped w x rest = None

-- on to the statement after which it does not go on
abbrev pub or_stop : Option (List Stmt86) → (List Stmt86 → Stop) → Stop → Stop
or_stop (Some xs) on here = on xs
or_stop None on here = here

abbrev pub stop_from : Bool → Surroundings → ℕ → List Stmt86 → Stop
stop_from jumped w room [] = stop room []
stop_from jumped w zero (x ∷ rest) = stop 0 (x ∷ rest)
stop_from jumped w (suc room) (x ∷ rest) =
    or_stop (next_after jumped w x rest) (λ xs. stop_from jumped w room (pass w xs)) (stop (suc room) (x ∷ rest))

-- the way after a conditional jump; it ends well at a label or a jump to one, at a call, and at a return
abbrev pub way_stop : Surroundings → ℕ → List Stmt86 → Stop
way_stop w room from = stop_from true w room (pass w from)

abbrev pub may_call : Label → Bool
may_call (At a) = true
may_call Sys = true
may_call l = false

abbrev pub ends_by : Stmt86 → Bool
ends_by (Jmp l) = is_some (way_to l)
ends_by (Jmps l) = is_some (way_to l)
ends_by (CallTo l) = may_call l
ends_by (Run Ret) = true
ends_by (Run JmpBx) = true
ends_by x = false

abbrev pub is_way_end : ℕ → List Stmt86 → Bool
is_way_end room [] = false
is_way_end room (Mark l ∷ xs) = true
is_way_end zero (x ∷ xs) = false
is_way_end (suc room) (x ∷ xs) = ends_by x

-- of the two ways after a conditional jump the one straight on, unless it ends; else the one by its label, where there is one
abbrev pub jumped_stop : Surroundings → ℕ → Option (List Stmt86) → Stop → Stop
jumped_stop w room (Some xs) here = way_stop w room xs
jumped_stop w room None here = here

abbrev pub two_ways_stop : Surroundings → ℕ → Label → Stop → Stop → Stop
two_ways_stop w room l straight here = cond (is_way_end straight.room straight.at) (jumped_stop w room (goes_to w l) here) straight

-- where a walk stops in the end: at a conditional jump that it has an instruction left for it has two ways
abbrev pub jump_label : Stmt86 → Option Label
jump_label (JccTo j l) = Some l
jump_label x = None

abbrev pub jump_stop : Surroundings → ℕ → Option Label → Stop → Stop → Stop
jump_stop w room (Some l) straight here = two_ways_stop w room l straight here
jump_stop w room None straight here = here

abbrev pub walk_stop : Surroundings → ℕ → List Stmt86 → Stop
walk_stop w room [] = stop room []
walk_stop w zero (x ∷ rest) = stop 0 (x ∷ rest)
walk_stop w (suc room) (x ∷ rest) = jump_stop w room (jump_label x) (way_stop w room rest) (stop (suc room) (x ∷ rest))

abbrev pub stop_of_walk : Surroundings → ℕ → List Stmt86 → Stop
stop_of_walk w room from = let s = stop_from false w room (pass w from) in walk_stop w s.room s.at

-- where the walk from a block's label stops; nowhere if the text has no such label
abbrev pub stop_if_any : Surroundings → ℕ → Option (List Stmt86) → Option Stop
stop_if_any w room None = None
stop_if_any w room (Some from) = Some (stop_of_walk w room from)

abbrev pub stop_in : Program → List Stmt86 → ℕ → ℕ → Option Stop
stop_in p text first count =
    stop_if_any (surroundings p text first (instrs_from p first count)) (10 * count) (after_label text (At first))

-- what stands from the statement on at which it ends
abbrev pub end_of : Option Stop → Option (List Stmt86)
end_of (Some s) = Some s.at
end_of None = None

abbrev pub walk_end : Program → List Stmt86 → ℕ → ℕ → Option (List Stmt86)
walk_end p text first count = end_of (stop_in p text first count)

-- a position by its place

pub record IsAt (text : List Stmt86) (place : ℕ) (at : List Stmt86) : Type 0 where
  pub within : place ≤ length text
  pub is : drop place text ≡ at

pub record StopsAt (text : List Stmt86) (found : StopPlace) (s : Stop) : Type 0 where
  pub room : found.room ≡ s.room
  pub at : IsAt text found.at s.at

-- ---- a law

-- why a walk is refused, by where it stops: for Length at an instruction for which none is left, or at a label where it has had no
-- instruction; for Form at anything else
abbrev pub is_instruction : Stmt86 → Bool
is_instruction (Run i) = true
is_instruction (MovOffset r l) = true
is_instruction (Jmp l) = true
is_instruction (Jmps l) = true
is_instruction (JccTo j l) = true
is_instruction (CallTo l) = true
is_instruction x = false

abbrev pub reason_at : ℕ → List Stmt86 → Reason
reason_at room [] = Form
reason_at room (Mark l ∷ xs) = Length
reason_at zero (x ∷ xs) = cond (is_instruction x) Length Form
reason_at (suc room) (x ∷ xs) = Form

abbrev pub reason_of_stop : Stop → Reason
reason_of_stop s = reason_at s.room s.at

abbrev pub reason_by : Option Stop → Reason
reason_by None = Missing
reason_by (Some s) = reason_of_stop s

-- a walk that is refused is refused for what stands where it ends
abbrev pub EndsSayWhy : Type 0
EndsSayWhy = (p : Program) (text : List Stmt86) (keep : Parts) (first count : ℕ) (r : Reason) → walk86 p text keep first count ≡ Err r → r ≡ reason_by (stop_in p text first count)
