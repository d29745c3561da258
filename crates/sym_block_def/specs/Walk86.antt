-- The walk through a text from a block's label to its exits. A position is what stands behind it in the text's statements.
--
-- From the label on, instructions have their effect in terms. Labels of the block's own later instructions, K and U labels are
-- passed; any other label ends the way as a jump to it does. A jump to a K or U label goes on there. The first conditional jump
-- makes two ways, which end by jumps, a call or a return. IN, OUT and INT 224 end a walk, and are refused behind a conditional
-- jump. Each way has at least one instruction, and at most 10 for each of the block's, its jumps counted.
use Rattle.std.specs.Prelude.{ℕ, zero, suc, ◌*◌, ◌==◌, not, Bool, true, false, cond, List, [], ◌∷◌, drop, ◌||◌, Option, Some, None, Result, Ok, Err}
use Rattle.std.specs.List.{list_any}
use Rattle.cells.specs.declared.Place.{Place}
use Rattle.cells.specs.declared.Place.TheVariants.{At as AtPlace, Exit as EndPlace}
use Rattle.cells.specs.Parts.{Parts}
use Rattle.i86.specs.declared.Jump.{Jump}
use Rattle.i86.specs.declared.Jump.TheVariants.{Jb, Jnb, Jz, Jnz, Js, Jns, Jp, Jnp}
use Rattle.i86.specs.declared.Instr86.{Instr86}
use Rattle.i86.specs.declared.Instr86.TheVariants.{MovSsAx, Jcc, JmpNear, JmpShort, JmpBx, CallNear, Ret, Int224, InAl, OutAl}
use Rattle.dialogue.specs.Tried.{try_then}
use Rattle.asm86_line_types.specs.declared.line.Label.{Label}
use Rattle.asm86_line_types.specs.declared.line.Label.TheVariants.{At, Skip, User, Sys, End}
use Rattle.asm86_line_types.specs.declared.line.Stmt86.{Stmt86}
use Rattle.asm86_line_types.specs.declared.line.Stmt86.TheVariants.{Cseg, Dseg, Org, Rb, Db, Dw, Mark, Run, MovOffset, Jmp, Jmps, Jcc as JccTo, Call as CallTo, EndText}
use Rattle.asm86_line_types.specs.Layout.{same_label, marks}
use Rattle.i80.specs.declared.Instr80.{Instr80}
use Rattle.asm80_types.specs.Program.{Program, is_start}
use Rattle.sym_terms.specs.Term.{Term, Num}
use Rattle.sym_terms.specs.Making.{high, low}
use Rattle.sym_block_def.specs.declared.reason.Reason.{Reason}
use Rattle.sym_block_def.specs.declared.reason.Reason.TheVariants.{Missing, Length, Form}
use Rattle.sym_block_def.specs.Outcome.{Way, Goto, ByTerms, Call, Sys as AskSystem, SysReturn, Boot, In, Out, Exit, One, Two, Held, Outcome}
use Rattle.sym_block_def.specs.Block80.{instrs_from, address_after_all, addresses_from}
use Rattle.sym_block_def.specs.Symbolic86.{Symbolic86, start86, with_reg16, next_word, offset_term, effect86}

-- What a walk is in: the text's statements; the addresses of the block's later instructions; the address after the block, and
-- whether an instruction starts there.
pub record Surroundings : Type 0 where
  pub text : List Stmt86
  pub later : List ℕ
  pub after : ℕ
  pub goes_on : Bool

-- what stands behind a label
abbrev pub after_label : List Stmt86 → Label → Option (List Stmt86)
after_label [] l = None
after_label (x ∷ xs) l = cond (marks l x) (Some xs) (after_label xs l)

-- labels

-- the way that a jump to a label is; none to a K or U label, where the walk goes on
abbrev pub way_to : Label → Option Way
way_to (At a) = Some (Goto (AtPlace a))
way_to (Skip a) = None
way_to (User a) = None
way_to Sys = Some SysReturn
way_to End = Some Boot

-- the label of an instruction of the block is passed
abbrev pub is_passed : Surroundings → Label → Bool
is_passed w (At a) = list_any (λ b. b == a) w.later
is_passed w (Skip a) = true
is_passed w (User a) = true
is_passed w Sys = false
is_passed w End = false

-- what a walk meets behind the labels that it passes: a label that ends its way; an instruction, with what stands behind it; or
-- what is no instruction, or nothing
pub data Met : Type 0 where
  EndsAt : (label : Label) → Met
  Instruction : (x : Stmt86) (rest : List Stmt86) → Met
  Nothing : Met

abbrev pub met_label : Bool → Label → Met → Met
met_label true l rest = rest
met_label false l rest = EndsAt l

abbrev pub met : Surroundings → List Stmt86 → Met
met w [] = Nothing
met w (Mark l ∷ xs) = met_label (is_passed w l) l (met w xs)
met w (Run i ∷ xs) = Instruction (Run i) xs
met w (MovOffset r l ∷ xs) = Instruction (MovOffset r l) xs
met w (Jmp l ∷ xs) = Instruction (Jmp l) xs
met w (Jmps l ∷ xs) = Instruction (Jmps l) xs
met w (JccTo j l ∷ xs) = Instruction (JccTo j l) xs
met w (CallTo l ∷ xs) = Instruction (CallTo l) xs
met w (Cseg ∷ xs) = Nothing
met w (Dseg ∷ xs) = Nothing
met w (Org a ∷ xs) = Nothing
met w (Rb n ∷ xs) = Nothing
met w (Db n ∷ xs) = Nothing
met w (Dw v ∷ xs) = Nothing
met w (EndText ∷ xs) = Nothing

-- a label follows with only labels between
abbrev pub follows : Label → List Stmt86 → Bool
follows l [] = false
follows l (Mark k ∷ xs) = same_label k l || follows l xs
follows l (x ∷ xs) = false

-- the label of the address after the block follows
abbrev pub comes_next : Surroundings → List Stmt86 → Bool
comes_next w rest = follows (At w.after) rest

-- ends of ways; `rest` stands behind the instruction

-- the place to which a call comes back: the address after the block where its label follows, else none that is known
abbrev pub back_from_call : Surroundings → List Stmt86 → Place
back_from_call w rest = cond (comes_next w rest) (AtPlace w.after) EndPlace

-- a call of the system may also come back where no instruction starts
abbrev pub back_from_system : Surroundings → List Stmt86 → Place
back_from_system w rest = cond (comes_next w rest || not w.goes_on) (AtPlace w.after) EndPlace

abbrev pub call_way : Surroundings → List Stmt86 → Label → Result Way Reason
call_way w rest (At t) = Ok (Call (AtPlace t) (back_from_call w rest))
call_way w rest Sys = Ok (AskSystem (back_from_system w rest))
call_way w rest End = Err Form
call_way w rest (Skip a) = Err Form
call_way w rest (User a) = Err Form

abbrev pub return_way : Symbolic86 → Way
return_way s = ByTerms (high (next_word s)) (low (next_word s))

abbrev pub bx_way : Symbolic86 → Way
bx_way s = ByTerms s.held.h s.held.l

-- a jump to a label: it ends the way, or the walk goes on behind the label, which each label that is used has in a text with an image
abbrev pub go_behind : {A : Type 0} → (List Stmt86 → Result A Reason) → Option (List Stmt86) → Result A Reason
go_behind on None = Err Form
go_behind on (Some xs) = on xs

abbrev pub walk_jump : {A : Type 0} → (Way → Result A Reason) → Result A Reason → Option Way → Result A Reason
walk_jump ends on (Some way) = ends way
walk_jump ends on None = on

abbrev pub jump_to : {A : Type 0} → Surroundings → (Way → Result A Reason) → (List Stmt86 → Result A Reason) → Label → Result A Reason
jump_to w ends on l = walk_jump ends (go_behind on (after_label w.text l)) (way_to l)

-- a label that is not passed ends the way
abbrev pub end_at : {A : Type 0} → (Way → Result A Reason) → Label → Result A Reason
end_at ends l = walk_jump ends (Err Form) (way_to l)

-- Behind a conditional jump: labels, jumps, and then a call or a return. `on` goes on behind a jump's label.
abbrev pub way_by : Surroundings → Symbolic86 → (List Stmt86 → Result Way Reason) → List Stmt86 → Stmt86 → Result Way Reason
way_by w s on rest (Jmp l) = jump_to w Ok on l
way_by w s on rest (Jmps l) = jump_to w Ok on l
way_by w s on rest (CallTo l) = call_way w rest l
way_by w s on rest (Run Ret) = Ok (return_way s)
way_by w s on rest (Run JmpBx) = Ok (bx_way s)
way_by w s on rest x = Err Form

-- the way behind a conditional jump, with so many instructions left to it
abbrev pub way_from : Surroundings → Symbolic86 → ℕ → Met → Result Way Reason
way_from w s room (EndsAt l) = end_at Ok l
way_from w s room Nothing = Err Form
way_from w s zero (Instruction x rest) = Err Length
way_from w s (suc room) (Instruction x rest) = way_by w s (λ xs. way_from w s room (met w xs)) rest x

-- a conditional jump: its flag, and the value at which it jumps
abbrev pub flag_of_jump : Held → Jump → Term
flag_of_jump x Jb = x.cy
flag_of_jump x Jnb = x.cy
flag_of_jump x Jz = x.z
flag_of_jump x Jnz = x.z
flag_of_jump x Js = x.s
flag_of_jump x Jns = x.s
flag_of_jump x Jp = x.p
flag_of_jump x Jnp = x.p

abbrev pub jumps_at : Jump → Bool
jumps_at Jb = true
jumps_at Jnb = false
jumps_at Jz = true
jumps_at Jnz = false
jumps_at Js = true
jumps_at Jns = false
jumps_at Jp = true
jumps_at Jnp = false

-- the outcome with which terms end
abbrev pub outcome86 : Symbolic86 → Bool → Exit → Outcome
outcome86 s direct exit = record { actions = s.trace.actions; held = s.held; sp = s.sp; exit = exit; direct = direct }

abbrev pub one_way : Symbolic86 → Way → Result Outcome Reason
one_way s way = Ok (outcome86 s false (One way))

-- the first conditional jump: the way straight on is walked first, then that of the jump
abbrev pub two_ways : Surroundings → ℕ → List Stmt86 → Symbolic86 → Jump → Label → Result Outcome Reason
two_ways w room rest s j l =
    try_then (way_from w s room (met w rest)) (λ straight.
    try_then (jump_to w Ok (λ xs. way_from w s room (met w xs)) l) (λ jumped.
    Ok (outcome86 s false (Two (flag_of_jump s.held j) (jumps_at j) jumped straight))))

-- INT 224 calls the system where the function in CL is a number other than 0
abbrev pub is_call : Term → Bool
is_call (Num n) = not (n == 0)
is_call t = false

abbrev pub direct_call : Surroundings → List Stmt86 → Symbolic86 → Result Outcome Reason
direct_call w rest s =
    cond (is_call s.held.c) (Ok (outcome86 s true (One (AskSystem (back_from_system w rest))))) (Err Form)

-- IN and OUT go on at the address after the block
abbrev pub port_way : Surroundings → List Stmt86 → Symbolic86 → (Place → Way) → Result Outcome Reason
port_way w rest s way =
    cond (comes_next w rest || not w.goes_on) (one_way s (way (AtPlace w.after))) (Err Form)

-- before a conditional jump; `on` goes on with terms behind an instruction or a jump's label
abbrev pub run_by : Surroundings → (Symbolic86 → List Stmt86 → Result Outcome Reason) → List Stmt86 → Symbolic86 → Instr86 → Result Outcome Reason
run_by w on rest s Ret = one_way s (return_way s)
run_by w on rest s JmpBx = one_way s (bx_way s)
run_by w on rest s Int224 = direct_call w rest s
run_by w on rest s (InAl port) = port_way w rest s (In port)
run_by w on rest s (OutAl port) = port_way w rest s (Out port)
run_by w on rest s MovSsAx = Err Form
run_by w on rest s (Jcc j d) = Err Form
run_by w on rest s (JmpNear d) = Err Form
run_by w on rest s (JmpShort d) = Err Form
run_by w on rest s (CallNear d) = Err Form
run_by w on rest s i = on (effect86 s i) rest

abbrev pub walk_by : Surroundings → ℕ → (Symbolic86 → List Stmt86 → Result Outcome Reason) → List Stmt86 → Symbolic86 → Stmt86 → Result Outcome Reason
walk_by w room on rest s (Run i) = run_by w on rest s i
walk_by w room on rest s (MovOffset r l) = on (with_reg16 s r (offset_term l)) rest
walk_by w room on rest s (Jmp l) = jump_to w (one_way s) (on s) l
walk_by w room on rest s (Jmps l) = jump_to w (one_way s) (on s) l
walk_by w room on rest s (JccTo j l) = two_ways w room rest s j l
walk_by w room on rest s (CallTo l) = try_then (call_way w rest l) (one_way s)
walk_by w room on rest s x = Err Form

-- the walk with so many instructions left to it. An instruction is counted before its effect is asked for
abbrev pub walk_through : Surroundings → ℕ → Met → Symbolic86 → Result Outcome Reason
walk_through w room (EndsAt l) s = end_at (one_way s) l
walk_through w room Nothing s = Err Form
walk_through w zero (Instruction x rest) s = Err Length
walk_through w (suc room) (Instruction x rest) s = walk_by w room (λ t xs. walk_through w room (met w xs) t) rest s x

-- a way without an instruction is none
abbrev pub walk_some : Surroundings → ℕ → Met → Symbolic86 → Result Outcome Reason
walk_some w room (EndsAt l) s = Err Length
walk_some w room m s = walk_through w room m s

abbrev pub walk_behind : Surroundings → ℕ → Symbolic86 → Option (List Stmt86) → Result Outcome Reason
walk_behind w room s None = Err Missing
walk_behind w room s (Some xs) = walk_some w room (met w xs) s

-- the surroundings of a block of instructions
abbrev pub surroundings : Program → List Stmt86 → ℕ → List Instr80 → Surroundings
surroundings p text first is = record {
  text = text;
  later = drop 1 (addresses_from first is);
  after = address_after_all first is;
  goes_on = is_start p (address_after_all first is);
}

-- what the text does at the label of a block, whose parts these are kept; or why the walk has no outcome
abbrev pub walk86 : Program → List Stmt86 → Parts → ℕ → ℕ → Result Outcome Reason
walk86 p text keep first count =
    walk_behind (surroundings p text first (instrs_from p first count)) (10 * count) (start86 keep) (after_label text (At first))
