-- One step of the tagged 8080: an instruction's effect and the place that comes next, a call of the system, a port that is
-- asked, the end, or the rule by which the program leaves the profile.
use Rattle.std.specs.Prelude.{ℕ, ◌+◌, Bool, true, false, cond, Option, Some, None, Result, Ok, Err}
use Rattle.cells.specs.declared.Place.{Place}
use Rattle.cells.specs.declared.Place.TheVariants.{At, Exit}
use Rattle.cells.specs.declared.Cell.TheVariants.{Num, Lo, Hi}
use Rattle.cells.specs.declared.Rule.{Rule}
use Rattle.cells.specs.declared.Rule.TheVariants.{P1, P6, P10}
use Rattle.cells.specs.Conditions.{holds}
use Rattle.i80.specs.declared.Goal.{Goal}
use Rattle.i80.specs.declared.Goal.TheVariants.{At as Instr, Boot, Bdos}
use Rattle.i80.specs.declared.Instr80.{Instr80}
use Rattle.i80.specs.declared.Instr80.TheVariants.{Pchl, Jmp, Jif, Call, Cif, Ret, Rif, Rst0, In, Out}
use Rattle.i80.specs.Columns.{length80}
use Rattle.dialogue.specs.declared.request.Reply.{Reply}
use Rattle.dialogue.specs.declared.request.Event.{Event}
use Rattle.dialogue.specs.declared.request.Event.TheVariants.{Call as Asked, In as AskedIn, Out as AskedOut, End}
use Rattle.dialogue.specs.Tried.{try_then}
use Rattle.dialogue.specs.Run.{Answer, Ran, Asks, Ends, Stops, Machine}
use Rattle.asm80_types.specs.Program.{Program, instr_at, is_start}
use Rattle.cpu80_tagged.specs.State.{State80, with_a, num_or}
use Rattle.cpu80_tagged.specs.Effect.{effect, push}
use Rattle.cpu80_tagged.specs.Call.{Return, call_system, place_in, popped_return, return_after, after_reply}

-- goes on to an instruction (P1)
abbrev pub go_to : Program → State80 → ℕ → Answer State80 Rule
go_to p s a = cond (is_start p a) (Ran (record s { place = At a })) (Stops P1)

-- goes on after an effect
abbrev pub go_on : Program → ℕ → Result State80 Rule → Answer State80 Rule
go_on p a (Err r) = Stops r
go_on p a (Ok t) = go_to p t a

-- goes to a place that cells name; the place of the end ends the program
abbrev pub leave_to : State80 → ℕ → Place → Answer State80 Rule
leave_to s sp (At a) = Ran (record s { place = At a; sp = sp })
leave_to s sp Exit = Ends

abbrev pub go_by : State80 → ℕ → Result Place Rule → Answer State80 Rule
go_by s sp (Err r) = Stops r
go_by s sp (Ok q) = leave_to s sp q

abbrev pub go_back : State80 → Result Return Rule → Answer State80 Rule
go_back s (Err r) = Stops r
go_back s (Ok back) = leave_to s back.sp back.place

-- a jump: to an instruction, to 0, which ends the program, or to 5, which calls the system and returns as RET does
abbrev pub jump : Program → State80 → Goal → Answer State80 Rule
jump p s (Instr t) = go_to p s t
jump p s Boot = Ends
jump p s Bdos = call_system p s (popped_return p s)

-- a call of an instruction pushes the code address of the place after it, which must be an instruction (P1)
abbrev pub enter : Program → ℕ → ℕ → Result State80 Rule → Answer State80 Rule
enter p t a (Err r) = Stops r
enter p t a (Ok s) = cond (is_start p a) (go_to p s t) (Stops P1)

-- a call: of an instruction, of 0, which pushes nothing and ends the program, or of 5, the system; `a` is the place after it
abbrev pub call : Program → State80 → ℕ → Goal → Answer State80 Rule
call p s a (Instr t) = enter p t a (push p s (Hi (At a)) (Lo (At a)))
call p s a Boot = Ends
call p s a Bdos = call_system p s (return_after p s a)

-- goes where the condition holds, and on to the place after where it does not; its flag is looked at first (P6)
abbrev pub where_holds : Program → State80 → ℕ → Option Bool → Answer State80 Rule → Answer State80 Rule
where_holds p s a None go = Stops P6
where_holds p s a (Some true) go = go
where_holds p s a (Some false) go = go_to p s a

-- asks a port; the place that comes next is looked at first (P1)
abbrev pub ask_event : State80 → Result Event Rule → Answer State80 Rule
ask_event s (Err r) = Stops r
ask_event s (Ok e) = Asks e s

abbrev pub ask_port : Program → State80 → ℕ → Result Event Rule → Answer State80 Rule
ask_port p s a asked = cond (is_start p a) (ask_event s asked) (Stops P1)

-- what OUT sends is the number in A (P10)
abbrev pub sent : State80 → ℕ → Result Event Rule
sent s port = try_then (num_or P10 s.regs.a) (λ byte. Ok (AskedOut port byte))

-- the instruction at an address; `a` is the place after it
abbrev pub act : Program → State80 → ℕ → Instr80 → Answer State80 Rule
act p s a Pchl = go_by s s.sp (place_in p s.regs.h s.regs.l)
act p s a (Jmp t) = jump p s t
act p s a (Jif c t) = where_holds p s a (holds s.flags c) (jump p s t)
act p s a (Call t) = call p s a t
act p s a (Cif c t) = where_holds p s a (holds s.flags c) (call p s a t)
act p s a Ret = go_back s (popped_return p s)
act p s a (Rif c) = where_holds p s a (holds s.flags c) (go_back s (popped_return p s))
act p s a Rst0 = Ends
act p s a (In port) = ask_port p s a (Ok (AskedIn port))
act p s a (Out port) = ask_port p s a (sent s port)
act p s a i = go_on p a (effect p s i)

abbrev pub act_at : Program → State80 → ℕ → Option Instr80 → Answer State80 Rule
act_at p s at None = Stops P1
act_at p s at (Some i) = act p s (at + length80 i) i

-- at the place of the end the program ends
abbrev pub step_at : Program → State80 → Place → Answer State80 Rule
step_at p s Exit = Ends
step_at p s (At a) = act_at p s a (instr_at p a)

abbrev pub step80 : Program → State80 → Answer State80 Rule
step80 p s = step_at p s s.place

-- the return of the instruction that asks
abbrev pub return_of : Program → State80 → ℕ → Option Instr80 → Result Return Rule
return_of p s at None = Err P1
return_of p s at (Some (Jmp t)) = popped_return p s
return_of p s at (Some (Jif c t)) = popped_return p s
return_of p s at (Some i) = return_after p s (at + length80 i)

abbrev pub return_at : Program → State80 → Place → Result Return Rule
return_at p s Exit = Err P1
return_at p s (At a) = return_of p s a (instr_at p a)

-- the state after a reply: a call of the system leaves much unknown; after the reply to an IN its byte is in A; and beside that
-- the ports change nothing but the place
abbrev pub replied_to : Program → State80 → Result Return Rule → Event → Reply → State80
replied_to p s (Err r) e y = s
replied_to p s (Ok back) End y = s
replied_to p s (Ok back) (Asked q) y = after_reply p s back.place back.sp q y
replied_to p s (Ok back) (AskedIn port) y = record (with_a s (Num y.answer)) { place = back.place }
replied_to p s (Ok back) (AskedOut port byte) y = record s { place = back.place }

abbrev pub replied80 : Program → State80 → Event → Reply → State80
replied80 p s e y = replied_to p s (return_at p s s.place) e y

-- the tagged 8080 with a program; it uses no choice
abbrev pub machine80 : Program → Machine State80 Rule
machine80 p = record { step = λ s c. step80 p s; replied = λ s e y c. replied80 p s e y }
