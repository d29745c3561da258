-- One step of the untagged 8080, whatever its instructions come from. Addresses are taken modulo 65,536.
use Rattle.std.specs.Prelude.{ℕ, ◌+◌, ◌/◌, ◌%◌, ◌==◌, cond, Option, Some, None}
use Rattle.cells.specs.declared.Place.{Place}
use Rattle.cells.specs.declared.Place.TheVariants.{At, Exit}
use Rattle.i80.specs.declared.Pair.TheVariants.{H as PairH}
use Rattle.i80.specs.declared.Goal.{Goal}
use Rattle.i80.specs.declared.Goal.TheVariants.{At as Instr, Boot, Bdos}
use Rattle.i80.specs.declared.Instr80.{Instr80}
use Rattle.i80.specs.declared.Instr80.TheVariants.{Pchl, Jmp, Jif, Call, Cif, Ret, Rif, Rst0, In, Out}
use Rattle.i80.specs.Columns.{length80}
use Rattle.dialogue.specs.declared.request.Reply.{Reply}
use Rattle.dialogue.specs.declared.request.Event.{Event}
use Rattle.dialogue.specs.declared.request.Event.TheVariants.{Call as Asked, In as AskedIn, Out as AskedOut, End}
use Rattle.dialogue.specs.Run.{Answer, Ran, Asks, Ends, Stops, Machine}
use Rattle.dialogue.specs.Words.{wrap}
use Rattle.dialogue.specs.ByteMemory.{word_at}
use Rattle.asm80_types.specs.Program.{Program, instr_at}
use Rattle.cpu80.specs.State.{UntaggedState, pair_word, with_a}
use Rattle.cpu80.specs.Flags.{holds}
use Rattle.cpu80.specs.Effect.{effect, push}
use Rattle.cpu80.specs.Call.{Stop, NoInstruction, Return, call_system, popped_return, after_reply}

-- which instruction, if any, a machine in a state takes at an address: one may look into a program, another into memory
abbrev pub Fetch : Type 0
Fetch = UntaggedState → ℕ → Option Instr80

-- the instruction that the program has at the address, whatever memory holds there
abbrev pub program_fetch : Program → Fetch
program_fetch p u at = instr_at p at

-- goes to an address
abbrev pub go_to : UntaggedState → ℕ → Answer UntaggedState Stop
go_to u a = Ran (record u { place = At a })

-- RET and PCHL, with the SP after them: at address 0 the program ends
abbrev pub leave_to : UntaggedState → ℕ → ℕ → Answer UntaggedState Stop
leave_to u sp a = cond (a == 0) Ends (Ran (record u { place = At a; sp = sp }))

abbrev pub ret : UntaggedState → Answer UntaggedState Stop
ret u = leave_to u (wrap (u.sp + 2)) (word_at u.mem u.sp)

-- a jump: to an instruction, to 0, which ends the program, or to 5, which calls the system and returns as RET does
abbrev pub jump : UntaggedState → Goal → Answer UntaggedState Stop
jump u (Instr t) = go_to u t
jump u Boot = Ends
jump u Bdos = call_system u

-- a call: of an instruction, which pushes the address after it, of 0, which ends the program, or of 5, the system; these push
-- nothing. `a` is the address after it
abbrev pub call : UntaggedState → ℕ → Goal → Answer UntaggedState Stop
call u a (Instr t) = go_to (push u (a / 256) (a % 256)) t
call u a Boot = Ends
call u a Bdos = call_system u

-- the instruction at an address; `a` is the address after it
abbrev pub act : UntaggedState → ℕ → Instr80 → ℕ → Answer UntaggedState Stop
act u a Pchl choice = leave_to u u.sp (pair_word u PairH)
act u a (Jmp t) choice = jump u t
act u a (Jif c t) choice = cond (holds u.flags c) (jump u t) (go_to u a)
act u a (Call t) choice = call u a t
act u a (Cif c t) choice = cond (holds u.flags c) (call u a t) (go_to u a)
act u a Ret choice = ret u
act u a (Rif c) choice = cond (holds u.flags c) (ret u) (go_to u a)
act u a Rst0 choice = Ends
act u a (In port) choice = Asks (AskedIn port) u
act u a (Out port) choice = Asks (AskedOut port u.regs.a) u
act u a i choice = go_to (effect u i choice) a

abbrev pub next_address : ℕ → Instr80 → ℕ
next_address at i = wrap (at + length80 i)

abbrev pub act_at : UntaggedState → ℕ → Option Instr80 → ℕ → Answer UntaggedState Stop
act_at u at None choice = Stops (NoInstruction at)
act_at u at (Some i) choice = act u (next_address at i) i choice

-- at EXIT the program ends
abbrev pub step_at : Fetch → UntaggedState → Place → ℕ → Answer UntaggedState Stop
step_at fetch u Exit choice = Ends
step_at fetch u (At a) choice = act_at u a (fetch u a) choice

abbrev pub step_untagged : Fetch → UntaggedState → ℕ → Answer UntaggedState Stop
step_untagged fetch u choice = step_at fetch u u.place choice

-- where the instruction that asks goes on: a jump to 5 pops its return, all others go on at the address after them
abbrev pub return_of : UntaggedState → ℕ → Option Instr80 → Option Return
return_of u at None = None
return_of u at (Some (Jmp t)) = Some (popped_return u)
return_of u at (Some (Jif c t)) = Some (popped_return u)
return_of u at (Some i) = Some (record { place = At (next_address at i); sp = u.sp })

abbrev pub return_at : Fetch → UntaggedState → Place → Option Return
return_at fetch u Exit = None
return_at fetch u (At a) = return_of u a (fetch u a)

-- the state after a reply: that to a call of the system; after the reply to an IN its byte is in A; and beside that the ports
-- change nothing but the place
abbrev pub replied_to : UntaggedState → Option Return → Event → Reply → ℕ → UntaggedState
replied_to u None e y c = u
replied_to u (Some back) End y c = u
replied_to u (Some back) (Asked q) y c = after_reply u back q y c
replied_to u (Some back) (AskedIn port) y c = record (with_a u y.answer) { place = back.place }
replied_to u (Some back) (AskedOut port byte) y c = record u { place = back.place }

abbrev pub replied_untagged : Fetch → UntaggedState → Event → Reply → ℕ → UntaggedState
replied_untagged fetch u e y c = replied_to u (return_at fetch u u.place) e y c

-- the untagged 8080 that takes its instructions so
abbrev pub untagged_machine : Fetch → Machine UntaggedState Stop
untagged_machine fetch = record { step = step_untagged fetch; replied = replied_untagged fetch }
