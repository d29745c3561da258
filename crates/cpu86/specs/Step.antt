-- One step of the 8086.
use Rattle.std.specs.Prelude.{ℕ, ◌+◌, ◌==◌, ◌&&◌, not, Bool, true, false, cond, length, Option, Some, None}
use Rattle.i86.specs.declared.Instr86.{Instr86}
use Rattle.i86.specs.declared.Instr86.TheVariants.{Push, Pop, CallNear, Ret, Int224, InAl, OutAl}
use Rattle.i86.specs.Enc86.{enc86}
use Rattle.dialogue.specs.declared.request.Event.TheVariants.{In, Out}
use Rattle.dialogue.specs.Run.{Answer, Ran, Asks, Stops, Machine}
use Rattle.dialogue.specs.Words.{wrap}
use Rattle.cpu86.specs.State.{State86}
use Rattle.cpu86.specs.Effect.{effect}
use Rattle.cpu86.specs.Call.{Stop, NoInstruction, StackSegment, call_system, replied86}

abbrev pub uses_stack : Instr86 → Bool
uses_stack (Push r) = true
uses_stack (Pop r) = true
uses_stack (CallNear d) = true
uses_stack Ret = true
uses_stack Int224 = true
uses_stack i = false

-- the instruction, with the offset of the next one in ip; IN and OUT ask a port, and change nothing before its reply
abbrev pub act : Instr86 → State86 → ℕ → Answer State86 Stop
act Int224 s choice = call_system s choice
act (InAl port) s choice = Asks (In port) s
act (OutAl port) s choice = Asks (Out port s.regs.al) s
act i s choice = Ran (effect i s choice)

-- what uses the stack stops where SS is not DS, and this is looked at first
abbrev pub act_from : ℕ → Instr86 → State86 → ℕ → Answer State86 Stop
act_from ip i s choice = cond (uses_stack i && not (s.ss == s.ds)) (Stops (StackSegment ip)) (act i s choice)

abbrev pub act_at : Option Instr86 → State86 → ℕ → Answer State86 Stop
act_at None s choice = Stops (NoInstruction s.ip)
act_at (Some i) s choice = act_from s.ip i (record s { ip = wrap (s.ip + length (enc86 i)) }) choice

-- one step, where `fetch` gives the instruction that stands at each offset of the code
abbrev pub step86 : (ℕ → Option Instr86) → State86 → ℕ → Answer State86 Stop
step86 fetch s choice = act_at (fetch s.ip) s choice

abbrev pub machine86 : (ℕ → Option Instr86) → Machine State86 Stop
machine86 fetch = record { step = step86 fetch; replied = replied86 }
