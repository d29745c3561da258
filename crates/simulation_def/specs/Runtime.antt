-- What the runtime of a text does on the 8086: at X_SYS it calls the system with the function in CL and puts the answers where
-- CP/M 2.2 has them, or ends the program where the function is 0; at X_END it ends the program.
use Rattle.std.specs.Prelude.{◌≡◌, ◌≢◌, ℕ, ◌+◌, List, ◌++◌, Option, Some}
use Rattle.i86.specs.declared.Instr86.{Instr86}
use Rattle.i86.specs.Code.{ReadsCode}
use Rattle.dialogue.specs.Run.{Ends}
use Rattle.dialogue.specs.Words.{wrap}
use Rattle.dialogue.specs.ByteMemory.{word_at}
use Rattle.asm86_line_types.specs.declared.line.Label.TheVariants.{Sys, End}
use Rattle.asm86_line_types.specs.declared.line.Stmt86.{Stmt86}
use Rattle.asm86_line_types.specs.declared.line.Line86.{Line86}
use Rattle.asm86_line_types.specs.Image.{Assembles, image_of, statements}
use Rattle.cpu86.specs.State.{State86}
use Rattle.cpu86.specs.Call.{call_system}
use Rattle.cpu86.specs.Step.{step86, machine86}
use Rattle.templates.specs.Plain.{runtime}
use Rattle.simulation_def.specs.Steps.{RunsOn}
use Rattle.simulation_def.specs.States.{IsState86}
use Rattle.simulation_def.specs.Runs86.{offsets_of}

-- the statements of the runtime stand in a text, one after the other
pub record HasRuntime (text : List Stmt86) : Type 0 where
  pub before : List Stmt86
  pub after : List Stmt86
  pub is : text ≡ before ++ (runtime ++ after)

-- the answers where CP/M 2.2 has them: that in AL in L too, and that in BH in B too; and the return that is popped
abbrev pub answers_moved : State86 → State86
answers_moved t = record t {
  regs = record (t.regs) { bl = t.regs.al; ch = t.regs.bh };
  ip = word_at t.mem t.sp;
  sp = wrap (t.sp + 2);
}

-- at X_SYS with a function other than 0: two steps, which change flags alone; then the system is called; and from each state in
-- which it is back three steps more
pub record CallsSystem (fetch : ℕ → Option Instr86) (choices : List ℕ) (used : ℕ) (s : State86) : Type 0 where
  pub asking : State86
  pub runs : RunsOn (machine86 fetch) choices 2 used s asking
  pub back : ℕ
  pub calls : (choice : ℕ) → step86 fetch asking choice ≡ call_system (record s { flags = asking.flags; ip = back }) choice
  pub returns : (later : ℕ) (t : State86) → IsState86 t → t.ss ≡ t.ds → t.ip ≡ back → RunsOn (machine86 fetch) choices 3 later t (answers_moved t)

-- so many steps, and then the end of the program
pub record EndsAfter (fetch : ℕ → Option Instr86) (choices : List ℕ) (used steps : ℕ) (s : State86) : Type 0 where
  pub last : State86
  pub runs : RunsOn (machine86 fetch) choices steps used s last
  pub ends : (choice : ℕ) → step86 fetch last choice ≡ Ends

-- the runtime of a text, from each state at one of its labels
pub record RuntimeRuns (lines : List Line86) (fetch : ℕ → Option Instr86) (choices : List ℕ) (used : ℕ) (s : State86) : Type 0 where
  pub calls : offsets_of lines Sys ≡ Some s.ip → s.regs.cl ≢ 0 → CallsSystem fetch choices used s
  pub resets : offsets_of lines Sys ≡ Some s.ip → s.regs.cl ≡ 0 → EndsAfter fetch choices used 4 s
  pub ends : offsets_of lines End ≡ Some s.ip → EndsAfter fetch choices used 2 s

abbrev pub RuntimesRun86 : Type 0
RuntimesRun86 =
    (lines : List Line86) (fetch : ℕ → Option Instr86) (choices : List ℕ) (used : ℕ) (s : State86) →
    Assembles lines →
    ReadsCode (image_of lines).code fetch →
    HasRuntime (statements lines) →
    IsState86 s →
    s.ss ≡ s.ds →
    RuntimeRuns lines fetch choices used s
