-- What a caller sees of a machine, call by call, is its run.
use Rattle.std.specs.Prelude.{ℕ, List, Option}
use Rattle.i86.specs.declared.Instr86.{Instr86}
use Rattle.dialogue.specs.declared.request.Reply.{Reply}
use Rattle.dialogue.specs.declared.request.Event.{Event}
use Rattle.dialogue.specs.Run.{Status}
use Rattle.dialogue.specs.Calls.{Standing}
use Rattle.dialogue.specs.Histories.{Calls, IsRunAt}
use Rattle.asm86_line_types.specs.Image.{Image}
use Rattle.cpu86.specs.State.{State86}
use Rattle.cpu86.specs.Call.{Stop}
use Rattle.cpu86.specs.Step.{machine86}
use Rattle.cpu86.specs.Start.{Start, start86, run86}

-- any calls on a machine at the start of an image give the run of the image over the replies that were taken
unfoldable pub CallsGiveRuns : Type 0
CallsGiveRuns =
    (fetch : ℕ → Option Instr86) (image : Image) (page fill : List ℕ) (start : Start) (choices : List ℕ) (status : Status Stop) (d : List Event) (ys : List Reply) (n u : ℕ) (x : Standing State86) → Calls (machine86 fetch) choices (start86 image page fill start) status d ys n u x → IsRunAt (run86 fetch image page fill start choices ys n) status d x.state
