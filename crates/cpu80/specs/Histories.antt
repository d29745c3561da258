-- What a caller sees of a machine, call by call, is its run.
use Rattle.std.specs.Prelude.{ℕ, List}
use Rattle.dialogue.specs.declared.request.Reply.{Reply}
use Rattle.dialogue.specs.declared.request.Event.{Event}
use Rattle.dialogue.specs.Run.{Status, turns, start_run}
use Rattle.dialogue.specs.Calls.{Standing}
use Rattle.dialogue.specs.Histories.{Calls, IsRunAt}
use Rattle.cpu80.specs.State.{UntaggedState}
use Rattle.cpu80.specs.Call.{Stop}
use Rattle.cpu80.specs.Step.{Fetch, untagged_machine}

-- Any calls on a machine give its run, from the state in which it began, over the replies that were taken. Of a program, which
-- begins in `start_untagged p page fill` with the fetch `program_fetch p`, this is `run_untagged p page fill`.
unfoldable pub CallsGiveRuns : Type 0
CallsGiveRuns =
    (fetch : Fetch) (s : UntaggedState) (choices : List ℕ) (status : Status Stop) (d : List Event) (ys : List Reply) (n u : ℕ) (x : Standing UntaggedState) → Calls (untagged_machine fetch) choices s status d ys n u x → IsRunAt (turns (untagged_machine fetch) choices n (start_run s ys)) status d x.state
