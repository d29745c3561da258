-- The laws: the run over bytes follows the tagged machine's from the start on.
use Rattle.std.proofs.Common.{ℕ, List, refl, ap}
use Rattle.std.specs.Prelude.{All}
use Rattle.dialogue.specs.declared.request.Reply.{Reply}
use Rattle.dialogue.specs.Run.{IsNotStopped, start_run, turns}
use Rattle.dialogue.specs.Sight.{WhoSeesMoreAsksTheSame}
use Rattle.asm80_types.specs.Program.{Program, IsProgram}
use Rattle.cpu80_tagged.specs.Start.{IsPage, start80, run80}
use Rattle.dialogue.specs.Fill.{IsFill}
use Rattle.cpu80.specs.State.{UntaggedState}
use Rattle.cpu80.specs.Step.{Fetch, program_fetch, act_at, return_of, untagged_machine}
use Rattle.cpu80.specs.Start.{system_byte, data_over, start_over, start_byte}
use Rattle.cpu80.specs.Follows.{WritesBytes, HasFollowed, PlainFollows, TakesProgram, HasData, FetchFollows}
use Rattle.cpu80.proofs.Running.{AreTogether, turns_together, together_said}
use Rattle.cpu80.proofs.Starting.{starts_stand, has_data}

has_followed : WhoSeesMoreAsksTheSame → (p : Program) (fetch : Fetch) (under : ℕ → ℕ) (page fill choices : List ℕ) (replies : List Reply) (n : ℕ) → IsProgram p → IsPage page → IsFill fill → HasData p under → TakesProgram fetch p (system_byte p.top page under) → All WritesBytes replies → IsNotStopped (run80 p page replies n).status → HasFollowed (run80 p page replies n) (turns (untagged_machine fetch) choices n (start_run (start_over p.top fill (system_byte p.top page under)) replies))
has_followed same p fetch under page fill choices replies n g is_page is_fill has takes bytes stayed =
    let held : ℕ → ℕ = system_byte p.top page under in
    let start : UntaggedState = start_over p.top fill held in
    let first : AreTogether p held (start_run (start80 p page) replies) (start_run start replies) = (refl, starts_stand p g under has page fill is_page is_fill, refl, refl, bytes) in
    let after = turns_together p held fetch choices g takes same n (start_run (start80 p page) replies) (start_run start replies) first in
    let said = together_said p held (run80 p page replies n) (turns (untagged_machine fetch) choices n (start_run start replies)) (run80 p page replies n).status stayed after in
    record { dialogue = said.0; goes_on = said.1 }

pub fetches_follow : WhoSeesMoreAsksTheSame → FetchFollows
unfolding FetchFollows
fetches_follow same = has_followed same

-- the program's own fetch takes its instructions, whatever memory holds
takes_own : (p : Program) (held : ℕ → ℕ) → TakesProgram (program_fetch p) p held
takes_own p held u at i holds has = record { acts = λ choice. ap (λ o. act_at u at o choice) has; returns = ap (return_of u at) has }

pub plain_follows : FetchFollows → PlainFollows
unfolding PlainFollows FetchFollows
plain_follows any p page fill choices replies n g is_page is_fill bytes stayed =
    any p (program_fetch p) (data_over p fill) page fill choices replies n g is_page is_fill (has_data p g fill is_fill) (takes_own p (start_byte p page fill)) bytes stayed
