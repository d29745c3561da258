-- The run of what is loaded against that of the image.
use Rattle.std.proofs.Common.{◌≡◌, ℕ, List, Option, Some, subst, length, replicate}
use Rattle.cells.specs.declared.Rule.{Rule}
use Rattle.dialogue.specs.Run.{Run, turns, start_run, IsNotStopped, IsFrontOf}
use Rattle.dialogue.specs.Same.{SameDialogue}
use Rattle.dialogue.proofs.Turns.{front_trans}
use Rattle.i86.specs.declared.Instr86.{Instr86}
use Rattle.asm86_line_types.specs.Cells.{CellsAreSorted}
use Rattle.cpu80_tagged.specs.State.{State80}
use Rattle.cpu80_tagged.specs.Start.{run80}
use Rattle.cpu86.specs.State.{State86}
use Rattle.cpu86.specs.Call.{Stop}
use Rattle.cpu86.specs.Step.{machine86}
use Rattle.cpu86.specs.Start.{start86}
use Rattle.simulation_def.specs.Same.{Same}
use Rattle.cmd_file.specs.Written.{lacking, command_file_of}
use Rattle.cmd_file.specs.Loaded.{loaded}
use Rattle.cmd_file.specs.Laws.{LoadedIsSame}
use Rattle.cmd_file.proofs.Readers.{front_reader, front_gives, front_reads}
use Rattle.cmd_file.proofs.Steps.{in_step, says_no_more}
use Rattle.cmd_file.proofs.ImageCells.{image_in_data}
use Rattle.cmd_file.proofs.Memory.{cleared, cleared_is_fill, same_memory}

-- runs of the 8086 from one start, of which the second finds each instruction that the first finds
follows_on : (first : ℕ → Run State80 Rule) (cs : List ℕ) (f g : ℕ → Option Instr86) → ((ip : ℕ) (i : Instr86) → f ip ≡ Some i → g ip ≡ Some i) → (r : Run State86 Stop)
    → SameDialogue State80 Rule State86 Stop first (λ m. turns (machine86 f) cs m r)
    → SameDialogue State80 Rule State86 Stop first (λ m. turns (machine86 g) cs m r)
follows_on first cs f g finds r same = record {
  follows = λ n m h le. front_trans (machine86 g) cs _ (turns (machine86 f) cs m r).dialogue _ (same.follows n m h le) (says_no_more cs f g finds m r);
  leads = λ n m h le. subst (λ z. IsFrontOf z.dialogue (first n).dialogue) (in_step cs f g finds m r (same.goes_on n m h le)) (same.leads n m h le);
  goes_on = λ n m h le. subst (λ z. IsNotStopped z.status) (in_step cs f g finds m r (same.goes_on n m h le)) (same.goes_on n m h le);
}

pub loaded_same : CellsAreSorted → LoadedIsSame
unfolding Same
loaded_same sorted p lines image is same fetch page fill start choices replies reads is_page is_fill is_start are_choices are_replies =
    let cells = image.cells in
    let in_data = image_in_data sorted lines image is in
    let reader = front_reader image.code fetch in
    let other = cleared cells in_data fill page is_fill in
    let more = replicate (lacking 16 (length image.code)) 0 in
    let begun : start86 image page other start ≡ start86 (loaded (command_file_of image)) page fill start =
    λ i. record (start86 image page other start) { mem = same_memory cells in_data fill page is_fill i }
    in
    subst (λ (s : State86). SameDialogue State80 Rule State86 Stop (run80 p page replies) (λ m. turns (machine86 fetch) choices m (start_run s replies))) begun
    (follows_on (run80 p page replies) choices reader fetch (front_gives image.code fetch) (start_run (start86 image page other start) replies)
    (same reader page other start choices replies (front_reads image.code more fetch reads) is_page (cleared_is_fill cells in_data fill page is_fill) is_start are_choices are_replies))
