-- The headline: a program and an image make the same system calls, with the same arguments and memory blocks, and ask the same of
-- ports, in the same order, and the one ends when the other ends.
use Rattle.std.specs.Prelude.{ℕ, List, All, Option}
use Rattle.cells.specs.declared.Rule.{Rule}
use Rattle.dialogue.specs.declared.request.Reply.{Reply}
use Rattle.i86.specs.declared.Instr86.{Instr86}
use Rattle.i86.specs.Code.{ReadsCode}
use Rattle.asm86_line_types.specs.Image.{Image}
use Rattle.dialogue.specs.Replies.{IsReply}
use Rattle.dialogue.specs.Same.{SameDialogue}
use Rattle.asm80_types.specs.Program.{Program}
use Rattle.cpu80_tagged.specs.State.{State80}
use Rattle.cpu80_tagged.specs.Start.{IsPage, run80}
use Rattle.cpu86.specs.State.{State86}
use Rattle.cpu86.specs.Call.{Stop}
use Rattle.dialogue.specs.Fill.{IsFill}
use Rattle.cpu86.specs.Start.{Start, IsStart, AreChoices, run86}

-- for every start page, fill of memory, start, list of choices and list of replies the two runs have the same dialogue;
-- `fetch` is what stands at each place of the image's code: where the image has a reader, that is one
unfoldable pub Same : Program → Image → Type 0
Same p image =
    (fetch : ℕ → Option Instr86) (page fill : List ℕ) (start : Start) (choices : List ℕ) (replies : List Reply) →
    ReadsCode image.code fetch →
    IsPage page →
    IsFill fill →
    IsStart start →
    AreChoices choices →
    All IsReply replies →
    SameDialogue State80 Rule State86 Stop (run80 p page replies) (run86 fetch image page fill start choices replies)
