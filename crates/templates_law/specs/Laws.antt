-- What the laws of texts say of runs, they say of something: the runs of each program and of its own texts are in step from the start
-- on.
use Rattle.std.specs.Prelude.{ℕ, ◌≤◌, List, All, Option}
use Rattle.i86.specs.declared.Instr86.{Instr86}
use Rattle.i86.specs.Code.{ReadsCode}
use Rattle.dialogue.specs.declared.request.Reply.{Reply}
use Rattle.asm80_types.specs.Program.{Program, IsProgram}
use Rattle.asm86_line_types.specs.declared.line.Line86.{Line86}
use Rattle.asm86_line_types.specs.Image.{image_of}
use Rattle.cpu80_tagged.specs.Start.{IsPage, run80}
use Rattle.dialogue.specs.Fill.{IsFill}
use Rattle.cpu86.specs.Start.{Start, IsStart, AreChoices, run86}
use Rattle.flow.specs.Blocks.{blocks}
use Rattle.flow.specs.Solving.{Needs, AreAllNeeds}
use Rattle.simulation_def.specs.Runs86.{offsets_of}
use Rattle.simulation_def.specs.Linked.{Linked}
use Rattle.simulation_def.specs.Needed.{needed_by}
use Rattle.templates_law.specs.Names.{IsReply}
use Rattle.templates.specs.declared.translation.Mode.{Mode}
use Rattle.templates.specs.Translation.{IsText, CodeFits}

-- Before its first instruction the 8080 is linked with the 8086 after at most seven instructions, those of the opening: whatever
-- start page, fill of memory, start, choices and replies there are.
abbrev pub OwnRunsBeginInStep : Type 0
OwnRunsBeginInStep =
    (mode : Mode) (p : Program) (n : Needs) (lines : List Line86) (fetch : ℕ → Option Instr86) (page fill : List ℕ)
    (start : Start) (choices : List ℕ) (replies : List Reply) →
    IsProgram p →
    AreAllNeeds p n →
    IsText mode p lines →
    CodeFits lines →
    ReadsCode (image_of lines).code fetch →
    IsPage page →
    IsFill fill →
    IsStart start →
    AreChoices choices →
    All IsReply replies →
    (m : ℕ) × (m ≤ 7) × Linked p (offsets_of lines) (blocks p) (needed_by p n) (run80 p page replies 0) (run86 fetch (image_of lines) page fill start choices replies m)
