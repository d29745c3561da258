-- What it means for runs that a text matches its program.
use Rattle.std.specs.Prelude.{◌≡◌, ℕ, ◌+◌, ◌*◌, ◌<◌, ◌≤◌, List, All, Option}
use Rattle.i86.specs.declared.Instr86.{Instr86}
use Rattle.i86.specs.Code.{ReadsCode}
use Rattle.dialogue.specs.declared.request.Reply.{Reply}
use Rattle.dialogue.specs.Run.{IsNotStopped}
use Rattle.asm86_line_types.specs.declared.line.Line86.{Line86}
use Rattle.asm86_line_types.specs.Image.{Assembles, image_of, statements}
use Rattle.asm80_types.specs.Program.{Program, IsProgram}
use Rattle.cpu80_tagged.specs.Start.{IsPage, run80}
use Rattle.dialogue.specs.Fill.{IsFill}
use Rattle.cpu86.specs.Start.{Start, IsStart, AreChoices, run86}
use Rattle.sym_block_def.specs.BlockMatch.{Keeps}
use Rattle.sym_block_def.specs.Sorts.{StatementsAreCoded}
use Rattle.simulation_def.specs.Runs86.{offsets_of}
use Rattle.simulation_def.specs.Linked.{Paired}
use Rattle.simulation_def.specs.Cuts.{IsCut, ReturnsKeep}
use Rattle.simulation_def.specs.Matches.{Matches, DataAreCoded}
use Rattle.simulation_def.specs.Same.{Same}
use Rattle.dialogue.specs.Replies.{IsReply}

-- a program, and lines with an image that match it by a cut and the parts that are kept
pub record IsMatch (p : Program) (lines : List Line86) (cut : List (ℕ × ℕ)) (keeps : Keeps) : Type 0 where
  pub program : IsProgram p
  pub assembles : Assembles lines
  pub coded : StatementsAreCoded (statements lines)
  pub data_coded : DataAreCoded (statements lines)
  pub is_cut : IsCut p cut
  pub returns : ReturnsKeep p keeps
  pub matches : Matches p lines cut keeps

-- As far as the 8080's run has come, there are numbers of turns, of the 8080 not more than 15 before, after which the two runs are
-- paired; and the 8080 has said no more since.
pub record IsFollowed (p : Program) (lines : List Line86) (cut : List (ℕ × ℕ)) (keeps : Keeps) (fetch : ℕ → Option Instr86) (page fill : List ℕ) (start : Start) (choices : List ℕ) (replies : List Reply) (n : ℕ) : Type 0 where
  pub turns80 : ℕ
  pub turns86 : ℕ
  pub low : turns80 ≤ n
  pub high : n < turns80 + 16
  pub slow : turns80 ≤ 16 * turns86
  pub fast : turns86 ≤ 16 * turns80 + 7
  pub paired : Paired p (offsets_of lines) cut keeps (run80 p page replies turns80) (run86 fetch (image_of lines) page fill start choices replies turns86)
  pub said : (run80 p page replies n).dialogue ≡ (run80 p page replies turns80).dialogue

abbrev pub BlocksFollow : Type 0
BlocksFollow =
    (p : Program) (lines : List Line86) (cut : List (ℕ × ℕ)) (keeps : Keeps) (fetch : ℕ → Option Instr86) (page fill : List ℕ)
    (start : Start) (choices : List ℕ) (replies : List Reply) (n : ℕ) →
    IsMatch p lines cut keeps →
    ReadsCode (image_of lines).code fetch →
    IsPage page →
    IsFill fill →
    IsStart start →
    AreChoices choices →
    All IsReply replies →
    IsNotStopped (run80 p page replies n).status →
    IsFollowed p lines cut keeps fetch page fill start choices replies n

abbrev pub MatchesIsSame : Type 0
MatchesIsSame =
    (p : Program) (lines : List Line86) (cut : List (ℕ × ℕ)) (keeps : Keeps) → IsMatch p lines cut keeps → Same p (image_of lines)
