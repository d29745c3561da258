-- The law that ties the tagged machine to the one that fetches bytes.
use Rattle.std.specs.Prelude.{ℕ, List, All}
use Rattle.dialogue.specs.declared.request.Reply.{Reply}
use Rattle.dialogue.specs.Run.{IsNotStopped}
use Rattle.dialogue.specs.Fill.{IsFill}
use Rattle.asm80_types.specs.Program.{Program, IsProgram}
use Rattle.cpu80_tagged.specs.Start.{IsPage, run80}
use Rattle.cpu80.specs.Step.{Fetch}
use Rattle.cpu80.specs.Follows.{WritesBytes, HasFollowed}
use Rattle.i80_bytes.specs.InMemory.{IsFetchOfBytes}
use Rattle.i80_bytes.specs.Start.{run_bytes}
use Rattle.i80_bytes.specs.Cells.{program_cells}

-- Where a run of the tagged machine has stayed in the profile, the 8080 that fetches bytes, over the program's cells, from any
-- fill of memory and with any choices for what is unknown, has said the same after as many turns, and has not stopped.
unfoldable pub BytesFollow : Type 0
BytesFollow =
    (fetch : Fetch) (p : Program) (page fill choices : List ℕ) (replies : List Reply) (n : ℕ) →
    IsFetchOfBytes fetch →
    IsProgram p →
    IsPage page →
    IsFill fill →
    All WritesBytes replies →
    IsNotStopped (run80 p page replies n).status →
    HasFollowed (run80 p page replies n) (run_bytes fetch (program_cells p) p.top page fill choices replies n)
