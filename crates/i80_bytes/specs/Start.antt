-- The start of bytes over a fill of memory, and their run.
use Rattle.std.specs.Prelude.{ℕ, List, slice_index}
use Rattle.dialogue.specs.declared.request.Reply.{Reply}
use Rattle.dialogue.specs.Run.{Run, turns, start_run}
use Rattle.dialogue.specs.ByteMemory.{put_cells}
use Rattle.cpu80.specs.State.{UntaggedState}
use Rattle.cpu80.specs.Call.{Stop}
use Rattle.cpu80.specs.Step.{Fetch, untagged_machine}
use Rattle.cpu80.specs.Start.{system_byte, start_over}

-- cells over a fill
abbrev pub cells_over : List (ℕ × ℕ) → List ℕ → ℕ → ℕ
cells_over cells fill = put_cells (λ a. slice_index fill a) cells

-- the bytes at the start: the fill, the cells over it, and over them the page, the top of the area at 6, and zeros at T-2 and T-1
abbrev pub start_bytes : List (ℕ × ℕ) → ℕ → List ℕ → List ℕ → ℕ → ℕ
start_bytes cells top page fill = system_byte top page (cells_over cells fill)

abbrev pub start_of_bytes : List (ℕ × ℕ) → ℕ → List ℕ → List ℕ → UntaggedState
start_of_bytes cells top page fill = start_over top fill (start_bytes cells top page fill)

-- the run of cells after n turns, below a top, with a start page, over a fill, with choices and replies; the fetch takes what
-- instructions there are from the bytes
abbrev pub run_bytes : Fetch → List (ℕ × ℕ) → ℕ → List ℕ → List ℕ → List ℕ → List Reply → ℕ → Run UntaggedState Stop
run_bytes fetch cells top page fill choices replies n =
    turns (untagged_machine fetch) choices n (start_run (start_of_bytes cells top page fill) replies)
