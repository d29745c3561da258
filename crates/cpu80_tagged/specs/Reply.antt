-- The state after a reply, by what the machine keeps.
use Rattle.std.specs.Prelude.{ℕ, ◌+◌, ◌-◌, ◌≤◌, nat_lt, ◌&&◌, not, Bool, cond, length}
use Rattle.cells.specs.declared.Cell.{Cell}
use Rattle.cells.specs.declared.Cell.TheVariants.{Junk}
use Rattle.cells.specs.Conditions.{unknown_flags}
use Rattle.dialogue.specs.declared.blocks.Block.{Block}
use Rattle.dialogue.specs.declared.request.Request.{Request}
use Rattle.dialogue.specs.declared.request.Reply.{Reply}
use Rattle.dialogue.specs.Fits.{answer_kind_of, dma_after}
use Rattle.dialogue.specs.Words.{wrap}
use Rattle.cpu80_tagged.specs.State.{State80}
use Rattle.cpu80_tagged.specs.Call.{put_blocks, answered}
use Rattle.cpu80_tagged.specs.declared.turn.Return.{Return}

-- of the k cells below SP nothing is known, but for those that are closed
abbrev pub spoiled_cells : ℕ → (ℕ → Bool) → ℕ → (ℕ → Cell) → ℕ → Cell
spoiled_cells k closed sp m a = cond (nat_lt (wrap (sp + (0xFFFF - a))) k && not (closed a)) Junk (m a)

-- a block ends within memory
abbrev pub Fits : Block → Type 0
Fits b = b.at + length b.bytes ≤ 0x10000

abbrev pub after_taken_reply : (ℕ → Bool) → State80 → Return → Request → Reply → State80
after_taken_reply closed s back q y = record {
  regs = answered (answer_kind_of q) y.answer;
  flags = unknown_flags;
  sp = back.sp;
  mem = spoiled_cells 8 closed s.sp (put_blocks s.mem y.writes);
  place = back.place;
  dma = dma_after q s.dma;
}
