use Rattle.std.proofs.Common.{ℕ, ◌-◌, ◌/◌, ◌%◌, ap, ◌∙◌}
use Rattle.dialogue.specs.ByteMemory.{put_bytes}
use Rattle.cpu80.specs.State.{put_word}
use Rattle.i80_bytes.specs.Start.{cells_over}
use Rattle.i80_bytes.proofs.Written.{whole}
use Rattle.i80_bytes.proofs.start.start_memory.Goals as goal

pub returns : goal.returns
returns c =
    let top = c.args.top in
    c.set_word-2.ensures
    ∙ ap (λ (m : ℕ → ℕ). put_word m (top - 2) 0 0) (c.set_word.ensures ∙ ap (λ (m : ℕ → ℕ). put_word m 6 (top / 256) (top % 256)) (c.set_bytes.ensures ∙ ap (λ (m : ℕ → ℕ). put_bytes m 0x5C c.args.page.now) c.in_ok-memory.ensures))
    ∙ whole (cells_over c.args.cells.now c.args.fill.now) c.args.page.now c.requires.page top c.requires.top
