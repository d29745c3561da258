-- What a push of the tagged 8080 has done where it is not refused.
use Rattle.std.proofs.Common.{◌≡◌, ◌∙◌, ℕ, ◌+◌, ◌<◌, Ok, sym, ap, arith}
use Rattle.cells.specs.declared.Cell.{Cell}
use Rattle.dialogue.specs.Words.{wrap}
use Rattle.dialogue.proofs.Tried.{ok_is, then_is}
use Rattle.asm80_types.specs.Program.{Program}
use Rattle.cpu80_tagged.specs.State.{State80}
use Rattle.cpu80_tagged.specs.Memory.{put, write_word}
use Rattle.cpu80_tagged.specs.Effect.{push}
use Rattle.sym_sound.proofs.Machine80.Answering.{write_word_is}

pub wrapped : (k : ℕ) → wrap k < 0x10000
wrapped k = omega arith

pub push_is : (p : Program) (t : State80) (h l : Cell) (v : State80) → push p t h l ≡ Ok v → (wrap (t.sp + 0xFFFE) + 1 < 0x10000) × (v ≡ record t { sp = wrap (t.sp + 0xFFFE); mem = put (put t.mem (wrap (t.sp + 0xFFFE)) l) (wrap (t.sp + 0xFFFE) + 1) h })
push_is p t h l v e =
    let a = then_is (write_word p t (wrap (t.sp + 0xFFFE)) h l) _ v e in
    let r = write_word_is p t a.0 (wrap (t.sp + 0xFFFE)) h l (wrapped (t.sp + 0xFFFE)) a.1 in
    (r.0, sym (ok_is _ v a.2) ∙ ap (λ (z : State80). record z { sp = wrap (t.sp + 0xFFFE) }) (sym r.3))
