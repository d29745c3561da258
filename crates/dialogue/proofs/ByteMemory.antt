-- Bytes written one after another into a memory of bytes.
use Rattle.std.proofs.Common.{◌≡◌, ℕ, ◌+◌, ◌%◌, ◌<◌, List, length, get_or, drop, sym, ap, ◌∙◌}
use Rattle.std.proofs.lemmas.List.{drop_more}
use Rattle.dialogue.specs.declared.blocks.Block.{Block}
use Rattle.dialogue.specs.ByteMemory.{put, put_bytes, put_cells, put_blocks}

-- one more byte
pub put_bytes_more : (m m' : ℕ → ℕ) (bs : List ℕ) (at i : ℕ) → i < length bs → m' ≡ put m at (get_or bs i 0) → put_bytes m' ((at + 1) % 0x10000) (drop (i + 1) bs) ≡ put_bytes m at (drop i bs)
put_bytes_more m m' bs at i h e =
    ap (λ w. put_bytes w ((at + 1) % 0x10000) (drop (i + 1) bs)) e
    ∙ ap (put_bytes m at) (sym (drop_more bs i 0 h))

-- one more block
pub put_blocks_more : (m m' : ℕ → ℕ) (bs : List Block) (i : ℕ) (b : Block) → i < length bs → b ≡ get_or bs i b → m' ≡ put_bytes m b.at b.bytes → put_blocks m' (drop (i + 1) bs) ≡ put_blocks m (drop i bs)
put_blocks_more m m' bs i b h e f =
    ap (λ w. put_blocks w (drop (i + 1) bs)) f
    ∙ ap (λ (x : Block). put_blocks (put_bytes m x.at x.bytes) (drop (i + 1) bs)) e
    ∙ ap (put_blocks m) (sym (drop_more bs i b h))

-- one more cell
pub put_cells_more : (m m' : ℕ → ℕ) (cs : List (ℕ × ℕ)) (i : ℕ) (d : ℕ × ℕ) → i < length cs → m' ≡ put m (get_or cs i d).0 (get_or cs i d).1 → put_cells m' (drop (i + 1) cs) ≡ put_cells m (drop i cs)
put_cells_more m m' cs i d h f =
    ap (λ w. put_cells w (drop (i + 1) cs)) f
    ∙ ap (put_cells m) (sym (drop_more cs i d h))
