-- A memory of bytes: a byte at each of 65,536 addresses. Both machines over bytes have one, that of the untagged 8080 and
-- that of the 8086.
use Rattle.std.specs.Prelude.{ℕ, ◌+◌, ◌%◌, ◌==◌, true, cond, List, [], ◌∷◌, Some}
use Rattle.dialogue.specs.declared.blocks.Block.{Block}
use Rattle.dialogue.specs.Words.{word, wrap}
use Rattle.dialogue.specs.Shape.{Seen}

-- one cell is written
abbrev pub put : (ℕ → ℕ) → ℕ → ℕ → ℕ → ℕ
put mem a v b = cond (b == a) v (mem b)

-- the word at an address, low byte first; the second byte of one at 0FFFFH is at 0
abbrev pub word_at : (ℕ → ℕ) → ℕ → ℕ
word_at mem a = word (mem (wrap (a + 1))) (mem a)

-- bytes from an address up; that of the cell after 0FFFFH is 0
abbrev pub put_bytes : (ℕ → ℕ) → ℕ → List ℕ → ℕ → ℕ
put_bytes mem a [] = mem
put_bytes mem a (b ∷ bs) = put_bytes (put mem a b) ((a + 1) % 0x10000) bs

-- cells of an address and a byte each, in their order
abbrev pub put_cells : (ℕ → ℕ) → List (ℕ × ℕ) → ℕ → ℕ
put_cells mem [] = mem
put_cells mem (c ∷ cs) = put_cells (put mem c.0 c.1) cs

-- what a reply writes
abbrev pub put_blocks : (ℕ → ℕ) → List Block → ℕ → ℕ
put_blocks mem [] = mem
put_blocks mem (b ∷ bs) = put_blocks (put_bytes mem b.at b.bytes) bs

-- what a call sees: 64K of readable and writable cells
abbrev pub seen_by : (ℕ → ℕ) → Seen
seen_by mem = record { byte = λ a. Some (mem a); writable = λ a. true }
