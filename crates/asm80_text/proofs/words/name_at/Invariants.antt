use Rattle.std.proofs.Common.{◌≡◌, ◌≤◌, ◌++◌, length, take, drop}
use Rattle.asm80_text.specs.Letters.{inside_len, word_bytes}
use Rattle.asm80_text.proofs.words.name_at.Given as goal

abbrev pub invariant-loop-b : goal.invariant-loop-b
invariant-loop-b l = record {
  room : length l.kept ≡ 16;
  len : l.len ≤ 16;
  kept : word_bytes l.bytes ≡ take l.len l.kept ++ word_bytes l.rest;
  rest : drop (inside_len l.bytes) l.bytes ≡ drop (inside_len l.rest) l.rest;
}

abbrev pub decreases-loop-b : goal.decreases-loop-b
decreases-loop-b l = length l.rest
