use Rattle.std.proofs.Common.{◌≡◌, map, drop}
use Rattle.asm86_line_reader.specs.Words.{word_in_table}
use Rattle.asm86_line_reader.proofs.words.look.Given as goal

abbrev pub invariant-loop-name : goal.invariant-loop-name
invariant-loop-name l = word_in_table (map (λ e. (e.0.now, e.1)) l.table) l.word ≡ word_in_table (map (λ e. (e.0.now, e.1)) (drop l.name-index l.table)) l.word
