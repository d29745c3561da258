use Rattle.std.proofs.Common.{◌≡◌, not, drop}
use Rattle.std.specs.List.{list_all}
use Rattle.asm86_line_reader.specs.Letters.{is_lower}
use Rattle.asm86_line_reader.proofs.letters.has_no_lower.Given as goal

abbrev pub invariant-loop-b : goal.invariant-loop-b
invariant-loop-b l = list_all (λ b. not (is_lower b)) l.line ≡ list_all (λ b. not (is_lower b)) (drop l.b-index l.line)
