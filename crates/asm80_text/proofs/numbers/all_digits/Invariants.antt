use Rattle.std.proofs.Common.{◌≡◌, ◌==◌, ◌||◌, drop}
use Rattle.std.specs.List.{list_all}
use Rattle.asm80_text.specs.Letters.{is_digit}
use Rattle.asm80_text.proofs.numbers.all_digits.Given as goal

abbrev pub invariant-loop-b : goal.invariant-loop-b
invariant-loop-b l = list_all (λ b. b == 36 || is_digit b) (drop l.b-index l.text) ≡ list_all (λ b. b == 36 || is_digit b) l.text
