use Rattle.std.proofs.Common.{◌≡◌, drop}
use Rattle.std.specs.Prelude.{nat_lt}
use Rattle.std.specs.Char.{digit_value}
use Rattle.std.specs.List.{list_all}
use Rattle.asm86_line_reader.proofs.numbers.all_digits.Given as goal

abbrev pub invariant-loop-digit : goal.invariant-loop-digit
invariant-loop-digit l = list_all (λ c. nat_lt (digit_value c) l.base) l.digits ≡ list_all (λ c. nat_lt (digit_value c) l.base) (drop l.digit-index l.digits)
