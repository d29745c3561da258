use Rattle.std.proofs.Common.{sym, ◌∙◌, arith}
use Rattle.asm86_line_reader.proofs.Numerals.{no_digits, is_utf8, parsed, refused}
use Rattle.asm86_line_reader.proofs.numbers.value_in.Goals as goal

pub returns-then-not-all_digits : goal.returns-then-not-all_digits
returns-then-not-all_digits c = no_digits _ _ (sym c.all_digits.ensures ∙ c.if-not-all_digits.true)

pub returns-in_default : goal.returns-in_default
returns-in_default c = absurd (c.in_default.ensures.cases.0 (is_utf8 c.args.base _ (omega arith) (sym c.all_digits.ensures ∙ c.if-not-all_digits.false)))

pub returns-in-Ok-from_str_radix : goal.returns-in-Ok-from_str_radix
returns-in-Ok-from_str_radix c = parsed c.args.base _ _ c.from_str_radix.result (omega arith) (sym c.all_digits.ensures ∙ c.if-not-all_digits.false) (rw c.in-Ok.ensures.cases.0 at c.from_str_radix.ensures.value) c.in-Ok-from_str_radix.is

pub returns-in-Err : goal.returns-in-Err
returns-in-Err c = refused c.args.base _ c.from_str_radix.result _ (omega arith) (sym c.all_digits.ensures ∙ c.if-not-all_digits.false) (rw c.in-Ok.ensures.cases.0 at c.from_str_radix.ensures.value) c.in-Err.is
