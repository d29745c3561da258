use Rattle.std.proofs.Common.{◌≡◌, true, false, sym, ◌∙◌, refl}
use Rattle.std.specs.List.{list_all}
use Rattle.asm80_text.specs.Letters.{is_digit, significant}
use Rattle.asm80_text.proofs.Significant.{digits_are}
use Rattle.asm80_text.proofs.numbers.number_token.Goals as goal

pub returns-then-all_digits-clause-value : goal.returns-then-all_digits-clause-value
returns-then-all_digits-clause-value c =
    let e : list_all is_digit (significant c.args.text.now) ≡ true = sym (digits_are c.args.text.now) ∙ sym c.all_digits.ensures ∙ c.if-all_digits.true in
    rw e refl

pub returns-else-all_digits-clause-value : goal.returns-else-all_digits-clause-value
returns-else-all_digits-clause-value c =
    let e : list_all is_digit (significant c.args.text.now) ≡ false = sym (digits_are c.args.text.now) ∙ sym c.all_digits.ensures ∙ c.if-all_digits.false in
    rw e refl
