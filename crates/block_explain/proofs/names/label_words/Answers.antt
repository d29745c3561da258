use Rattle.std.proofs.Common.{rules, ◌≡◌, ◌∙◌, arith}
use Rattle.asm86_line_types.specs.Written.{four_digits}
use Rattle.std.specs.String.{string_bytes}
use Rattle.block_explain.proofs.Digits.{upper_is}
use Rattle.block_explain.proofs.names.label_words.Goals as goal

pub returns-in_ok-digits-in-At : goal.returns-in_ok-digits-in-At
returns-in_ok-digits-in-At c =
    let digits : string_bytes c.in_ok-digits-in-At.digits ≡ four_digits c.in-At.address = c.in_ok-digits-in-At.ensures ∙ upper_is c.in-At.address (omega arith) in
    rw c.in-At.is (search (rules, digits))
