use Rattle.std.proofs.Common.{◌≡◌, min, take, get_or, refl, sym, ap, ◌∙◌, arith}
use Rattle.std.proofs.lemmas.List.{take_all}
use Rattle.asm80_text.specs.Letters.{significant, upper}
use Rattle.asm80_text.specs.Numbers.{digit_of, total}
use Rattle.asm80_text.proofs.Digits.{cap_step, total_none, no_value_at, too_large, has_value, digits_and_one, total_and_one}
use Rattle.asm80_text.proofs.Significant.{none, skipped, one_more, split_at_one}
use Rattle.asm80_text.proofs.numbers.value_in.Goals as goal

pub loop-c-init : goal.loop-c-init
loop-c-init c = record { digits = rw none refl; capped = rw (none, total_none c.args.base) refl }

pub loop-c-preserved-then-c-eq36 : goal.loop-c-preserved-then-c-eq36
loop-c-preserved-then-c-eq36 c =
    let same = skipped c.args.text.now c.loop-c.c-index c.loop-c-test.true c.if-c-eq36.true in
    record { digits = rw same c.loop-c.invariant.digits; capped = rw same c.loop-c.invariant.capped }

pub returns-then-digit-base : goal.returns-then-digit-base
returns-then-digit-base c =
    let s = split_at_one c.args.text.now c.loop-c.c-index c.loop-c-test.true c.if-c-eq36.false in
    sym (rw s (no_value_at c.args.base (significant (take c.loop-c.c-index c.args.text.now)) (upper (get_or c.args.text.now c.loop-c.c-index 0)) _ (omega (arith, c.digit_of-digit.ensures, ap digit_of c.upper.ensures))))

pub loop-c-preserved : goal.loop-c-preserved
loop-c-preserved c =
    let more = one_more c.args.text.now c.loop-c.c-index c.loop-c-test.true c.if-c-eq36.false in
    let before = significant (take c.loop-c.c-index c.args.text.now) in
    let x = upper (get_or c.args.text.now c.loop-c.c-index 0) in
    let d : c.digit_of-digit.result ≡ digit_of x = c.digit_of-digit.ensures ∙ ap digit_of c.upper.ensures in
    record {
      digits = rw more (digits_and_one c.args.base before x (omega (arith, d)) c.loop-c.invariant.digits);
      capped =
          c.min-total.ensures ∙ rw (c.from.ensures, c.from-in-loop-c.ensures, d, more)
          (cap_step (total c.args.base before) c.loop-c.total c.args.base (digit_of x) c.requires.0 c.loop-c.invariant.capped ∙ ap (λ n. min n 65536) (sym (total_and_one c.args.base before x)));
    }

pub returns-then-total-gt65535 : goal.returns-then-total-gt65535
returns-then-total-gt65535 c =
    let all = take_all c.loop-c.c-index c.args.text.now c.loop-c-test.false in
    sym (too_large c.args.base (significant c.args.text.now) c.loop-c.total (rw all at c.loop-c.invariant.capped) c.if-total-gt65535.true)

pub returns : goal.returns
returns c =
    let all = take_all c.loop-c.c-index c.args.text.now c.loop-c-test.false in
    sym (has_value c.args.base (significant c.args.text.now) c.loop-c.total (rw all at c.loop-c.invariant.digits) (rw all at c.loop-c.invariant.capped) c.if-total-gt65535.false)
