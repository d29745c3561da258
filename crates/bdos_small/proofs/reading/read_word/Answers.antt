use Rattle.std.proofs.Common.{◌≡◌, length, get_or, sym, ◌∙◌, arith}
use Rattle.std.proofs.lemmas.Bool.{ltb-true, ltb-false}
use Rattle.std.proofs.lemmas.List.{get_or_default}
use Rattle.bdos_small.proofs.Languages.{word_short_at, word_second_at}
use Rattle.bdos_small.proofs.reading.read_word.Goals as goal

pub returns-in_default-get : goal.returns-in_default-get
returns-in_default-get c =
    let bytes = c.args.bytes.now in
    let some = ltb-true 0 (length bytes) (sym c.in-Some.ensures.item.0) in
    let one = ltb-false 1 (length bytes) (sym c.in_default-get.ensures.lookup.0) in
    let low : c.in-Some.low.now ≡ get_or bytes 0 0 = c.in-Some.ensures.item.1 ∙ get_or_default bytes 0 c.in-Some.low.now 0 some in
    word_short_at c.args.most bytes (omega (arith, some, one)) (omega (arith, low, c.from-low.ensures)) (c.type_inv.bytes 0).fits

pub returns-then-number-most : goal.returns-then-number-most
returns-then-number-most c =
    let bytes = c.args.bytes.now in
    let some = ltb-true 0 (length bytes) (sym c.in-Some.ensures.item.0) in
    let more = ltb-true 1 (length bytes) (sym c.in-Some-get.ensures.lookup.0) in
    let low : c.in-Some.low.now ≡ get_or bytes 0 0 = c.in-Some.ensures.item.1 ∙ get_or_default bytes 0 c.in-Some.low.now 0 some in
    let high : c.in-Some-get.high.now ≡ get_or bytes 1 0 = c.in-Some-get.ensures.lookup.1 ∙ get_or_default bytes 1 c.in-Some-get.high.now 0 more in
    word_second_at c.args.most bytes more (omega (arith, low, c.from-low.ensures)) (c.type_inv.bytes 0).fits (omega (arith, low, high, c.from-low.ensures, c.from.ensures, c.if-number-most.true))
