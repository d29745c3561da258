use Rattle.std.proofs.Common.{◌≡◌, length, get_or, sym, ◌∙◌, arith}
use Rattle.std.proofs.lemmas.Bool.{ltb-true, ltb-false}
use Rattle.std.proofs.lemmas.List.{get_or_default}
use Rattle.bdos_small.proofs.Languages.{mark_breaks}
use Rattle.bdos_small.proofs.reading.read_mark.Goals as goal

pub returns-in_default : goal.returns-in_default
returns-in_default c =
    let bytes = c.args.bytes.now in
    let k = c.loop-place.place in
    let short = ltb-false k (length bytes) (sym c.in_default.ensures.lookup.0) in
    mark_breaks bytes k c.loop-place-test.true c.loop-place.invariant.within c.loop-place.invariant.same (λ more e. absurd (omega (arith, short, more)))

pub returns-then-byte-place : goal.returns-then-byte-place
returns-then-byte-place c =
    let bytes = c.args.bytes.now in
    let k = c.loop-place.place in
    let more = ltb-true k (length bytes) (sym c.in-Some.ensures.lookup.0) in
    let at : c.in-Some.byte.now ≡ get_or bytes k 0 = c.in-Some.ensures.lookup.1 ∙ get_or_default bytes k c.in-Some.byte.now 0 more in
    mark_breaks bytes k c.loop-place-test.true c.loop-place.invariant.within c.loop-place.invariant.same (λ _ e. c.if-byte-place.true (at ∙ e))
