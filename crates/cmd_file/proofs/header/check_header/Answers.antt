use Rattle.std.proofs.Common.{◌∷◌, ◌<◌, length, get_or, sym, ap, ◌∙◌, add-one, below_more, arith}
use Rattle.std.proofs.lemmas.Bool.{ltb-true, ltb-false}
use Rattle.std.proofs.lemmas.List.{get_or_default}
use Rattle.std.proofs.lemmas.List.Elements.{All-from_get_or}
use Rattle.cmd_file.proofs.Fitting.{found_at}
use Rattle.cmd_file.proofs.Stops.{header_stops}
use Rattle.cmd_file.proofs.header.check_header.Goals as goal

pub returns-in_default : goal.returns-in_default
returns-in_default c =
    let bytes = c.args.bytes.now in
    let k = c.loop-place.place in
    let short = ltb-false k (length bytes) (sym c.in_default.ensures.lookup.0) in
    header_stops bytes k (All-from_get_or (λ b. b < 256) bytes 0 (λ i lt. (c.type_inv.bytes i).fits)) c.loop-place-test.true c.loop-place.invariant.within c.loop-place.invariant.fits (λ lt. absurd (omega (arith, short, lt)))

pub returns-then-not-may_stand : goal.returns-then-not-may_stand
returns-then-not-may_stand c =
    let bytes = c.args.bytes.now in
    let k = c.loop-place.place in
    let more = ltb-true k (length bytes) (sym c.in-Some.ensures.lookup.0) in
    let byte = c.in-Some.ensures.lookup.1 ∙ get_or_default bytes k c.in-Some.byte.now 0 more in
    header_stops bytes k (All-from_get_or (λ b. b < 256) bytes 0 (λ i lt. (c.type_inv.bytes i).fits)) c.loop-place-test.true c.loop-place.invariant.within c.loop-place.invariant.fits
    (λ lt. found_at bytes k c.loop-place.before c.in-Some.byte.now c.may_stand.result c.loop-place.invariant.last byte c.may_stand.ensures ∙ c.if-not-may_stand.true)

pub loop-place-preserved : goal.loop-place-preserved
loop-place-preserved c =
    let bytes = c.args.bytes.now in
    let k = c.loop-place.place in
    let more = ltb-true k (length bytes) (sym c.in-Some.ensures.lookup.0) in
    let byte = c.in-Some.ensures.lookup.1 ∙ get_or_default bytes k c.in-Some.byte.now 0 more in
    record {
      within = omega (arith, more);
      fits = below_more _ k c.loop-place.invariant.fits (found_at bytes k c.loop-place.before c.in-Some.byte.now c.may_stand.result c.loop-place.invariant.last byte c.may_stand.ensures ∙ c.if-not-may_stand.false);
      last = byte ∙ ap (λ n. get_or (0 ∷ bytes) n 0) (sym (add-one k));
    }
