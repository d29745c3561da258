use Rattle.std.proofs.Common.{◌≡◌, ◌&&◌, not, false, true, length, take, get_or, set, sym, ap, ◌∙◌, subst, arith}
use Rattle.std.proofs.lemmas.Bool.{ltb-true, ltb-false}
use Rattle.std.proofs.lemmas.List.{get_or_default}
use Rattle.bdos_small.specs.Names.{is_name_byte, is_before, is_after, highest, IsNameBetween}
use Rattle.bdos_small.proofs.Going.{Going, going_first, going_short, going_next, going_stops, going_all}
use Rattle.bdos_small.proofs.spelling.read_name.Goals as goal

pub loop-place-init : goal.loop-place-init
loop-place-init c = going_first c.args.last.now c.args.after c.args.bytes.now c.requires.few c.requires.room

pub returns-in_default-clause-read : goal.returns-in_default-clause-read
returns-in_default-clause-read c =
    let short = ltb-false c.loop-place.place (length c.args.bytes.now) (sym c.in_default.ensures.lookup.0) in
    going_short c.args.last.now c.args.after c.args.bytes.now c.requires.few c.requires.room c.loop-place.least c.loop-place.most c.loop-place.place c.loop-place.invariant c.loop-place-test.true short

pub returns-then-not-goes_on-clause-read : goal.returns-then-not-goes_on-clause-read
returns-then-not-goes_on-clause-read c =
    let k = c.loop-place.place in
    let byte = c.in-Some.byte.now in
    let more = ltb-true k (length c.args.bytes.now) (sym c.in-Some.ensures.lookup.0) in
    let at : byte ≡ get_or c.args.bytes.now k 0 = c.in-Some.ensures.lookup.1 ∙ get_or_default c.args.bytes.now k byte 0 more in
    let stops : (is_name_byte byte && (not (is_before (highest c.args.after) (set c.loop-place.least k byte)) && is_after c.args.last.now (set c.loop-place.most k byte))) ≡ false = ap (λ h. is_name_byte byte && (not (is_before h (set c.loop-place.least k byte)) && is_after c.args.last.now (set c.loop-place.most k byte))) (sym c.highest-highest.ensures) ∙ sym c.goes_on.ensures ∙ c.if-not-goes_on.true in
    going_stops c.args.last.now c.args.after c.args.bytes.now c.requires.few c.requires.room c.loop-place.least c.loop-place.most k c.loop-place.invariant byte c.loop-place-test.true more at stops

pub loop-place-preserved : goal.loop-place-preserved
loop-place-preserved c =
    let k = c.loop-place.place in
    let byte = c.in-Some.byte.now in
    let more = ltb-true k (length c.args.bytes.now) (sym c.in-Some.ensures.lookup.0) in
    let at : byte ≡ get_or c.args.bytes.now k 0 = c.in-Some.ensures.lookup.1 ∙ get_or_default c.args.bytes.now k byte 0 more in
    let goes : (is_name_byte byte && (not (is_before (highest c.args.after) (set c.loop-place.least k byte)) && is_after c.args.last.now (set c.loop-place.most k byte))) ≡ true = ap (λ h. is_name_byte byte && (not (is_before h (set c.loop-place.least k byte)) && is_after c.args.last.now (set c.loop-place.most k byte))) (sym c.highest-highest.ensures) ∙ sym c.goes_on.ensures ∙ c.if-not-goes_on.false in
    going_next c.args.last.now c.args.after c.args.bytes.now c.requires.few c.requires.room c.loop-place.least c.loop-place.most k c.loop-place.invariant byte c.loop-place-test.true more at goes

pub returns-clause-read : goal.returns-clause-read
returns-clause-read c =
    let g : Going c.args.last.now c.args.after c.args.bytes.now c.loop-place.least c.loop-place.most 11 = subst (λ k. Going c.args.last.now c.args.after c.args.bytes.now c.loop-place.least c.loop-place.most k) (omega arith) c.loop-place.invariant in
    subst (λ n. IsNameBetween c.args.last.now c.args.after n × (take 11 c.args.bytes.now ≡ n)) (sym c.of.ensures) (going_all c.args.last.now c.args.after c.args.bytes.now c.requires.few c.requires.room c.loop-place.least c.loop-place.most g)
