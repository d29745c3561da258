use Rattle.std.proofs.Common.{◌∙◌, [], ◌∷◌, map, sym, subst, take, ◌+◌}
use Rattle.std.specs.String.{string_bytes}
use Rattle.std.proofs.lemmas.List.{map-append}
use Rattle.cmd_lists.specs.Departures.{AreLinesOfPlaces}
use Rattle.cmd_lists.proofs.Departing.{any_departure, one_more}
use Rattle.cmd_lists.proofs.departures.lines_of.Goals as goal

pub loop-place-preserved : goal.loop-place-preserved
loop-place-preserved c =
    let p = c.args.program.now in
    let xs = c.args.places.now in
    let i = c.loop-place.place-index in
    let said = c.in_ok-departure_line.field-0 in
    let before = map string_bytes c.loop-place.lines.items in
    rw c.in_ok-push.ensures.items
    (subst (λ ls. AreLinesOfPlaces p (take (i + 1) xs) ls) (sym (map-append string_bytes c.loop-place.lines.items (said ∷ [])))
    (one_more p xs i any_departure before (string_bytes said) c.loop-place-test.true c.loop-place.invariant
    (record { number = c.in-Some.number; place = sym c.line_at.ensures ∙ c.in-Some.is; is = c.in_ok-departure_line.ensures })))
