use Rattle.std.proofs.Common.{◌≡◌, ℕ, ◌<◌, ◌∙◌, List, length, true, map, sym, subst}
use Rattle.std.specs.Prelude.{All}
use Rattle.std.specs.String.{string_bytes}
use Rattle.std.proofs.lemmas.Result.{IfOk-weaker}
use Rattle.asm80_types.specs.Program.{is_start}
use Rattle.profile_leaving.specs.declared.departure.Departure.{Departure}
use Rattle.profile_leaving.specs.Leaving.{leaving}
use Rattle.cmd_lists.specs.Departures.{AreDepartureLines}
use Rattle.cmd_lists.proofs.Departing.{all_start, lines_some}
use Rattle.cmd_lists.proofs.departures.DeparturesListed.lines.Goals as goal

pub lines_and_count-requires-clause-places : goal.lines_and_count-requires-clause-places
lines_and_count-requires-clause-places c = c.as_slice.ensures.value ∙ c.in_ok-found.ensures

pub lines_and_count-requires-clause-starts : goal.lines_and_count-requires-clause-starts
lines_and_count-requires-clause-starts c =
    let p = c.args.program.now in
    let is = c.top-top.ensures.program in
    subst (λ xs. All (λ (x : Departure). is_start p x.at ≡ true) xs) (sym (c.as_slice.ensures.value ∙ c.in_ok-found.ensures))
    (all_start p (c.blocks_cut_the_program.ensures p is) (leaving p) (c.places_are_left.ensures p is))

pub returns-clause-some : goal.returns-clause-some
returns-clause-some c =
    let p = c.args.program.now in
    IfOk-weaker c.lines_and_count.result (λ lines. AreDepartureLines p (map string_bytes lines.items)) (λ lines. All (λ (l : List ℕ). 0 < length l) (map string_bytes lines.items)) (λ lines are. lines_some p (map string_bytes lines.items) are) c.lines_and_count.ensures
