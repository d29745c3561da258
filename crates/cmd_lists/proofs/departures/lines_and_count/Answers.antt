use Rattle.std.proofs.Common.{◌∙◌, [], ◌∷◌, List, length, map, ap, subst, ◌++◌}
use Rattle.std.specs.String.{string_bytes}
use Rattle.std.proofs.lemmas.List.{map-append}
use Rattle.asm80_types.specs.declared.program.Placed.{Placed}
use Rattle.profile_leaving.specs.declared.departure.Departure.{Departure}
use Rattle.profile_leaving.specs.Leaving.{leaving}
use Rattle.cmd_common.specs.Lines.{leaves_line}
use Rattle.cmd_lists.specs.Departures.{AreLinesOfPlaces}
use Rattle.cmd_lists.proofs.departures.lines_and_count.Goals as goal

pub returns : goal.returns
returns c =
    let p = c.args.program.now in
    let places = c.requires.places in
    record {
      places = map string_bytes c.in_ok-lines.lines.items;
      are = subst (λ xs. AreLinesOfPlaces p xs (map string_bytes c.in_ok-lines.lines.items)) places c.in_ok-lines.ensures;
      is = ap (map string_bytes) c.in_ok-push.ensures.items
          ∙ map-append string_bytes c.in_ok-lines.lines.items (c.in_ok-leaves_line.field-0 ∷ [])
          ∙ ap (λ l. map string_bytes c.in_ok-lines.lines.items ++ l ∷ [])
          (c.in_ok-leaves_line.ensures
          ∙ ap (λ (xs : List Departure). leaves_line (length xs) (length c.instrs.result.now)) places
          ∙ ap (λ (xs : List Placed). leaves_line (length (leaving p)) (length xs)) c.instrs.ensures.value);
    }
