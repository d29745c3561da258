use Rattle.std.proofs.Common.{◌≡◌, ◌++◌, Option, sym, ap, ◌∙◌, append-nil}
use Rattle.std.specs.List.{filter_map}
use Rattle.std.specs.Option.{option_to_list}
use Rattle.std.proofs.lemmas.List.{take_all}
use Rattle.asm80_types.specs.declared.program.Placed.{Placed}
use Rattle.asm80_values.specs.Programs.{placed_item}
use Rattle.asm80_values.proofs.program.placed_items.Goals.{in-Some+in_ok-push, in_default}
use Rattle.asm80_values.proofs.program.placed_items.Goals as goal
use Rattle.asm80_values.proofs.Laying.{found_more}

pub loop-item-preserved : goal.loop-item-preserved
loop-item-preserved c =
    let step : c.match-placed_item.placed.items ≡ c.loop-item.placed.items ++ option_to_list (placed_item c.item-item.result) = elim c.match-placed_item.branch [
      | in-Some+in_ok-push w ↦ ap (λ v. v.items) w.placed-is ∙ w.in_ok-push.ensures.items ∙ ap (λ (o : Option Placed). c.loop-item.placed.items ++ option_to_list o) (sym w.in-Some.is ∙ c.placed_item.ensures)
      | in_default w ↦ ap (λ v. v.items) w.placed-is ∙ sym (append-nil c.loop-item.placed.items) ∙ ap (λ (o : Option Placed). c.loop-item.placed.items ++ option_to_list o) (sym w.in_default.is ∙ c.placed_item.ensures)
    ] in
    found_more placed_item c.args.items.now c.loop-item.item-index c.item-item.result _ _ c.loop-item-test.true c.item-item.is c.loop-item.invariant step

pub returns : goal.returns
returns c = c.loop-item.invariant ∙ ap (filter_map placed_item) (take_all _ _ c.loop-item-test.false)
