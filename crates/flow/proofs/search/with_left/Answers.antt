use Rattle.std.proofs.Common.{sym, ap, ◌&&◌, ◌∙◌}
use Rattle.std.specs.Prelude.{not}
use Rattle.std.proofs.lemmas.Bool.{and_left, and_right, not_from_true}
use Rattle.cells.specs.Parts.{has}
use Rattle.flow.proofs.Sets.{without_left, with_part_left}
use Rattle.flow.proofs.search.with_left.Goals as goal
use Rattle.flow.proofs.search.with_left.Goals.{else-has-via-then-has+else-not-has, else-has-via-else-has}

pub returns-else-has : goal.returns-else-has
returns-else-has c = λ x. without_left c.args.left c.args.keep c.args.other c.args.part x (elim c.else-has.branch [
  | else-has-via-then-has+else-not-has w ↦
      and_right (has c.args.keep c.args.part) (not (has c.args.other c.args.part)) (not_from_true (has c.args.other c.args.part) (sym w.has-then-has.ensures ∙ w.if-not-has.false))
  | else-has-via-else-has w ↦
      and_left (has c.args.keep c.args.part) (not (has c.args.other c.args.part)) (sym c.has.ensures ∙ w.if-has.false)
])

pub returns-then-not-has : goal.returns-then-not-has
returns-then-not-has c = λ x. with_part_left c.args.left _ c.args.keep c.args.other c.args.part x
    (ap (λ b. b && not (has c.args.other c.args.part)) (sym c.if-has.ensures) ∙ ap not (sym c.if-not-has.ensures))
    c.with.ensures
