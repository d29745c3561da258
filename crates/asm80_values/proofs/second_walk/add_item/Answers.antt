use Rattle.std.proofs.Common.{◌≡◌, ◌++◌, Option, sym, ap, ◌∙◌, append-nil}
use Rattle.std.specs.Option.{option_to_list}
use Rattle.std.proofs.lemmas.Result.{err_from_is_err_and}
use Rattle.asm80_values.specs.declared.item.Item.{Item}
use Rattle.asm80_values.proofs.second_walk.add_item.Goals as goal
use Rattle.asm80_values.proofs.second_walk.add_item.Goals.{in-Some+in_ok-push, in_default}

pub returns-in_err-item : goal.returns-in_err-item
returns-in_err-item c =
    let p = err_from_is_err_and c.from_residual.result c.from_residual.ensures.1 in
    rw (p.1, p.2) (λ r is. c.in_err-item.ensures is.0 r is.1 is.2)

pub returns-in_err-push : goal.returns-in_err-push
returns-in_err-push c =
    let p = err_from_is_err_and c.from_residual-in_err-push.result c.from_residual-in_err-push.ensures.1 in
    rw (p.1, p.2) (λ r is. tt)

pub returns-in_err-set_again : goal.returns-in_err-set_again
returns-in_err-set_again c =
    let p = err_from_is_err_and c.from_residual-in_err-set_again.result c.from_residual-in_err-set_again.ensures.1 in
    rw (p.1, p.2) (λ r is. tt)

pub returns : goal.returns
returns c =
    let pushed : c.match-branch-2.items.items ≡ c.args.items.now.items ++ option_to_list c.in_ok-item.field-0 = elim c.match-branch-2.branch [
      | in-Some+in_ok-push w ↦ ap (λ v. v.items) w.items-is ∙ w.in_ok-push.ensures.items ∙ ap (λ (o : Option Item). c.args.items.now.items ++ option_to_list o) (sym w.in-Some.is)
      | in_default w ↦ ap (λ v. v.items) w.items-is ∙ sym (append-nil c.args.items.now.items) ∙ ap (λ (o : Option Item). c.args.items.now.items ++ option_to_list o) (sym w.in_default.is)
    ] in
    (c.in_ok-item.field-0, pushed, λ r is. c.in_ok-item.ensures is.0 r is.1 is.2, λ r is. c.in_ok-set_again.ensures is.0 r is.1 is.2)
