use Rattle.std.proofs.Common.{◌∙◌, sym}
use Rattle.asm86.proofs.Orders.{may_follow, none_follows, moved}
use Rattle.asm86.proofs.order.Order.pass.Goals as goal
use Rattle.asm86.proofs.order.Order.pass.Goals.{then-self-via-then-self, then-self-via-else-self+then-not-may_stand}

pub returns-then-self-clause-verdict : goal.returns-then-self-clause-verdict
returns-then-self-clause-verdict c = λ xs h.
    elim c.then-self.branch [
      | then-self-via-then-self w ↦ none_follows c.args.self.now xs c.args.stmt h w.if-self.true
      | then-self-via-else-self+then-not-may_stand w ↦ sym w.if-not-may_stand.true ∙ may_follow c.args.self.now xs c.args.stmt w.may_stand.result h w.if-self.false (w.may_stand.ensures _ h.place)
    ]

pub returns-clause-verdict : goal.returns-clause-verdict
returns-clause-verdict c = λ xs h.
    sym c.if-not-may_stand.false ∙ may_follow c.args.self.now xs c.args.stmt c.may_stand.result h c.if-self.false (c.may_stand.ensures _ h.place)

pub returns-clause-moves : goal.returns-clause-moves
returns-clause-moves c = λ xs h _. moved c.args.self.now c.move_past.new.self xs c.args.stmt h (sym (returns-clause-verdict c xs h)) (c.move_past.ensures.place _ h.place) c.move_past.ensures.ended
