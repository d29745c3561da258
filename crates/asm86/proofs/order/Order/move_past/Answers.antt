use Rattle.std.proofs.Common.{refl, sym, ap, subst, ◌∙◌}
use Rattle.asm86_line_types.specs.Order.{ends_text}
use Rattle.asm86.specs.Place.{IsOrderAt}
use Rattle.asm86.proofs.Orders.{two_cells, room_passed, code_stays, code_ends_nothing, goes_on, comes_to_end}
use Rattle.asm86.proofs.order.Order.move_past.Goals as goal

pub returns-in-Dw-clause-place : goal.returns-in-Dw-clause-place
returns-in-Dw-clause-place c = λ r h. rw c.in-Dw.is (two_cells _ r (c.fill-in-Dw-2.ensures.place _ (c.fill-in-Dw.ensures.place r h)))

pub returns-in-Rb-clause-place : goal.returns-in-Rb-clause-place
returns-in-Rb-clause-place c = λ r h.
    rw c.in-Rb.is (record {
      group = h.group;
      code_came = h.code_came;
      data_came = h.data_came;
      at = c.min-self.ensures ∙ room_passed c.args.self.now.at r.at c.from.result c.in-Rb.w h.at c.from.ensures;
      filled = h.filled;
    })

pub returns-in_default-clause-place : goal.returns-in_default-clause-place
returns-in_default-clause-place c = λ r h.
    let n = c.in_default in
    subst (IsOrderAt c.args.self.now) (sym (code_stays r c.args.stmt n.not-Cseg n.not-Dseg n.not-Org n.not-Rb n.not-Db n.not-Dw n.not-EndText)) h

pub returns-in_default-clause-ended : goal.returns-in_default-clause-ended
returns-in_default-clause-ended c = code_ends_nothing c.args.stmt c.args.self.now.is_ended c.in_default.not-EndText

pub returns-in-Cseg : goal.returns-in-Cseg
returns-in-Cseg c = record {
  place = λ r h. rw c.in-Cseg.is (record { group = refl; code_came = refl; data_came = h.data_came; at = h.at; filled = h.filled });
  ended = goes_on c.args.stmt c.args.self.now.is_ended (ap ends_text c.in-Cseg.is);
}

pub returns-in-Dseg : goal.returns-in-Dseg
returns-in-Dseg c = record {
  place = λ r h. rw c.in-Dseg.is (record { group = refl; code_came = h.code_came; data_came = refl; at = refl; filled = h.filled });
  ended = goes_on c.args.stmt c.args.self.now.is_ended (ap ends_text c.in-Dseg.is);
}

pub returns-in-Org-clause-ended : goal.returns-in-Org-clause-ended
returns-in-Org-clause-ended c = goes_on c.args.stmt c.args.self.now.is_ended (ap ends_text c.in-Org.is)

pub returns-in-Rb-clause-ended : goal.returns-in-Rb-clause-ended
returns-in-Rb-clause-ended c = goes_on c.args.stmt c.args.self.now.is_ended (ap ends_text c.in-Rb.is)

pub returns-in-Db : goal.returns-in-Db
returns-in-Db c = record {
  place = λ r h. rw c.in-Db.is (c.fill.ensures.place r h);
  ended = c.fill.ensures.ended ∙ goes_on c.args.stmt c.args.self.now.is_ended (ap ends_text c.in-Db.is);
}

pub returns-in-Dw-clause-ended : goal.returns-in-Dw-clause-ended
returns-in-Dw-clause-ended c = c.fill-in-Dw-2.ensures.ended ∙ c.fill-in-Dw.ensures.ended ∙ goes_on c.args.stmt c.args.self.now.is_ended (ap ends_text c.in-Dw.is)

pub returns-in-EndText : goal.returns-in-EndText
returns-in-EndText c = record {
  place = λ r h. rw c.in-EndText.is (record { group = h.group; code_came = h.code_came; data_came = h.data_came; at = h.at; filled = h.filled });
  ended = comes_to_end c.args.stmt c.args.self.now.is_ended (ap ends_text c.in-EndText.is);
}
