use Rattle.std.proofs.Common.{◌≡◌, ◌∙◌, ◌++◌, ◌∷◌, [], Bool, true, false, not, ap, sym, subst, ◌||◌}
use Rattle.std.specs.Prelude.{is_some}
use Rattle.asm80_source_def.specs.Names.{clashes, overflows, defined}
use Rattle.asm80_first_walk.specs.Entries.{entry_in, names_in, name_of_entry, AreInOrder}
use Rattle.asm80_first_walk.proofs.Definitions.{made_new, made_again, order_new, order_again}
use Rattle.asm80_first_walk.proofs.names.Names.put.Goals as goal

negated : (a b : Bool) → a ≡ not b → b ≡ true → a ≡ false
negated a true e h = e
negated a false e h = cc

other : (a b : Bool) → a ≡ not b → b ≡ false → a ≡ true
other a false e h = e
other a true e h = cc

pub invariant_of-self-then-is_none : goal.invariant_of-self-then-is_none
invariant_of-self-then-is_none c =
    let m = entry_in c.self.inside.entries.entries in
    let n = entry_in c.insert.new.self.entries in
    let put = c.in_ok-old.ensures.updates.0 in
    let items = c.push_reserved.ensures.items ∙ ap (λ xs. xs ++ c.args.name ∷ []) c.reserve.ensures.items in
    subst (λ xs. AreInOrder n xs) (sym items) (order_new m n c.args.name c.args.entry put c.self.inside.order.items c.self.invariant)

pub invariant_of-self-else-is_none : goal.invariant_of-self-else-is_none
invariant_of-self-else-is_none c =
    let m = entry_in c.self.inside.entries.entries in
    let n = entry_in c.insert.new.self.entries in
    let put = c.in_ok-old.ensures.updates.0 in
    let known = sym (ap (λ o. is_some o) c.in_ok-old.ensures.old) ∙ other _ _ c.is_none.ensures c.if-is_none.false in
    subst (λ xs. AreInOrder n xs) (sym c.reserve.ensures.items) (order_again m n c.args.name c.args.entry put c.self.inside.order.items c.self.invariant known)

pub returns-then-is_none-clause-made : goal.returns-then-is_none-clause-made
returns-then-is_none-clause-made c = λ fits.
    let m = entry_in c.self.inside.entries.entries in
    let n = entry_in c.insert.new.self.entries in
    let texts = c.self.inside.order.items in
    let put = c.in_ok-old.ensures.updates.0 in
    let items = c.push_reserved.ensures.items ∙ ap (λ xs. xs ++ c.args.name ∷ []) c.reserve.ensures.items in
    let none = sym (ap (λ o. is_some o) c.in_ok-old.ensures.old) ∙ negated _ _ c.is_none.ensures c.if-is_none.true in
    let this = name_of_entry (c.args.name, c.args.entry) in
    ap (λ xs. names_in n xs) items
    ∙ made_new m n c.args.name c.args.entry put texts c.self.invariant (ap (λ ns. clashes ns this || overflows ns this) c.self.view_is ∙ fits) none
    ∙ ap (λ ns. defined ns this) c.self.view_is

pub returns-else-is_none-clause-made : goal.returns-else-is_none-clause-made
returns-else-is_none-clause-made c = λ fits.
    let m = entry_in c.self.inside.entries.entries in
    let n = entry_in c.insert.new.self.entries in
    let texts = c.self.inside.order.items in
    let put = c.in_ok-old.ensures.updates.0 in
    let known = sym (ap (λ o. is_some o) c.in_ok-old.ensures.old) ∙ other _ _ c.is_none.ensures c.if-is_none.false in
    let this = name_of_entry (c.args.name, c.args.entry) in
    ap (λ xs. names_in n xs) c.reserve.ensures.items
    ∙ made_again m n c.args.name c.args.entry put texts c.self.invariant (ap (λ ns. clashes ns this || overflows ns this) c.self.view_is ∙ fits) known
    ∙ ap (λ ns. defined ns this) c.self.view_is
