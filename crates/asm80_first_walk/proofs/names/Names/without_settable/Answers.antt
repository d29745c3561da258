use Rattle.std.proofs.Common.{◌≡◌, rules, ap, sym, subst, ◌∙◌, ℕ, List, Option, cond, filter, not}
use Rattle.std.proofs.lemmas.Fn.{filter_same}
use Rattle.asm80_source_def.specs.Names.{Name, is_settable}
use Rattle.asm80_first_walk.specs.declared.names.Entry.{Entry}
use Rattle.asm80_first_walk.specs.Entries.{entry_in, names_in, has_text, not_settable, AreInOrder}
use Rattle.asm80_first_walk.proofs.Definitions.{names_kept, order_kept, all_forgotten}
use Rattle.asm80_first_walk.proofs.names.Names.without_settable.Goals as goal

-- what the map has after those of SET were taken from it
left : (m n : List ℕ → Option Entry) (texts names : List (List ℕ)) → names ≡ texts → AreInOrder m texts → ((t : List ℕ) → n t ≡ cond (has_text names t) (not_settable (m t)) (m t)) → (t : List ℕ) → n t ≡ not_settable (m t)
left m n texts names same order put t = put t ∙ ap (λ xs. cond (has_text xs t) (not_settable (m t)) (m t)) same ∙ all_forgotten m texts order t

pub invariant_of-result : goal.invariant_of-result
invariant_of-result c =
    let m = entry_in c.self.inside.entries.entries in
    let n = entry_in c.forget_settable.new.entries.entries in
    let texts = c.self.inside.order.items in
    let kept = filter_same _ _ _ (λ x b f' k. search rules) _ _ c.retain.ensures.filtered in
    subst (λ xs. AreInOrder n xs) (sym kept) (order_kept m n (left m n texts _ c.deref.ensures.value c.self.invariant c.forget_settable.ensures) texts c.self.invariant)

pub returns : goal.returns
returns c =
    let m = entry_in c.self.inside.entries.entries in
    let n = entry_in c.forget_settable.new.entries.entries in
    let texts = c.self.inside.order.items in
    ap (λ xs. names_in n xs) (filter_same _ _ _ (λ x b f' k. search rules) _ _ c.retain.ensures.filtered)
    ∙ names_kept m n (left m n texts _ c.deref.ensures.value c.self.invariant c.forget_settable.ensures) texts
    ∙ ap (filter (λ (x : Name). not (is_settable x.kind))) c.self.view_is
