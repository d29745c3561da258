use Rattle.std.proofs.Common.{◌≡◌, ◌∙◌, ◌≤◌, ◌∷◌, List, ℕ, suc, length, drop, sym, ap, subst, add-one, drop-cons}
use Rattle.std.proofs.lemmas.List.{drop_all}
use Rattle.bdos_small.proofs.input.Input.take.Goals as goal

pub returns : goal.returns
returns c =
    let taken = c.self.inside.taken in
    let left : c.self.inside.bytes.items ≡ c.deref.result.now = sym c.deref.ensures.value in
    sym c.self.view_is
    ∙ ap (drop taken) left
    ∙ drop-cons c.deref.result.now taken c.in-Some.byte.now c.in-Some.ensures.lookup.3.0
    ∙ ap (λ b. b ∷ drop (suc taken) c.deref.result.now) (sym c.in-Some.ensures.lookup.1)
    ∙ ap (λ xs. c.in-Some.byte.now ∷ drop (suc taken) xs) c.deref.ensures.value
    ∙ ap (λ n. c.in-Some.byte.now ∷ drop n c.self.inside.bytes.items) (sym (add-one taken))

pub returns-in_default : goal.returns-in_default
returns-in_default c =
    let at_end = subst (λ (xs : List ℕ). length xs ≤ c.self.inside.taken) c.deref.ensures.value c.in_default.ensures.lookup.3 in
    let none = sym c.self.view_is ∙ drop_all c.self.inside.taken c.self.inside.bytes.items at_end in
    (none, none)
