-- Labels in the order in which they were added, beside a table of their places: what the offset of a label becomes.
use Rattle.std.proofs.Common.{◌≡◌, ℕ, Bool, cond, List, [], ◌∷◌, ◌++◌, Option, None, Some, true, false, refl, sym, ap, subst, ◌∙◌}
use Rattle.asm86_line_types.specs.declared.line.Label.{Label}
use Rattle.asm86_line_types.specs.Layout.{same_label}
use Rattle.asm86_line_types.specs.Image.{offset_in}
use Rattle.asm86_line_types.proofs.Labels.{same_label_is, same_label_self}

-- nothing was found: neither at the first nor behind it
not_first : (b : Bool) (a : ℕ) (r : Option ℕ) → cond b (Some a) r ≡ None → b ≡ true → ⊥
not_first true a r e t = cc
not_first false a r e t = cc

none_behind : (b : Bool) (a : ℕ) (r : Option ℕ) → cond b (Some a) r ≡ None → r ≡ None
none_behind true a r e = absurd (cc)
none_behind false a r e = e

both_are_one : (a b c : Label) → same_label a b ≡ true → same_label c b ≡ true → same_label a c ≡ true
both_are_one a b c ab cb = subst (λ l. same_label a l ≡ true) (same_label_is a b ab ∙ sym (same_label_is c b cb)) (same_label_self a)

in_front : (first added : Bool) (a v : ℕ) (with without : Option ℕ) → (first ≡ true → added ≡ true → ⊥) → with ≡ cond added (Some v) without → cond first (Some a) with ≡ cond added (Some v) (cond first (Some a) without)
in_front true true a v with without not_both e = absurd (not_both refl refl)
in_front true false a v with without not_both e = refl
in_front false added a v with without not_both e = e

-- a label added behind others among which it is not
added : (xs : List (Label × ℕ)) (k q : Label) (v : ℕ) → offset_in xs k ≡ None → offset_in (xs ++ (k, v) ∷ []) q ≡ cond (same_label k q) (Some v) (offset_in xs q)
added [] k q v none = refl
added (x ∷ xs) k q v none =
    in_front (same_label x.0 q) (same_label k q) x.1 v (offset_in (xs ++ (k, v) ∷ []) q) (offset_in xs q)
    (λ first this. not_first (same_label x.0 k) x.1 (offset_in xs k) none (both_are_one x.0 q k first this))
    (added xs k q v (none_behind (same_label x.0 k) x.1 (offset_in xs k) none))

-- ... and put into the table as well
pub placed : (xs es fs : List (Label × ℕ)) (k q : Label) (v : ℕ) → ((l : Label) → offset_in es l ≡ offset_in xs l) → offset_in xs k ≡ None → offset_in fs q ≡ cond (same_label k q) (Some v) (offset_in es q) → offset_in fs q ≡ offset_in (xs ++ (k, v) ∷ []) q
placed xs es fs k q v held none put =
    put
    ∙ ap (λ r. cond (same_label k q) (Some v) r) (held q)
    ∙ sym (added xs k q v none)
