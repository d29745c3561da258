-- Whether the next call is among those that fail.
use Rattle.std.proofs.Common.{◌≡◌, ℕ, Bool, eqb, List, Decides, subst}
use Rattle.std.specs.List.{Contains, IsAnyAnswer}
use Rattle.std.proofs.lemmas.Bool.Decides.{Decides-eqb}
use Rattle.std.proofs.lemmas.List.Elements.{contains_decides, Decides-contains}

pub listed : (xs ys : List ℕ) (x y : ℕ) (r : Bool) → ys ≡ xs → y ≡ x → IsAnyAnswer (λ z b. eqb z y ≡ b) ys r → Decides r (Contains xs x)
listed xs ys x y r same next h =
    subst (λ zs. Decides r (Contains zs x)) same (subst (λ z. Decides r (Contains ys z)) next (Decides-contains ys y r (contains_decides eqb Decides-eqb ys y r h)))
