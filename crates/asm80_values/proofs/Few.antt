-- Lists of none, one and two.
use Rattle.std.proofs.Common.{◌≡◌, ◌<◌, List, [], ◌∷◌, length, get_or, map, refl, sym, ap, ◌∙◌, arith}

pub none : {X : Type 0} (xs : List X) → length xs ≡ 0 → xs ≡ []
none [] long = refl
none (x ∷ xs) long = absurd (omega arith)

pub has_none : {X Y : Type 0} (f : X → Y) (xs : List X) → length xs ≡ 0 → 0 < length (map f xs) → ⊥
has_none f [] long some = omega arith
has_none f (x ∷ xs) long some = omega arith

pub one : {X : Type 0} (xs : List X) (x : X) → length xs ≡ 1 → x ≡ get_or xs 0 x → xs ≡ x ∷ []
one [] x long is = absurd (omega arith)
one (y ∷ ys) x long is = ap (λ z. z ∷ ys) (sym is) ∙ ap (λ zs. x ∷ zs) (none ys (omega arith))

pub two : {X : Type 0} (xs : List X) (x y : X) → length xs ≡ 2 → x ≡ get_or xs 0 x → y ≡ get_or xs 1 y → xs ≡ x ∷ (y ∷ [])
two [] x y long is next = absurd (omega arith)
two (z ∷ zs) x y long is next = ap (λ w. w ∷ zs) (sym is) ∙ ap (λ ws. x ∷ ws) (one zs y (omega arith) next)
