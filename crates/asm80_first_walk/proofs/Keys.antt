-- Names as keys of a map: two are equal either way round.
use Rattle.std.proofs.Common.{◌≡◌, ℕ, List, Bool, true, false, true≢false, refl, sym, ◌∙◌}
use Rattle.std.proofs.lemmas.Slice.Eq.{bytes_eq-Decides}
use Rattle.std.specs.Str.{bytes_eq}

same_both : (a b : List ℕ) (s t : Bool) → bytes_eq a b ≡ s → bytes_eq b a ≡ t → s ≡ t
same_both a b true true p q = refl
same_both a b false false p q = refl
same_both a b true false p q = absurd (true≢false (sym ((bytes_eq-Decides b a).1 (sym ((bytes_eq-Decides a b).0 p))) ∙ q))
same_both a b false true p q = absurd (true≢false (sym ((bytes_eq-Decides a b).1 (sym ((bytes_eq-Decides b a).0 q))) ∙ p))

pub key_flips : (a b : List ℕ) → bytes_eq a b ≡ bytes_eq b a
key_flips a b = same_both a b (bytes_eq a b) (bytes_eq b a) refl refl
