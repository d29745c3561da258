-- The order of lists of bytes of one length.
use Rattle.std.proofs.Common.{◌≡◌, ℕ, true, false, List, [], ◌∷◌, ◌++◌, length, refl, ap, ◌∙◌, inl, inr, ◌⊎◌, arith, rules, Ordering}
use Rattle.std.specs.Prelude.{Option, Some, None, nat_eq}
use Rattle.std.specs.Ordering.{nat_cmp, is_lt, is_eq, ordering_then, ordering_reverse, eq_by_cmp}
use Rattle.std.specs.declared.cmp.Ordering.TheVariants.{Less, Equal, Greater}
use Rattle.std.specs.Cmp.Lexicographic.{slice_cmp, pointwise, lists_ties}
use Rattle.std.specs.Str.{bytes_eq}
use Rattle.std.proofs.lemmas.Bool.{both_ways, false_from_ne_true}
use Rattle.std.proofs.lemmas.Cmp.{nat_list_cmp_total, tied_itself}
use Rattle.std.proofs.lemmas.Slice.Eq.{bytes_eq-Decides}
use Rattle.bdos_small.specs.Names.{is_before, is_after}

abbrev pub compared : List ℕ → List ℕ → Ordering
compared = slice_cmp nat_cmp

then_assoc : (a b c : Ordering) → ordering_then a (ordering_then b c) ≡ ordering_then (ordering_then a b) c
then_assoc Less b c = refl
then_assoc Equal b c = refl
then_assoc Greater b c = refl

-- the parts decide one after another
pub compared-append : (p q u v : List ℕ) → length p ≡ length q → compared (p ++ u) (q ++ v) ≡ ordering_then (compared p q) (compared u v)
compared-append [] [] u v e = refl
compared-append [] (y ∷ q) u v e = absurd (omega arith)
compared-append (x ∷ p) [] u v e = absurd (omega arith)
compared-append (x ∷ p) (y ∷ q) u v e =
    ap (ordering_then (nat_cmp x y)) (compared-append p q u v (omega arith)) ∙ then_assoc (nat_cmp x y) (compared p q) (compared u v)

pub compared_itself : (p : List ℕ) → compared p p ≡ Equal
compared_itself p = tied_itself nat_list_cmp_total p

pub same_from_compared : (p q : List ℕ) → compared p q ≡ Equal → p ≡ q
same_from_compared p q e =
    let tie : pointwise nat_eq p q ≡ eq_by_cmp compared p q = lists_ties nat_cmp (λ x y. search rules) p q in
    (bytes_eq-Decides p q).0 (tie ∙ ap is_eq e)

-- names before one another
less_from : (o : Ordering) → is_lt o ≡ true → o ≡ Less
less_from Less e = refl
less_from Equal e = cc
less_from Greater e = cc

pub before_less : (a b : List ℕ) → is_before a b ≡ true → compared a b ≡ Less
before_less a b e = less_from (compared a b) e

pub before_trans : (a b c : List ℕ) → is_before a b ≡ true → is_before b c ≡ true → is_before a c ≡ true
before_trans a b c e f = ap is_lt (nat_list_cmp_total.trans a b c (before_less a b e) (before_less b c f))

pub before_back : (a b : List ℕ) → is_before a b ≡ true → is_before b a ≡ false
before_back a b e = ap is_lt (nat_list_cmp_total.antisymm b a ∙ ap ordering_reverse (before_less a b e))

pub before_itself : (a : List ℕ) → is_before a a ≡ false
before_itself a = ap is_lt (compared_itself a)

pub before_cases : (a b : List ℕ) → (is_before a b ≡ true) ⊎ ((a ≡ b) ⊎ (is_before b a ≡ true))
before_cases a b = by_order (compared a b) refl
  where
    by_order : (o : Ordering) → compared a b ≡ o → (is_before a b ≡ true) ⊎ ((a ≡ b) ⊎ (is_before b a ≡ true))
    by_order Less e = inl (ap is_lt e)
    by_order Equal e = inr (inl (same_from_compared a b e))
    by_order Greater e = inr (inr (ap is_lt (nat_list_cmp_total.antisymm b a ∙ ap ordering_reverse e)))

pub before_differs_back : (a b : List ℕ) → is_before a b ≡ true → bytes_eq b a ≡ false
before_differs_back a b e =
    false_from_ne_true (bytes_eq b a) (λ s. let same = (bytes_eq-Decides b a).0 s in both_ways (is_before a b) (ap (λ x. is_before a x) same ∙ before_itself a) e)

pub after_later : (last : Option (List ℕ)) (a b : List ℕ) → is_after last a ≡ true → is_before a b ≡ true → is_after last b ≡ true
after_later None a b e f = refl
after_later (Some l) a b e f = before_trans l a b e f
