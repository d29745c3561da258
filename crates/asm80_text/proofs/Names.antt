-- The bytes that count of a word are a name.
use Rattle.std.proofs.Common.{◌≡◌, ℕ, suc, ◌+◌, ◌<◌, ◌≤◌, List, [], ◌∷◌, true, false, eqb, length, take, refl, arith, inl, inr, ◌||◌}
use Rattle.std.specs.List.{AllByRecursion, list_all}
use Rattle.std.proofs.lemmas.Bool.Decides.{nat_tests}
use Rattle.std.proofs.lemmas.List.Elements.{All-from_recursion}
use Rattle.std.proofs.lemmas.Bool.{cases_Bool}
use Rattle.asm80_types.specs.Name.{IsNameByte, IsName}
use Rattle.asm80_text.specs.Letters.{is_upper, is_lower, is_inside, upper, significant, inside_len}
use Rattle.asm80_text.specs.TokenResults.{BeginsWithLetter}

upper_is : (b : ℕ) → is_inside b ≡ true → eqb b 36 ≡ false → IsNameByte (upper b)
upper_is b h ne = grind (arith, nat_tests)

each_kept : (b : ℕ) (rest : List ℕ) → is_inside b ≡ true → AllByRecursion IsNameByte (significant rest) → AllByRecursion IsNameByte (significant (b ∷ rest))
unfolding significant
each_kept b rest h all = elim (cases_Bool (eqb b 36)) [ inl e ↦ rw e all | inr e ↦ rw e (upper_is b h e, all) ]

taken : (b : ℕ) (bytes : List ℕ) → is_inside b ≡ true → take (inside_len (b ∷ bytes)) (b ∷ bytes) ≡ b ∷ take (inside_len bytes) bytes
taken b bytes e = let one : 1 + inside_len bytes ≡ suc (inside_len bytes) = omega arith in rw (e, one) refl

none_taken : (b : ℕ) (bytes : List ℕ) → is_inside b ≡ false → take (inside_len (b ∷ bytes)) (b ∷ bytes) ≡ []
none_taken b bytes e = rw e refl

pub each_named : (bytes : List ℕ) → AllByRecursion IsNameByte (significant (take (inside_len bytes) bytes))
unfolding significant
each_named [] = tt
each_named (b ∷ bytes) = elim (cases_Bool (is_inside b)) [
  | inl e ↦ rw (taken b bytes e) (each_kept b (take (inside_len bytes) bytes) e (each_named bytes))
  | inr e ↦ rw (none_taken b bytes e) tt
]

false_true : false ≡ true → ⊥
false_true e = cc

start_inside : (b : ℕ) → (is_upper b || is_lower b) ≡ true → (is_inside b ≡ true) × (eqb b 36 ≡ false)
start_inside b h = (grind (arith, nat_tests), grind (arith, nat_tests))

pub one_at_least : (bytes : List ℕ) → BeginsWithLetter bytes → 0 < length (significant (take (inside_len bytes) bytes))
unfolding significant
one_at_least [] h = absurd h
one_at_least (b ∷ bytes) h =
    let s = start_inside b h in
    rw (taken b bytes s.0, s.1) (omega arith)

pub is_name : (bytes : List ℕ) → BeginsWithLetter bytes → length (significant (take (inside_len bytes) bytes)) ≤ 16 → IsName (significant (take (inside_len bytes) bytes))
is_name bytes h le = record { some = one_at_least bytes h; at_most = le; each = All-from_recursion _ _ (each_named bytes) }

-- ---- words that are written in the code

all_name_bytes : (bytes : List ℕ) → list_all is_upper bytes ≡ true → AllByRecursion IsNameByte bytes
all_name_bytes [] h = tt
all_name_bytes (b ∷ bytes) h = elim (cases_Bool (is_upper b)) [
  | inl e ↦ (grind (arith, nat_tests), all_name_bytes bytes (rw e at h))
  | inr e ↦ absurd (false_true (rw e at h))
]

pub letters_are_name : (bytes : List ℕ) → list_all is_upper bytes ≡ true → 0 < length bytes → length bytes ≤ 16 → IsName bytes
letters_are_name bytes h some most = record { some = some; at_most = most; each = All-from_recursion _ _ (all_name_bytes bytes h) }
