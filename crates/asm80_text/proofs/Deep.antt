-- How many parentheses are open, one token further.
use Rattle.std.proofs.Common.{◌≡◌, ℕ, suc, max, ◌+◌, ◌≤◌, ◌<◌, List, [], ◌∷◌, Bool, true, false, ltb, drop, get_or, length, refl, sym, ap, ◌∙◌, arith, inl, inr, drop-cons, add-one}
use Rattle.std.proofs.lemmas.Bool.{cases_lt, lt-ltb, le-ltb}
use Rattle.asm80_text.specs.declared.token.Token.{Token}
use Rattle.asm80_text.specs.Line.{open_after, most_open}

max_above : (n m : ℕ) → n ≤ 16 → ltb 16 (max n m) ≡ ltb 16 m
max_above n m le = elim (cases_lt 16 m) [
  | inl lt ↦ let l : 16 < max n m = omega arith in rw (lt-ltb 16 m lt, lt-ltb 16 (max n m) l) refl
  | inr ge ↦ let g : max n m ≤ 16 = omega arith in rw (le-ltb 16 m ge, le-ltb 16 (max n m) g) refl
]

at_least : (n : ℕ) (ts : List Token) → n ≤ most_open n ts
unfolding most_open
at_least n [] = omega arith
at_least n (t ∷ ts) = omega arith

cons_step : (n : ℕ) (t : Token) (ts : List Token) → n ≤ 16 → ltb 16 (most_open n (t ∷ ts)) ≡ ltb 16 (most_open (open_after n t) ts)
unfolding most_open
cons_step n t ts le = max_above n (most_open (open_after n t) ts) le

pub deep_step : (n m i : ℕ) (ts : List Token) (t : Token) (all : Bool) → i < length ts → t ≡ get_or ts i t → m ≡ open_after n t → n ≤ 16 → ltb 16 (most_open n (drop i ts)) ≡ all → ltb 16 (most_open m (drop (i + 1) ts)) ≡ all
deep_step n m i ts t all lt e p le h =
    let c : drop i ts ≡ t ∷ drop (i + 1) ts = rw add-one (drop-cons ts i t lt ∙ ap (λ (k : Token). k ∷ drop (suc i) ts) (sym e)) in
    rw p (sym (cons_step n t (drop (i + 1) ts) le) ∙ ap (λ (k : List Token). ltb 16 (most_open n k)) (sym c) ∙ h)

pub deep_found : (n m i : ℕ) (ts : List Token) (t : Token) (all : Bool) → i < length ts → t ≡ get_or ts i t → m ≡ open_after n t → n ≤ 16 → 16 < m → ltb 16 (most_open n (drop i ts)) ≡ all → true ≡ all
deep_found n m i ts t all lt e p le above h =
    let l : 16 < most_open m (drop (i + 1) ts) = omega (arith, at_least m (drop (i + 1) ts)) in
    sym (lt-ltb 16 (most_open m (drop (i + 1) ts)) l) ∙ deep_step n m i ts t all lt e p le h

pub deep_end : (n : ℕ) (rest : List Token) (all : Bool) → rest ≡ [] → n ≤ 16 → ltb 16 (most_open n rest) ≡ all → false ≡ all
unfolding most_open
deep_end n rest all e le h = sym (le-ltb 16 n le) ∙ sym (ap (λ (k : List Token). ltb 16 (most_open n k)) e) ∙ h
