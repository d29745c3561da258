-- The forms that a word may have, and how its first `=` parts it.
use Rattle.std.proofs.Common.{◌≡◌, ℕ, List, [], ◌∷◌, Bool, true, false, not, refl, ap, sym, ◌∙◌, cond, ◌||◌, ◌==◌, ◌+◌, suc, subst, length, arith, take, drop, inl, inr}
use Rattle.std.specs.Prelude.{nat_lt}
use Rattle.std.specs.List.{before_first, after_first, position_or_len}
use Rattle.std.specs.Str.{bytes_eq}
use Rattle.std.proofs.lemmas.Bool.{cases_lt, lt-ltb, le-ltb, eqb-true, or_parts}
use Rattle.clap.specs.Lexer.{has_byte}
use Rattle.cmd_arguments.specs.Table.{Word}
use Rattle.cmd_arguments.specs.Items.{end_of_options}
use Rattle.cmd_arguments.specs.Asked.{has_short, is_short}
use Rattle.cmd_arguments.proofs.FirstItem.{is_equals, has_equals}
use Rattle.cmd_arguments.proofs.Turns.{IsPlainWord}
use Rattle.cmd_arguments.proofs.LongTurns.{double}

pub data WordForm : Word → Type 0 where
  plain : {x : Word} → IsPlainWord x → WordForm x
  single : {x : Word} → is_short x ≡ true → bytes_eq x end_of_options ≡ false → WordForm x
  marks : WordForm end_of_options
  doubled : (z : ℕ) (zs : List ℕ) → WordForm (double z zs)

two_hyphens : (zs : List ℕ) → WordForm (0x2D ∷ (0x2D ∷ zs))
two_hyphens [] = marks
two_hyphens (z ∷ zs) = doubled z zs

one_hyphen : (d : ℕ) (ds : List ℕ) (b : Bool) → (d == 0x2D) ≡ b → WordForm (0x2D ∷ (d ∷ ds))
one_hyphen d ds true e = subst (λ n. WordForm (0x2D ∷ (n ∷ ds))) (sym (eqb-true d 0x2D e)) (two_hyphens ds)
one_hyphen d ds false e = single (rw (lt-ltb 1 (length (0x2D ∷ (d ∷ ds))) (omega arith), e) refl) (rw e refl)

behind_hyphen : (ds : List ℕ) → WordForm (0x2D ∷ ds)
behind_hyphen [] = plain (record { no_mark = refl; no_long = refl; no_short = refl; may_be = refl })
behind_hyphen (d ∷ ds) = one_hyphen d ds (d == 0x2D) refl

by_first : (b : ℕ) (ds : List ℕ) (t : Bool) → (b == 0x2D) ≡ t → WordForm (b ∷ ds)
by_first b ds true e = subst (λ n. WordForm (n ∷ ds)) (sym (eqb-true b 0x2D e)) (behind_hyphen ds)
by_first b ds false e = plain (record { no_mark = rw e refl; no_long = rw e refl; no_short = rw e refl; may_be = rw e refl })

pub form_of : (x : Word) → WordForm x
form_of [] = plain (record { no_mark = refl; no_long = refl; no_short = refl; may_be = refl })
form_of (b ∷ ds) = by_first b ds (b == 0x2D) refl

-- no word of one hyphen stands first, nor behind
pub short_absent : (x : Word) (ws : List Word) → bytes_eq x end_of_options ≡ false → has_short (x ∷ ws) ≡ false → (is_short x ≡ false) × (has_short ws ≡ false)
short_absent x ws other none = or_parts (is_short x) (has_short ws) (rw other at none)

-- ---- the first `=`

lt_more : (a b : ℕ) → nat_lt (1 + a) (1 + b) ≡ nat_lt a b
lt_more a b = elim (cases_lt a b) [
  | inl lt ↦ lt-ltb (1 + a) (1 + b) (omega arith) ∙ sym (lt-ltb a b lt)
  | inr le ↦ le-ltb (1 + a) (1 + b) (omega arith) ∙ sym (le-ltb a b (omega arith))
]

take_more : (k y : ℕ) (ys : List ℕ) → take (1 + k) (y ∷ ys) ≡ y ∷ take k ys
take_more k y ys = let e : 1 + k ≡ suc k = omega arith in rw e refl

drop_more : (k y : ℕ) (ys : List ℕ) → drop ((1 + k) + 1) (y ∷ ys) ≡ drop (k + 1) ys
drop_more k y ys = let e : (1 + k) + 1 ≡ suc (k + 1) = omega arith in rw e refl

length_more : (y : ℕ) (ys : List ℕ) → length (y ∷ ys) ≡ 1 + length ys
length_more y ys = omega arith

equals_found : (b : List ℕ) → has_equals b ≡ has_byte 0x3D b
equals_found [] = refl
equals_found (y ∷ ys) = go (y == 0x3D) (equals_found ys)
  where
    go : (t : Bool) → has_equals ys ≡ has_byte 0x3D ys → nat_lt (cond (not t) (1 + position_or_len is_equals ys) 0) (length (y ∷ ys)) ≡ (t || has_byte 0x3D ys)
    go true e = lt-ltb 0 (length (y ∷ ys)) (omega arith)
    go false e = ap (nat_lt (1 + position_or_len is_equals ys)) (length_more y ys) ∙ lt_more (position_or_len is_equals ys) (length ys) ∙ e

pub equals_in_double : (z : ℕ) (zs : List ℕ) → has_equals (double z zs) ≡ has_byte 0x3D (z ∷ zs)
equals_in_double z zs = equals_found (double z zs)

pub before_in_double : (z : ℕ) (zs : List ℕ) → before_first is_equals (double z zs) ≡ 0x2D ∷ (0x2D ∷ before_first (λ x. x == 0x3D) (z ∷ zs))
before_in_double z zs =
    let k = position_or_len is_equals (z ∷ zs) in
    take_more (1 + k) 0x2D (0x2D ∷ (z ∷ zs)) ∙ ap (λ xs. 0x2D ∷ xs) (take_more k 0x2D (z ∷ zs))

pub after_in_double : (z : ℕ) (zs : List ℕ) → after_first is_equals (double z zs) ≡ after_first (λ x. x == 0x3D) (z ∷ zs)
after_in_double z zs =
    let k = position_or_len is_equals (z ∷ zs) in
    drop_more (1 + k) 0x2D (0x2D ∷ (z ∷ zs)) ∙ drop_more k 0x2D (z ∷ zs)

pub whole_before : (b : List ℕ) → has_byte 0x3D b ≡ false → before_first (λ x. x == 0x3D) b ≡ b
whole_before [] none = refl
whole_before (y ∷ ys) none =
    let parts = or_parts (y == 0x3D) (has_byte 0x3D ys) none in
    rw parts.0 (take_more (position_or_len (λ x. x == 0x3D) ys) y ys ∙ ap (λ xs. y ∷ xs) (whole_before ys parts.1))
