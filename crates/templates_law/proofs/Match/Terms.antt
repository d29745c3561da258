-- Bytes and flags that meet: they agree, and what is made of them meets.
use Rattle.std.specs.Prelude.{not}
use Rattle.std.proofs.Common.{◌≡◌, ℕ, ◌||◌, Bool, true, false, cond, refl, sym, ap, ap₂, ◌∙◌}
use Rattle.std.proofs.lemmas.Bool.{or_right, and_from, or_from, false≢true}
use Rattle.cells.specs.declared.Part.{Part}
use Rattle.cells.specs.declared.Part.TheVariants.{Ac, Cy}
use Rattle.i80.specs.declared.Op.{Op}
use Rattle.sym_terms.specs.Term.{Term, Num, Alu, Flag, Join, FlagByte, Turn, Adjust, Unknown, is_open, same_term}
use Rattle.sym_terms.specs.Making.{alu, flag, flag_term_of, carry_flag, half_carry_flag, is_logic, is_addition, turn, adjust}
use Rattle.sym_terms.proofs.Equal.{same_term_refl}
use Rattle.sym_block_def.specs.Agree.{has_unknown, same_known, agrees}
use Rattle.templates_law.specs.Match.Meeting.{Meets, lost, same}

-- tests

pub or_first : (a b : Bool) → a ≡ true → (a || b) ≡ true
or_first true b e = refl
or_first false b e = absurd (false≢true e)

-- terms in which nothing is unknown agree with themselves

known_self : (s : Term) → has_unknown s ≡ false → same_known s s ≡ true
known_self s e = and_from (same_term s s) (not (has_unknown s)) (same_term_refl s) (ap not e)

pub agrees_self : (s : Term) → has_unknown s ≡ false → agrees s s ≡ true
agrees_self Unknown e = refl
agrees_self (Join h l) e = or_first (same_known (Join h l) (Join h l)) _ (known_self (Join h l) e)
agrees_self (FlagByte s z ac p cy) e = or_first (same_known (FlagByte s z ac p cy) (FlagByte s z ac p cy)) _ (known_self (FlagByte s z ac p cy) e)
agrees_self s e = known_self s e

-- terms that meet agree
pub meets_agree : (s t : Term) → Meets s t → agrees s t ≡ true
meets_agree s t (lost e) = ap (λ x. agrees x t) e
meets_agree s t (same e k) = ap (λ x. agrees s x) e ∙ agrees_self s k

-- a term beside terms that meet
pub meets_at : (s t x y : Term) → x ≡ s → y ≡ t → Meets s t → Meets x y
meets_at s t x y p q (lost e) = lost (p ∙ e)
meets_at s t x y p q (same e k) = same (q ∙ e ∙ sym p) (ap has_unknown p ∙ k)

-- a term of which nothing is known, or nothing unknown, meets itself

pub unknown_if : (x : Bool) (t : Term) → x ≡ true → cond x Unknown t ≡ Unknown
unknown_if true t e = refl
unknown_if false t e = absurd (false≢true e)

self_if : (x : Bool) (t : Term) → Meets t t → Meets (cond x Unknown t) (cond x Unknown t)
self_if true t m = lost refl
self_if false t m = m

carry_self : (r : Term) → has_unknown r ≡ false → Meets (carry_flag r) (carry_flag r)
carry_self (Alu op a b c) k = by_op (is_logic op)
  where
    by_op : (x : Bool) → Meets (cond x (Num 0) (Flag Cy (Alu op a b c))) (cond x (Num 0) (Flag Cy (Alu op a b c)))
    by_op true = same refl refl
    by_op false = same refl k
carry_self r k = same refl k

half_carry_self : (r : Term) → has_unknown r ≡ false → Meets (half_carry_flag r) (half_carry_flag r)
half_carry_self (Alu op a b c) k = by_op (is_addition op)
  where
    by_op : (x : Bool) → Meets (cond x (Flag Ac (Alu op a b c)) Unknown) (cond x (Flag Ac (Alu op a b c)) Unknown)
    by_op true = same refl k
    by_op false = lost refl
half_carry_self r k = lost refl

flag_self : (part : Part) (r : Term) → has_unknown r ≡ false → Meets (flag_term_of part r) (flag_term_of part r)
flag_self Cy r k = carry_self r k
flag_self Ac r k = half_carry_self r k
flag_self part r k = same refl k

-- operations

pub flags_meet : (part : Part) (r r' : Term) → Meets r r' → Meets (flag part r) (flag part r')
flags_meet part r r' (lost e) = lost (unknown_if (is_open r) (flag_term_of part r) (ap is_open e))
flags_meet part r r' (same e k) = meets_at (flag part r) (flag part r) _ _ refl (ap (flag part) e) (self_if (is_open r) (flag_term_of part r) (flag_self part r k))

pub alus_meet : (op : Op) (a a' b b' c c' : Term) → Meets a a' → Meets b b' → Meets c c' → Meets (alu op a b c) (alu op a' b' c')
alus_meet op a a' b b' c c' (lost e) mb mc = lost (unknown_if _ (Alu op a b c) (or_first (is_open a) (is_open b || is_open c) (ap is_open e)))
alus_meet op a a' b b' c c' (same ea ka) (lost e) mc = lost (unknown_if _ (Alu op a b c) (or_right (is_open a) (is_open b || is_open c) (or_first (is_open b) (is_open c) (ap is_open e))))
alus_meet op a a' b b' c c' (same ea ka) (same eb kb) (lost e) = lost (unknown_if _ (Alu op a b c) (or_right (is_open a) (is_open b || is_open c) (or_right (is_open b) (is_open c) (ap is_open e))))
alus_meet op a a' b b' c c' (same ea ka) (same eb kb) (same ec kc) =
    meets_at (alu op a b c) (alu op a b c) _ _ refl (ap₂ (λ x y. alu op x y c') ea eb ∙ ap (alu op a b) ec)
    (self_if (is_open a || (is_open b || is_open c)) (Alu op a b c) (same refl (or_from (has_unknown a) _ ka (or_from (has_unknown b) (has_unknown c) kb kc))))

pub turns_meet : (kind : ℕ) (a a' c c' : Term) → Meets a a' → Meets c c' → Meets (turn kind a c) (turn kind a' c')
turns_meet kind a a' c c' (lost e) mc = lost (unknown_if _ (Turn kind a c) (or_first (is_open a) (is_open c) (ap is_open e)))
turns_meet kind a a' c c' (same ea ka) (lost e) = lost (unknown_if _ (Turn kind a c) (or_right (is_open a) (is_open c) (ap is_open e)))
turns_meet kind a a' c c' (same ea ka) (same ec kc) =
    meets_at (turn kind a c) (turn kind a c) _ _ refl (ap₂ (turn kind) ea ec)
    (self_if (is_open a || is_open c) (Turn kind a c) (same refl (or_from (has_unknown a) (has_unknown c) ka kc)))

pub adjusts_meet : (a a' b b' c c' : Term) → Meets a a' → Meets b b' → Meets c c' → Meets (adjust a b c) (adjust a' b' c')
adjusts_meet a a' b b' c c' (lost e) mb mc = lost (unknown_if _ (Adjust a b c) (or_first (is_open a) (is_open b || is_open c) (ap is_open e)))
adjusts_meet a a' b b' c c' (same ea ka) (lost e) mc = lost (unknown_if _ (Adjust a b c) (or_right (is_open a) (is_open b || is_open c) (or_first (is_open b) (is_open c) (ap is_open e))))
adjusts_meet a a' b b' c c' (same ea ka) (same eb kb) (lost e) = lost (unknown_if _ (Adjust a b c) (or_right (is_open a) (is_open b || is_open c) (or_right (is_open b) (is_open c) (ap is_open e))))
adjusts_meet a a' b b' c c' (same ea ka) (same eb kb) (same ec kc) =
    meets_at (adjust a b c) (adjust a b c) _ _ refl (ap₂ (λ x y. adjust x y c') ea eb ∙ ap (adjust a b) ec)
    (self_if (is_open a || (is_open b || is_open c)) (Adjust a b c) (same refl (or_from (has_unknown a) _ ka (or_from (has_unknown b) (has_unknown c) kb kc))))

-- a number meets itself
pub number_meets : (n : ℕ) → Meets (Num n) (Num n)
number_meets n = same refl refl
