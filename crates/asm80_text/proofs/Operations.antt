-- The tokens that are words where a statement has its operation.
use Rattle.std.proofs.Common.{◌≡◌, ◌≢◌, ℕ, ◌≤◌, List, [], ◌∷◌, length, ltb, Bool, true, false, Option, Some, None, refl, ap, arith, inl, inr}
use Rattle.std.specs.List.{list_all, list_any}
use Rattle.std.specs.Str.{bytes_eq}
use Rattle.std.proofs.lemmas.Bool.{cases_Bool}
use Rattle.std.proofs.lemmas.Slice.Eq.{bytes_eq-Decides}
use borrow.Author.Tests.{ltb-true}
use Rattle.asm80_types.specs.Words.{operations, is_operation as is_intel_operation}
use Rattle.std.specs.Prelude.{codes, if◌then◌else◌}
use Rattle.asm80_types.specs.declared.expr.Two.{Two}
use Rattle.asm80_text.specs.declared.token.Token.{Token}
use Rattle.asm80_text.specs.declared.token.Token.TheVariants.{Digits, Num, Here, Word, Register, Operation, Text, Op, Not, Open, Close, Comma, Colon, Bang, Stray}
use Rattle.asm80_text.specs.Spelling.{Spelling}
use Rattle.asm80_text.specs.Words.{operator_name, if_operation, as_operation}
use Rattle.asm80_text.specs.Tokens.{IsLawful}

pub data CanOperate : Token → Type 0 where
  word : {w : List ℕ} → CanOperate (Operation w)
  operator : {o : Two} → CanOperate (Op o)
  inverse : CanOperate Not

pub can_operate : (s : Spelling) (t : Token) (w : List ℕ) → as_operation s t ≡ Some w → CanOperate t
can_operate s (Operation v) w e = word
can_operate s (Op o) w e = operator
can_operate s Not w e = inverse
can_operate s (Digits n) w e = absurd cc
can_operate s (Num n) w e = absurd cc
can_operate s Here w e = absurd cc
can_operate s (Word v) w e = absurd cc
can_operate s (Register v) w e = absurd cc
can_operate s (Text bytes) w e = absurd cc
can_operate s Open w e = absurd cc
can_operate s Close w e = absurd cc
can_operate s Comma w e = absurd cc
can_operate s Colon w e = absurd cc
can_operate s Bang w e = absurd cc
can_operate s Stray w e = absurd cc

-- such a word is an operation

chosen_operates : (s : Spelling) (v w : List ℕ) (b : Bool) → s.is_operation v ≡ b → ◌≡◌ {A = Option (List ℕ)} (if b then Some v else None) (Some w) → s.is_operation w ≡ true
chosen_operates s v w true e h = cc
chosen_operates s v w false e h = absurd cc

name_operates : (s : Spelling) (o : Option (List ℕ)) (w : List ℕ) → if_operation s o ≡ Some w → s.is_operation w ≡ true
name_operates s None w e = absurd cc
name_operates s (Some v) w e = chosen_operates s v w (s.is_operation v) refl e

pub operates : (s : Spelling) (t : Token) (w : List ℕ) → as_operation s t ≡ Some w → IsLawful s t → s.is_operation w ≡ true
operates s (Operation v) w e h = cc
operates s (Op o) w e h = name_operates s (operator_name o) w e
operates s Not w e h = name_operates s (Some (codes "NOT")) w e
operates s (Digits n) w e h = absurd cc
operates s (Num n) w e h = absurd cc
operates s Here w e h = absurd cc
operates s (Word v) w e h = absurd cc
operates s (Register v) w e h = absurd cc
operates s (Text bytes) w e h = absurd cc
operates s Open w e h = absurd cc
operates s Close w e h = absurd cc
operates s Comma w e h = absurd cc
operates s Colon w e h = absurd cc
operates s Bang w e h = absurd cc
operates s Stray w e h = absurd cc

-- ---- Intel's operations have two letters and more

differs : (a b : List ℕ) → length a ≢ length b → bytes_eq a b ≡ false
differs a b ne = elim (cases_Bool (bytes_eq a b)) [
  | inl e ↦ absurd (ne (ap length ((bytes_eq-Decides a b).0 e)))
  | inr e ↦ e
]

false_true : false ≡ true → ⊥
false_true e = cc

none_short : (words : List (List ℕ)) (name : List ℕ) → list_all (λ w. ltb 1 (length w)) words ≡ true → length name ≤ 1 → list_any (λ w. bytes_eq w name) words ≡ false
none_short [] name all le = refl
none_short (one ∷ words) name all le = elim (cases_Bool (ltb 1 (length one))) [
  | inl long ↦ rw (differs one name (λ e. omega (arith, ltb-true 1 (length one) long))) (none_short words name (rw long at all) le)
  | inr short ↦ absurd (false_true (rw short at all))
]

pub one_letter : (name : List ℕ) → length name ≤ 1 → is_intel_operation name ≡ false
unfolding operations
one_letter name le = none_short operations name refl le
