-- A word with its operands is one instruction, and which one was found.
use Rattle.std.proofs.Common.{◌≡◌, ℕ, List, ◌++◌, true, Option, Some, refl, sym, ap, ◌∙◌, inl, inr}
use Rattle.std.specs.Prelude.{Contains}
use Rattle.asm80_types.specs.Tree.{Operand}
use Rattle.asm80_text.specs.declared.token.Token.{Token}
use Rattle.zilog80.specs.Operands.{Spelt, Class, operands}
use Rattle.zilog80.specs.Table.{bare_rows, unary_rows, binary_rows}
use Rattle.zilog80.specs.Zilog.{IsInstruction, bare, unary, binary}
use Rattle.zilog80.proofs.Among.{among, either, only_one}
use Rattle.zilog80.proofs.Spelling.{one_spelt}
use Rattle.zilog80.proofs.Apart.{excluded, bare_exclude, unary_exclude, binary_exclude, bare_apart, unary_apart, binary_apart, same_word}

abbrev BareRow : Type 0
BareRow = List ℕ × List ℕ

abbrev UnaryRow : Type 0
UnaryRow = List ℕ × Class × List ℕ

abbrev BinaryRow : Type 0
BinaryRow = List ℕ × Class × Class × List ℕ

some_is : (x y : List Operand) → ◌≡◌ {A = Option (List Operand)} (Some x) (Some y) → x ≡ y
some_is x y e = cc

module _ (word : List ℕ) where
  -- ---- a row that fits

  FitsBare : BareRow → Type 0
  FitsBare r = r.0 ≡ word

  bare_conflict : (r s : BareRow) → bare_exclude r s ≡ true → FitsBare r → FitsBare s → ⊥
  unfolding FitsBare
  bare_conflict r s e f g = same_word r.0 s.0 e (f ∙ sym g)

  pub one_bare : (o p : List ℕ) → Contains bare_rows (word, o) → Contains bare_rows (word, p) → o ≡ p
  unfolding FitsBare
  one_bare o p h k = ap (λ (r : BareRow). r.1) (only_one bare_exclude FitsBare bare_conflict bare_rows bare_apart (word, o) (word, p) (among bare_rows (word, o) h) (among bare_rows (word, p) k) refl refl)

  record FitsUnary (a : Spelt) (r : UnaryRow) : Type 0 where
    is_word : r.0 ≡ word
    args : List Operand
    is_taken : operands r.1 a ≡ Some args

  unary_conflict : (a : Spelt) (r s : UnaryRow) → unary_exclude r s ≡ true → FitsUnary a r → FitsUnary a s → ⊥
  unary_conflict a r s e f g = elim (either _ _ e) [
    | inl w ↦ same_word r.0 s.0 w (f.is_word ∙ sym g.is_word)
    | inr x ↦ excluded r.1 s.1 a f.args g.args x f.is_taken g.is_taken
  ]

  pub one_unary : (a : Spelt) (c d : Class) (o p : List ℕ) (x y : List Operand) → Contains unary_rows (word, c, o) → Contains unary_rows (word, d, p) → operands c a ≡ Some x → operands d a ≡ Some y → (o ≡ p) × (x ≡ y)
  one_unary a c d o p x y h k t u =
      let same = only_one unary_exclude (FitsUnary a) (unary_conflict a) unary_rows unary_apart (word, c, o) (word, d, p) (among unary_rows (word, c, o) h) (among unary_rows (word, d, p) k)
      (record { is_word = refl; args = x; is_taken = t }) (record { is_word = refl; args = y; is_taken = u }) in
      (ap (λ (r : UnaryRow). r.2) same, some_is x y (sym t ∙ ap (λ (r : UnaryRow). operands r.1 a) same ∙ u))

  record FitsBinary (a b : Spelt) (r : BinaryRow) : Type 0 where
    is_word : r.0 ≡ word
    args : List Operand
    others : List Operand
    is_taken : operands r.1 a ≡ Some args
    are_taken : operands r.2 b ≡ Some others

  binary_conflict : (a b : Spelt) (r s : BinaryRow) → binary_exclude r s ≡ true → FitsBinary a b r → FitsBinary a b s → ⊥
  binary_conflict a b r s e f g = elim (either _ _ e) [
    | inl w ↦ same_word r.0 s.0 w (f.is_word ∙ sym g.is_word)
    | inr x ↦ elim (either _ _ x) [
      | inl y ↦ excluded r.1 s.1 a f.args g.args y f.is_taken g.is_taken
      | inr y ↦ excluded r.2 s.2 b f.others g.others y f.are_taken g.are_taken
    ]
  ]

  pub record SameBinary (o p : List ℕ) (x y u v : List Operand) : Type 0 where
    pub ops : o ≡ p
    pub firsts : x ≡ y
    pub seconds : u ≡ v

  pub one_binary : (a b : Spelt) (c d e f : Class) (o p : List ℕ) (x y u v : List Operand) → Contains binary_rows (word, c, d, o) → Contains binary_rows (word, e, f, p)
      → operands c a ≡ Some x → operands d b ≡ Some u → operands e a ≡ Some y → operands f b ≡ Some v → SameBinary o p x y u v
  one_binary a b c d e f o p x y u v h k t w s z =
      let same = only_one binary_exclude (FitsBinary a b) (binary_conflict a b) binary_rows binary_apart (word, c, d, o) (word, e, f, p) (among binary_rows (word, c, d, o) h) (among binary_rows (word, e, f, p) k)
      (record { is_word = refl; args = x; others = u; is_taken = t; are_taken = w }) (record { is_word = refl; args = y; others = v; is_taken = s; are_taken = z }) in
      record {
        ops = ap (λ (r : BinaryRow). r.3) same;
        firsts = some_is x y (sym t ∙ ap (λ (r : BinaryRow). operands r.1 a) same ∙ s);
        seconds = some_is u v (sym w ∙ ap (λ (r : BinaryRow). operands r.2 b) same ∙ z);
      }

  -- ---- an instruction

  pub one_instruction : {parts : List (List Token)} {o p : List ℕ} {x y : List Operand} → IsInstruction word parts o x → IsInstruction word parts p y → (o ≡ p) × (x ≡ y)
  one_instruction {o = o} {p = p} (bare h) (bare k) = (one_bare o p h k, refl)
  one_instruction {o = o} {p = p} {x = x} {y = y} (unary c a h s t) (unary d b k r u) =
      one_unary a c d o p x y h k t (rw (one_spelt s r) u)
  one_instruction {o = o} {p = p} (binary {args = x} {others = u} c d a b h s t i j) (binary {args = y} {others = v} e f a' b' k s' t' i' j') =
      let same = one_binary a b c d e f o p x y u v h k i j (rw (one_spelt s s') i') (rw (one_spelt t t') j') in
      (same.ops, ap (λ (z : List Operand). z ++ u) same.firsts ∙ ap (λ (z : List Operand). y ++ z) same.seconds)
