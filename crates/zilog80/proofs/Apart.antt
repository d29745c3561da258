-- No two rows of the table fit the same statement.
use Rattle.std.proofs.Common.{◌≡◌, ℕ, List, [], ◌∷◌, map, Bool, true, false, not, ◌&&◌, ◌||◌, Some, refl, ap, ◌∙◌, inl, inr}
use Rattle.std.specs.List.{list_any, list_all}
use Rattle.std.specs.Str.{bytes_eq}
use Rattle.asm80_types.specs.Tree.{Tree, Operand}
use Rattle.zilog80.specs.Operands.{Spelt, Name, AtName, Literal, Value, AtValue, Class, Is, At, Register, Memory, Source, Pair, StackPair, Indirect, Bare, Any, Cell, Zero, Names, registers, memory, pairs, stack_pairs, indirects, renamed, nothing_if, of_name, of_name_at, operands}
use Rattle.zilog80.specs.Table.{bare_rows, unary_rows, binary_rows}
use Rattle.zilog80.proofs.Among.{named, itself, passes, both, two_cases, apart}

-- ---- what a class takes

abbrev keys : Names → List (List ℕ)
keys names = map (λ (x : List ℕ × List ℕ). x.0) names

-- the names that a class takes, alone and in parentheses
abbrev names_of : Class → List (List ℕ)
names_of (Is name) = name ∷ []
names_of Register = keys registers
names_of Source = keys registers
names_of Pair = keys pairs
names_of StackPair = keys stack_pairs
names_of c = []

abbrev names_at : Class → List (List ℕ)
names_at (At name) = name ∷ []
names_at Memory = keys memory
names_at Source = keys memory
names_at Indirect = keys indirects
names_at c = []

abbrev takes_literal : Class → Bool
takes_literal Bare = true
takes_literal Any = true
takes_literal Zero = true
takes_literal c = false

abbrev takes_value : Class → Bool
takes_value Bare = true
takes_value Any = true
takes_value c = false

abbrev takes_value_at : Class → Bool
takes_value_at Any = true
takes_value_at Cell = true
takes_value_at c = false

test_of : (b : Bool) (x : List Operand) → nothing_if b ≡ Some x → b ≡ true
test_of true x e = refl
test_of false x e = absurd cc

alone_named : (name n : List ℕ) (x : List Operand) → nothing_if (bytes_eq name n) ≡ Some x → list_any (λ v. bytes_eq v n) (name ∷ []) ≡ true
alone_named name n x e = rw (test_of (bytes_eq name n) x e) refl

renamed_named : (names : Names) (n : List ℕ) (x : List Operand) → renamed names n ≡ Some x → list_any (λ v. bytes_eq v n) (keys names) ≡ true
renamed_named [] n x e = absurd cc
renamed_named (y ∷ names) n x e = elim (two_cases (bytes_eq y.0 n)) [
  | inl t ↦ rw t refl
  | inr f ↦ rw f (renamed_named names n x (rw f at e))
]

name_taken : (c : Class) (n : List ℕ) (x : List Operand) → of_name c n ≡ Some x → list_any (λ v. bytes_eq v n) (names_of c) ≡ true
name_taken (Is name) n x e = alone_named name n x e
name_taken Register n x e = renamed_named registers n x e
name_taken Source n x e = renamed_named registers n x e
name_taken Pair n x e = renamed_named pairs n x e
name_taken StackPair n x e = renamed_named stack_pairs n x e
name_taken c n x e = absurd cc

name_taken_at : (c : Class) (n : List ℕ) (x : List Operand) → of_name_at c n ≡ Some x → list_any (λ v. bytes_eq v n) (names_at c) ≡ true
name_taken_at (At name) n x e = alone_named name n x e
name_taken_at Memory n x e = renamed_named memory n x e
name_taken_at Source n x e = renamed_named memory n x e
name_taken_at Indirect n x e = renamed_named indirects n x e
name_taken_at c n x e = absurd cc

literal_taken : (c : Class) (n : ℕ) (x : List Operand) → operands c (Literal n) ≡ Some x → takes_literal c ≡ true
literal_taken Bare n x e = refl
literal_taken Any n x e = refl
literal_taken Zero n x e = refl
literal_taken c n x e = absurd cc

value_taken : (c : Class) (e : Tree) (x : List Operand) → operands c (Value e) ≡ Some x → takes_value c ≡ true
value_taken Bare e x h = refl
value_taken Any e x h = refl
value_taken c e x h = absurd cc

value_taken_at : (c : Class) (e : Tree) (x : List Operand) → operands c (AtValue e) ≡ Some x → takes_value_at c ≡ true
value_taken_at Any e x h = refl
value_taken_at Cell e x h = refl
value_taken_at c e x h = absurd cc

-- ---- classes that take nothing in common

abbrev no_name_of : List (List ℕ) → List (List ℕ) → Bool
no_name_of names others = list_all (λ n. not (list_any (λ v. bytes_eq v n) others)) names

abbrev not_both : Bool → Bool → Bool
not_both a b = not (a && b)

abbrev pub exclude : Class → Class → Bool
exclude c d =
    (no_name_of (names_of c) (names_of d) && no_name_of (names_at c) (names_at d))
    && (not_both (takes_literal c) (takes_literal d) && (not_both (takes_value c) (takes_value d) && not_both (takes_value_at c) (takes_value_at d)))

no_common : (names others : List (List ℕ)) (n : List ℕ) → no_name_of names others ≡ true → list_any (λ v. bytes_eq v n) names ≡ true → list_any (λ v. bytes_eq v n) others ≡ true → ⊥
no_common names others n e h k =
    let t = passes (λ m. not (list_any (λ v. bytes_eq v m) others)) names n e (named names n h) in
    true_false (rw k at t)
  where
    true_false : false ≡ true → ⊥
    true_false x = cc

not_two : (a b : Bool) → not_both a b ≡ true → a ≡ true → b ≡ true → ⊥
not_two true true e h k = absurd cc
not_two true false e h k = absurd cc
not_two false b e h k = absurd cc

-- the parts of the test
record Excluded (c d : Class) : Type 0 where
  names : no_name_of (names_of c) (names_of d) ≡ true
  names_in : no_name_of (names_at c) (names_at d) ≡ true
  literals : not_both (takes_literal c) (takes_literal d) ≡ true
  values : not_both (takes_value c) (takes_value d) ≡ true
  values_in : not_both (takes_value_at c) (takes_value_at d) ≡ true

parts_of : (c d : Class) → exclude c d ≡ true → Excluded c d
parts_of c d e =
    let v = not_both (takes_value c) (takes_value d) in
    let w = not_both (takes_value_at c) (takes_value_at d) in
    let l = not_both (takes_literal c) (takes_literal d) in
    let n = no_name_of (names_of c) (names_of d) in
    let m = no_name_of (names_at c) (names_at d) in
    let halves = both (n && m) (l && (v && w)) e in
    let front = both n m halves.0 in
    let back = both l (v && w) halves.1 in
    let last = both v w back.1 in
    record { names = front.0; names_in = front.1; literals = back.0; values = last.0; values_in = last.1 }

pub excluded : (c d : Class) (a : Spelt) (x y : List Operand) → exclude c d ≡ true → operands c a ≡ Some x → operands d a ≡ Some y → ⊥
excluded c d (Name n) x y e h k = no_common (names_of c) (names_of d) n (parts_of c d e).names (name_taken c n x h) (name_taken d n y k)
excluded c d (AtName n) x y e h k = no_common (names_at c) (names_at d) n (parts_of c d e).names_in (name_taken_at c n x h) (name_taken_at d n y k)
excluded c d (Literal n) x y e h k = not_two (takes_literal c) (takes_literal d) (parts_of c d e).literals (literal_taken c n x h) (literal_taken d n y k)
excluded c d (Value f) x y e h k = not_two (takes_value c) (takes_value d) (parts_of c d e).values (value_taken c f x h) (value_taken d f y k)
excluded c d (AtValue f) x y e h k = not_two (takes_value_at c) (takes_value_at d) (parts_of c d e).values_in (value_taken_at c f x h) (value_taken_at d f y k)

-- ---- rows

abbrev other_word : List ℕ → List ℕ → Bool
other_word v w = not (bytes_eq v w)

abbrev pub bare_exclude : List ℕ × List ℕ → List ℕ × List ℕ → Bool
bare_exclude r s = other_word r.0 s.0

abbrev pub unary_exclude : List ℕ × Class × List ℕ → List ℕ × Class × List ℕ → Bool
unary_exclude r s = other_word r.0 s.0 || exclude r.1 s.1

abbrev pub binary_exclude : List ℕ × Class × Class × List ℕ → List ℕ × Class × Class × List ℕ → Bool
binary_exclude r s = other_word r.0 s.0 || (exclude r.1 s.1 || exclude r.2 s.2)

pub bare_apart : apart bare_exclude bare_rows ≡ true
unfolding bare_rows
bare_apart = refl

pub unary_apart : apart unary_exclude unary_rows ≡ true
unfolding unary_rows registers memory pairs stack_pairs indirects
unary_apart = refl

pub binary_apart : apart binary_exclude binary_rows ≡ true
unfolding binary_rows registers memory pairs stack_pairs indirects
binary_apart = refl

pub same_word : (v w : List ℕ) → other_word v w ≡ true → v ≡ w → ⊥
same_word v w e is = true_false (rw (ap (λ (u : List ℕ). bytes_eq u w) is ∙ itself w) at e)
  where
    true_false : false ≡ true → ⊥
    true_false x = cc
