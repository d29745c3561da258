-- What an operand of a class gives in Intel's spelling: nothing, a name, or its value.
use Rattle.std.proofs.Common.{◌≡◌, ℕ, zero, List, [], ◌∷◌, Bool, true, false, Option, Some, None, subst}
use Rattle.std.specs.Prelude.{find, option_map}
use Rattle.std.specs.List.{AllByRecursion}
use Rattle.std.specs.Str.{bytes_eq}
use Rattle.asm80_types.specs.Tree.{Named, Operand, Whole}
use Rattle.zilog80.specs.Operands.{Spelt, Name, AtName, Literal, Value, AtValue, Class, Is, At, Register, Memory, Source, Pair, StackPair, Indirect, Bare, Any, Cell, Zero, Names, registers, memory, pairs, stack_pairs, indirects, renamed, nothing_if, of_name, of_name_at, operands}
use Rattle.zilog80.specs.Read.{value_in}

pub data Gives (a : Spelt) : List Operand → Type 0 where
  nothing : Gives a []
  named : {n : List ℕ} → Gives a (Whole (Named n) ∷ [])
  its_value : Gives a (value_in a)

some_is : (x y : List Operand) → ◌≡◌ {A = Option (List Operand)} (Some x) (Some y) → x ≡ y
some_is x y e = cc

by_renaming : (a : Spelt) (o : Option (List ℕ × List ℕ)) (args : List Operand) → option_map (λ (x : List ℕ × List ℕ). Whole (Named x.1) ∷ []) o ≡ Some args → Gives a args
by_renaming a None args e = absurd cc
by_renaming a (Some x) args e = subst (Gives a) (some_is (Whole (Named x.1) ∷ []) args e) named

by_name : (a : Spelt) (names : Names) (n : List ℕ) (args : List Operand) → renamed names n ≡ Some args → Gives a args
by_name a names n args e = by_renaming a (find (λ (x : List ℕ × List ℕ). bytes_eq x.0 n) names) args e

by_test : (a : Spelt) (b : Bool) (args : List Operand) → nothing_if b ≡ Some args → Gives a args
by_test a true args e = subst (Gives a) (some_is [] args e) nothing
by_test a false args e = absurd cc

by_value : (a : Spelt) (args : List Operand) → ◌≡◌ {A = Option (List Operand)} (Some (value_in a)) (Some args) → Gives a args
by_value a args e = subst (Gives a) (some_is (value_in a) args e) its_value

of_named : (c : Class) (n : List ℕ) (args : List Operand) → of_name c n ≡ Some args → Gives (Name n) args
of_named (Is name) n args e = by_test (Name n) (bytes_eq name n) args e
of_named Register n args e = by_name (Name n) registers n args e
of_named Source n args e = by_name (Name n) registers n args e
of_named Pair n args e = by_name (Name n) pairs n args e
of_named StackPair n args e = by_name (Name n) stack_pairs n args e
of_named c n args e = absurd cc

of_named_at : (c : Class) (n : List ℕ) (args : List Operand) → of_name_at c n ≡ Some args → Gives (AtName n) args
of_named_at (At name) n args e = by_test (AtName n) (bytes_eq name n) args e
of_named_at Memory n args e = by_name (AtName n) memory n args e
of_named_at Source n args e = by_name (AtName n) memory n args e
of_named_at Indirect n args e = by_name (AtName n) indirects n args e
of_named_at c n args e = absurd cc

of_literal : (c : Class) (n : ℕ) (args : List Operand) → operands c (Literal n) ≡ Some args → Gives (Literal n) args
of_literal Zero zero args e = by_value (Literal 0) args e
of_literal Bare n args e = by_value (Literal n) args e
of_literal Any n args e = by_value (Literal n) args e
of_literal c n args e = absurd cc

pub gives : (c : Class) (a : Spelt) (args : List Operand) → operands c a ≡ Some args → Gives a args
gives c (Name n) args e = of_named c n args e
gives c (AtName n) args e = of_named_at c n args e
gives c (Literal n) args e = of_literal c n args e
gives Bare (Value x) args e = by_value (Value x) args e
gives Any (Value x) args e = by_value (Value x) args e
gives Any (AtValue x) args e = by_value (AtValue x) args e
gives Cell (AtValue x) args e = by_value (AtValue x) args e
gives c a args e = absurd cc

-- what holds of each name and of the operand's value holds of all that it gives
pub each_given : (P : Operand → Type 0) (c : Class) (a : Spelt) (args : List Operand) → ((n : List ℕ) → P (Whole (Named n))) → AllByRecursion P (value_in a) → operands c a ≡ Some args → AllByRecursion P args
each_given P c a args names values e = go args (gives c a args e)
  where
    go : (xs : List Operand) → Gives a xs → AllByRecursion P xs
    go _ nothing = tt
    go _ (named {n = n}) = (names n, tt)
    go _ its_value = values
