-- Operands with their kinds, one more at the front.
use Rattle.std.proofs.Common.{◌≡◌, ℕ, Option, None, Some, ◌||◌, ◌&&◌, Bool, true, false, eqb, List, [], ◌∷◌, length, map, zip, refl, sym, ap, ◌∙◌}
use Rattle.std.specs.List.{list_any}
use Rattle.std.proofs.lemmas.Bool.{ne_eqb}
use Rattle.asm80_types.specs.declared.arg.Arg.{Arg}
use Rattle.asm80_types.specs.Tree.{Operand, operand_of}
use Rattle.asm80_source_def.specs.declared.operation.Kind.{Kind}
use Rattle.asm80_source_def.specs.declared.operation.Kind.TheVariants.{Register, Pair as PairKind, Indirect, Stack, Byte, Word, Address, Target, Restart}
use Rattle.asm80_source_def.specs.Values.{Scope, operand_number}
use Rattle.asm80_source_def.specs.Items.{Setting}
use Rattle.asm80_source_def.specs.Layout.{misses, computes, loads_code}
use Rattle.asm80_source_def.specs.Operands.{is_of_kind, are_of_kinds, is_value_kind, values_break, number_is_unfit, is_unfit}

module _ (kinds : List Kind) (args : List Arg) (k : Kind) (ks : List Kind) (a : Arg) (others : List Arg) (of_kinds : kinds ≡ k ∷ ks) (of_args : args ≡ a ∷ others) where
  whole : {X : Type 0} (f : List Kind → List Operand → X) → f (k ∷ ks) (operand_of a ∷ map operand_of others) ≡ f kinds (map operand_of args)
  whole f = ap (λ qs. f qs (map operand_of (a ∷ others))) (sym of_kinds) ∙ ap (λ (xs : List Arg). f kinds (map operand_of xs)) (sym of_args)

  pub kinds_more : true ≡ is_of_kind k (operand_of a) → true ≡ are_of_kinds ks (map operand_of others) → true ≡ are_of_kinds kinds (map operand_of args)
  kinds_more mine rest = rest ∙ ap (λ (b : Bool). b && are_of_kinds ks (map operand_of others)) mine ∙ whole are_of_kinds

  pub kind_fails : false ≡ is_of_kind k (operand_of a) → false ≡ are_of_kinds kinds (map operand_of args)
  kind_fails mine = ap (λ (b : Bool). b && are_of_kinds ks (map operand_of others)) mine ∙ whole are_of_kinds

  pub later_fail : true ≡ is_of_kind k (operand_of a) → false ≡ are_of_kinds ks (map operand_of others) → false ≡ are_of_kinds kinds (map operand_of args)
  later_fail mine rest = rest ∙ ap (λ (b : Bool). b && are_of_kinds ks (map operand_of others)) mine ∙ whole are_of_kinds

  pub any_more :
      (test : Kind × Operand → Bool) (x mine rest : Bool) → x ≡ (mine || rest) → mine ≡ test (k, operand_of a) → rest ≡ list_any test (zip ks (map operand_of others))
      → x ≡ list_any test (zip kinds (map operand_of args))
  any_more test x mine rest joined own later =
      joined ∙ ap (λ (b : Bool). b || rest) own ∙ ap (λ (b : Bool). test (k, operand_of a) || b) later ∙ whole (λ qs xs. list_any test (zip qs xs))

  pub any_same : (test : Kind × Operand → Bool) (rest : Bool) → test (k, operand_of a) ≡ false → rest ≡ list_any test (zip ks (map operand_of others)) → rest ≡ list_any test (zip kinds (map operand_of args))
  any_same test rest own later = later ∙ ap (λ (b : Bool). b || list_any test (zip ks (map operand_of others))) (sym own) ∙ whole (λ qs xs. list_any test (zip qs xs))

  pub value_more :
      (test : Operand → Bool) (x mine rest : Bool) → true ≡ is_value_kind k → x ≡ (mine || rest) → mine ≡ test (operand_of a) → rest ≡ values_break test (zip ks (map operand_of others))
      → x ≡ values_break test (zip kinds (map operand_of args))
  value_more test x mine rest is joined own later =
      any_more (λ (y : Kind × Operand). is_value_kind y.0 && test y.1) x mine rest joined (own ∙ ap (λ (b : Bool). b && test (operand_of a)) is) later

  pub value_same : (test : Operand → Bool) (rest : Bool) → false ≡ is_value_kind k → rest ≡ values_break test (zip ks (map operand_of others)) → rest ≡ values_break test (zip kinds (map operand_of args))
  value_same test rest is later = any_same (λ (y : Kind × Operand). is_value_kind y.0 && test y.1) rest (ap (λ (b : Bool). b && test (operand_of a)) (sym is)) later

-- no operands are of no kinds, and of no others
pub no_kinds : (kinds : List Kind) (args : List Arg) (b : Bool) → length kinds ≡ 0 → eqb (length args) 0 ≡ b → b ≡ are_of_kinds kinds (map operand_of args)
no_kinds [] [] b none e = sym e
no_kinds [] (a ∷ args) b none e = sym e ∙ ne_eqb (length (a ∷ args)) 0 (λ h. cc)
no_kinds (k ∷ kinds) args b none e = absurd cc

pub no_operands : (kinds : List Kind) (args : List Arg) (k : Kind) (ks : List Kind) → kinds ≡ k ∷ ks → length args ≡ 0 → false ≡ are_of_kinds kinds (map operand_of args)
no_operands kinds [] k ks is none = rw is refl
no_operands kinds (a ∷ args) k ks is none = absurd cc

-- no operand has one of no kinds
pub any_none : (test : Kind × Operand → Bool) (kinds : List Kind) (args : List Arg) → length kinds ≡ 0 → false ≡ list_any test (zip kinds (map operand_of args))
any_none test [] args none = refl
any_none test (k ∷ kinds) args none = absurd cc

-- nor is there one of no operands
pub any_of_none : (test : Kind × Operand → Bool) (kinds : List Kind) (args : List Arg) → length args ≡ 0 → false ≡ list_any test (zip kinds (map operand_of args))
any_of_none test [] [] none = refl
any_of_none test (k ∷ kinds) [] none = refl
any_of_none test kinds (a ∷ args) none = absurd cc

pub item_more :
    (args : List Arg) (a : Arg) (others : List Arg) → args ≡ a ∷ others
    → (test : Operand → Bool) (x mine rest : Bool) → x ≡ (mine || rest) → mine ≡ test (operand_of a) → rest ≡ list_any test (map operand_of others) → x ≡ list_any test (map operand_of args)
item_more args a others of_args test x mine rest joined own later =
    joined ∙ ap (λ (b : Bool). b || rest) own ∙ ap (λ (b : Bool). test (operand_of a) || b) later ∙ ap (λ (xs : List Arg). list_any test (map operand_of xs)) (sym of_args)

-- no operand that is no value breaks a rule of the layout
pub no_stray : (t : Setting) (k : Kind) (a : Operand) → false ≡ is_value_kind k → (misses t (k, a) ≡ false) × (computes t (k, a) ≡ false) × (loads_code t (k, a) ≡ false)
no_stray t Register a is = (refl, refl, refl)
no_stray t PairKind a is = (refl, refl, refl)
no_stray t Indirect a is = (refl, refl, refl)
no_stray t Stack a is = (refl, refl, refl)
no_stray t Byte a is = absurd cc
no_stray t Word a is = absurd cc
no_stray t Address a is = absurd cc
no_stray t Target a is = absurd cc
no_stray t Restart a is = absurd cc

number_fits : (k : Kind) (n : Option ℕ) → false ≡ is_value_kind k → number_is_unfit k n ≡ false
number_fits k None is = refl
number_fits Register (Some n) is = refl
number_fits PairKind (Some n) is = refl
number_fits Indirect (Some n) is = refl
number_fits Stack (Some n) is = refl
number_fits Byte (Some n) is = absurd cc
number_fits Word (Some n) is = absurd cc
number_fits Address (Some n) is = absurd cc
number_fits Target (Some n) is = absurd cc
number_fits Restart (Some n) is = absurd cc

-- nor has one a value that does not fit
pub no_unfit : (s : Scope) (k : Kind) (a : Operand) → false ≡ is_value_kind k → is_unfit s (k, a) ≡ false
no_unfit s k a is = number_fits k (operand_number s a) is
