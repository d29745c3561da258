-- Items: each gives a statement, or none is one.
use Rattle.std.proofs.Common.{◌≡◌, ℕ, zero, suc, ◌<◌, List, [], ◌∷◌, get_or, length, true, false, eqb, Option, Some, None, option_map, option_and_then, Err, refl, arith, inl, inr}
use Rattle.std.specs.List.{list_all}
use Rattle.std.proofs.lemmas.Bool.{eqb-true}
use Rattle.std.specs.Option.{is_some}
use Rattle.asm86_line_types.specs.declared.line.Stmt86.{Stmt86}
use Rattle.asm86_line_types.specs.declared.line.TextRule.{TextRule}
use Rattle.asm86_line_reader.specs.declared.token.Operand.{Operand}
use Rattle.asm86_line_reader.specs.declared.token.Operation.{Operation}
use Rattle.asm86_line_reader.specs.declared.token.Operation.TheVariants.{Db, Dw}
use Rattle.asm86_line_reader.specs.Forms.{items_of, formed, single}
use Rattle.asm86_line_reader.specs.Operands.{each}
use Rattle.asm86_line_reader.specs.Results.{checked, all_checked}
use Rattle.asm86_line_reader.proofs.Each.{both, both_no}
use Rattle.asm86_line_reader.proofs.Checked.{head_fails, tail_fails}
use Rattle.std.proofs.lemmas.Bool.{and_parts, cases_Bool}

no_some : {X : Type 0} (a : Option X) → is_some a ≡ false → a ≡ None
no_some None e = refl
no_some (Some x) e = absurd cc

both_some : {X : Type 0} (a : Option X) (b : Option (List X)) → is_some a ≡ true → is_some b ≡ true → is_some (both a b) ≡ true
both_some None b e f = absurd cc
both_some (Some x) None e f = absurd cc
both_some (Some x) (Some xs) e f = refl

pub not_given : {X Y : Type 0} (f : X → Option Y) (xs : List X) → list_all (λ x. is_some (f x)) xs ≡ false → each f xs ≡ None
unfolding each
not_given f [] e = absurd cc
not_given f (x ∷ xs) e = elim (cases_Bool (is_some (f x))) [
  | inl h ↦ rw (not_given f xs (rw h at e)) (both_no (f x))
  | inr h ↦ rw (no_some (f x) h) refl
]

given : {X Y : Type 0} (f : X → Option Y) (xs : List X) → list_all (λ x. is_some (f x)) xs ≡ true → is_some (each f xs) ≡ true
unfolding each
given f [] e = refl
given f (x ∷ xs) e = both_some (f x) (each f xs) (and_parts _ _ e).0 (given f xs (and_parts _ _ e).1)

pub fails_with : {X : Type 0} (f : X → Option Stmt86) (xs : List X) (i : ℕ) (d : X) (rule : TextRule) → list_all (λ x. is_some (f x)) xs ≡ true → i < length xs → Err rule ≡ checked (f (get_or xs i d)) → Err rule ≡ all_checked (each f xs)
unfolding each
fails_with f [] i d rule e lt h = absurd (omega arith)
fails_with f (x ∷ xs) zero d rule e lt h = head_fails (f x) (each f xs) rule (and_parts _ _ e).0 (given f xs (and_parts _ _ e).1) h
fails_with f (x ∷ xs) (suc i) d rule e lt h = tail_fails (f x) (each f xs) rule (and_parts _ _ e).0 (fails_with f xs i d rule (and_parts _ _ e).1 (omega arith) h)

pub items_are : (f : Operand → Option Stmt86) (os : List Operand) → eqb (length os) 0 ≡ false → items_of f os ≡ each f os
items_are f [] ne = absurd cc
items_are f (o ∷ os) ne = refl

pub no_items : (f : Operand → Option Stmt86) (os : List Operand) → eqb (length os) 0 ≡ true → items_of f os ≡ None
no_items f [] e = refl
no_items f (o ∷ os) e = absurd (omega (arith, eqb-true _ _ e))

-- an operation that is none of DB and DW makes one statement
formed_one : (o : Operation) (os : List Operand) → (o ≡ Db → ⊥) → (o ≡ Dw → ⊥) → formed o os ≡ option_map (λ s. s ∷ []) (single o os)
formed_one Db os a b = absurd (a refl)
formed_one Dw os a b = absurd (b refl)
formed_one _ os a b = refl

pub formed_of_one : (o : Operation) (os : Option (List Operand)) → (o ≡ Db → ⊥) → (o ≡ Dw → ⊥) → option_and_then (formed o) os ≡ option_map (λ s. s ∷ []) (option_and_then (single o) os)
formed_of_one o None a b = refl
formed_of_one o (Some os) a b = formed_one o os a b
