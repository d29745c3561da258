-- Tokens that are cut at their first comma, and the operands of one or two parts.
use Rattle.std.proofs.Common.{◌≡◌, ℕ, suc, ◌+◌, ◌-◌, ◌<◌, ◌≤◌, List, [], ◌∷◌, ◌++◌, true, false, not, eqb, length, get_or, take, drop, Option, Some, None, Bor, MatchOption, is_some, option_and_then, Err, refl, ap, ap₂, sym, ◌∙◌, inl, inr, arith}
use Rattle.std.specs.List.{prefix_len, slice_split, onto_first}
use Rattle.std.proofs.lemmas.Bool.{cases_Bool, eqb-true}
use Rattle.std.proofs.lemmas.List.{take_all, take-append-drop}
use Rattle.std.proofs.lemmas.List.Splits.{length-slice_split}
use Rattle.asm86_line_types.specs.declared.line.TextRule.{TextRule}
use Rattle.asm86_line_types.specs.declared.line.TextRule.TheVariants.{M2}
use Rattle.asm86_line_reader.specs.declared.token.Token.{Token}
use Rattle.asm86_line_reader.specs.declared.token.Operation.{Operation}
use Rattle.asm86_line_reader.specs.declared.token.Operand.{Operand}
use Rattle.asm86_line_reader.specs.Operands.{each, is_comma, operand_in, operands_in}
use Rattle.asm86_line_reader.specs.Forms.{single}
use Rattle.asm86_line_reader.specs.Results.{checked}
use Rattle.asm86_line_reader.proofs.Each.{both}

abbrev pub part_len : List Token → ℕ
part_len ts = prefix_len (λ t. not (is_comma t)) ts

-- the parts after the first one, from the comma on
abbrev parts_from : List Token → List (List Token)
parts_from [] = []
parts_from (t ∷ ts) = slice_split is_comma ts

at_comma : (t : Token) (ts : List Token) → is_comma t ≡ true → slice_split is_comma (t ∷ ts) ≡ take (part_len (t ∷ ts)) (t ∷ ts) ∷ parts_from (drop (part_len (t ∷ ts)) (t ∷ ts))
at_comma t ts e = rw e refl

further : (t : Token) (ts : List Token) → is_comma t ≡ false → part_len (t ∷ ts) ≡ suc (part_len ts)
further t ts e = let one : 1 + part_len ts ≡ suc (part_len ts) = omega arith in rw (e, one) refl

before_comma : (t : Token) (ts : List Token) → is_comma t ≡ false → slice_split is_comma (t ∷ ts) ≡ onto_first t (slice_split is_comma ts)
before_comma t ts e = rw e refl

cut_at : (ts : List Token) → slice_split is_comma ts ≡ take (part_len ts) ts ∷ parts_from (drop (part_len ts) ts)
cut_at [] = refl
cut_at (t ∷ ts) = elim (cases_Bool (is_comma t)) [
  | inl e ↦ at_comma t ts e
  | inr e ↦ before_comma t ts e ∙ ap (onto_first t) (cut_at ts) ∙ sym (ap (λ n. take n (t ∷ ts) ∷ parts_from (drop n (t ∷ ts))) (further t ts e))
]

cut_is : (ts part rest : List Token) (n : ℕ) → n ≡ part_len ts → part ≡ take n ts → rest ≡ drop n ts → slice_split is_comma ts ≡ part ∷ parts_from rest
cut_is ts part rest n is front back = cut_at ts ∙ ap₂ (λ xs ys. xs ∷ parts_from ys) (ap (λ k. take k ts) (sym is) ∙ sym front) (ap (λ k. drop k ts) (sym is) ∙ sym back)

pub cut_some : (ts part rest : List Token) (n : ℕ) (t : Token) (after : List Token) → n ≡ part_len ts → part ≡ take n ts → rest ≡ drop n ts → rest ≡ t ∷ after → slice_split is_comma ts ≡ part ∷ slice_split is_comma after
cut_some ts part rest n t after is front back e = cut_is ts part rest n is front back ∙ ap (λ xs. part ∷ parts_from xs) e

pub cut_none : (ts part rest : List Token) (n : ℕ) → n ≡ part_len ts → part ≡ take n ts → rest ≡ drop n ts → rest ≡ [] → slice_split is_comma ts ≡ ts ∷ []
cut_none ts part rest n is front back e =
    let whole : take n ts ++ drop n ts ≡ take n ts = ap (λ xs. take n ts ++ xs) (sym back ∙ e) ∙ no_more (take n ts) in
    cut_is ts part rest n is front back ∙ ap (λ xs. part ∷ parts_from xs) e ∙ ap (λ xs. xs ∷ []) (front ∙ sym whole ∙ take-append-drop n ts)
  where
    no_more : (xs : List Token) → xs ++ [] ≡ xs
    no_more [] = refl
    no_more (x ∷ xs) = ap (λ ys. x ∷ ys) (no_more xs)

-- ---- operands

pub in_none : (ts : List Token) → eqb (length ts) 0 ≡ true → operands_in ts ≡ Some []
in_none [] e = refl
in_none (t ∷ ts) e = absurd (omega (arith, eqb-true _ _ e))

in_parts : (ts : List Token) → eqb (length ts) 0 ≡ false → operands_in ts ≡ each operand_in (slice_split is_comma ts)
in_parts [] e = absurd cc
in_parts (t ∷ ts) e = refl

-- one part, two, and more
first_fails : (ts p : List Token) (parts : List (List Token)) → eqb (length ts) 0 ≡ false → slice_split is_comma ts ≡ p ∷ parts → operand_in p ≡ None → operands_in ts ≡ None
unfolding each
first_fails ts p parts some e none = in_parts ts some ∙ ap (each operand_in) e ∙ rw none refl

pub one_fails : (ts : List Token) → eqb (length ts) 0 ≡ false → slice_split is_comma ts ≡ ts ∷ [] → operand_in ts ≡ None → operands_in ts ≡ None
one_fails ts some e none = first_fails ts ts [] some e none

pub one_taken : (ts : List Token) (a : Operand) → eqb (length ts) 0 ≡ false → slice_split is_comma ts ≡ ts ∷ [] → operand_in ts ≡ Some a → operands_in ts ≡ Some (a ∷ [])
unfolding each
one_taken ts a some e is = in_parts ts some ∙ ap (each operand_in) e ∙ rw is refl

pub first_of_two_fails : (ts p r : List Token) → eqb (length ts) 0 ≡ false → slice_split is_comma ts ≡ p ∷ slice_split is_comma r → operand_in p ≡ None → operands_in ts ≡ None
first_of_two_fails ts p r some e none = first_fails ts p (slice_split is_comma r) some e none

in_two : (ts p r : List Token) → eqb (length ts) 0 ≡ false → slice_split is_comma ts ≡ p ∷ slice_split is_comma r → slice_split is_comma r ≡ r ∷ [] → operands_in ts ≡ each operand_in (p ∷ (r ∷ []))
in_two ts p r some e last = in_parts ts some ∙ ap (each operand_in) (e ∙ ap (λ parts. p ∷ parts) last)

pub second_fails : (ts p r : List Token) (a : Operand) → eqb (length ts) 0 ≡ false → slice_split is_comma ts ≡ p ∷ slice_split is_comma r → slice_split is_comma r ≡ r ∷ [] → operand_in p ≡ Some a → operand_in r ≡ None → operands_in ts ≡ None
unfolding each
second_fails ts p r a some e last is none = in_two ts p r some e last ∙ rw (is, none) refl

pub two_taken : (ts p r : List Token) (a b : Operand) → eqb (length ts) 0 ≡ false → slice_split is_comma ts ≡ p ∷ slice_split is_comma r → slice_split is_comma r ≡ r ∷ [] → operand_in p ≡ Some a → operand_in r ≡ Some b → operands_in ts ≡ Some (a ∷ (b ∷ []))
unfolding each
two_taken ts p r a b some e last first second = in_two ts p r some e last ∙ rw (first, second) refl

three : (o : Operation) (a b c : Option Operand) (os : Option (List Operand)) → option_and_then (single o) (both a (both b (both c os))) ≡ None
three o None b c os = refl
three o (Some a) None c os = refl
three o (Some a) (Some b) None os = refl
three o (Some a) (Some b) (Some c) None = refl
three o (Some a) (Some b) (Some c) (Some os) = refl

many : (o : Operation) (p q : List Token) (parts : List (List Token)) → 0 < length parts → option_and_then (single o) (each operand_in (p ∷ (q ∷ parts))) ≡ None
unfolding each
many o p q [] lt = absurd (omega arith)
many o p q (r ∷ parts) lt = three o (operand_in p) (operand_in q) (operand_in r) (each operand_in parts)

pub too_many : (o : Operation) (ts p r q after : List Token) → eqb (length ts) 0 ≡ false → slice_split is_comma ts ≡ p ∷ slice_split is_comma r → slice_split is_comma r ≡ q ∷ slice_split is_comma after → option_and_then (single o) (operands_in ts) ≡ None
too_many o ts p r q after some e more =
    let last : 0 < length (slice_split is_comma after) = omega (arith, length-slice_split is_comma after) in
    ap (option_and_then (single o)) (in_parts ts some ∙ ap (each operand_in) (e ∙ ap (λ parts. p ∷ parts) more)) ∙ many o p q (slice_split is_comma after) last

pub fails_with_m2 : (o : Operation) (ts : List Token) (rule : TextRule) → operands_in ts ≡ None → rule ≡ M2 → Err rule ≡ checked (option_and_then (single o) (operands_in ts))
fails_with_m2 o ts rule none is = ap Err is ∙ ap (λ os. checked (option_and_then (single o) os)) (sym none)

pub of_operands : (o : Operation) (ts : List Token) (os : List Operand) → operands_in ts ≡ Some os → checked (single o os) ≡ checked (option_and_then (single o) (operands_in ts))
of_operands o ts os e = ap (λ os. checked (option_and_then (single o) os)) (sym e)

-- what a second cut tells
pub more_than_two : (o : Operation) (ts p r : List Token) (found : Option (Bor (List Token) × Bor (List Token))) → eqb (length ts) 0 ≡ false → slice_split is_comma ts ≡ p ∷ slice_split is_comma r
    → MatchOption found (slice_split is_comma r ≡ r ∷ []) (λ x. slice_split is_comma r ≡ x.0.now ∷ slice_split is_comma x.1.now) → is_some found ≡ true → Err M2 ≡ checked (option_and_then (single o) (operands_in ts))
more_than_two o ts p r None some e m is = absurd cc
more_than_two o ts p r (Some x) some e m is = ap checked (sym (too_many o ts p r x.0.now x.1.now some e m))

pub just_two : (r : List Token) (found : Option (Bor (List Token) × Bor (List Token))) → MatchOption found (slice_split is_comma r ≡ r ∷ []) (λ x. slice_split is_comma r ≡ x.0.now ∷ slice_split is_comma x.1.now) → is_some found ≡ false → slice_split is_comma r ≡ r ∷ []
just_two r None m is = m
just_two r (Some x) m is = absurd cc

-- a slice by its first element and the others
pub front_of : {A : Type 0} (xs : List A) (d : A) → 1 ≤ length xs → xs ≡ get_or xs 0 d ∷ take (length xs - 1) (drop 1 xs)
front_of [] d h = absurd (omega (arith, h))
front_of (x ∷ xs) d h = ap (λ k. x ∷ k) (sym (take_all (length (x ∷ xs) - 1) xs (omega arith)))

pub empty : {A : Type 0} (xs : List A) → length xs < 1 → xs ≡ []
empty [] h = refl
empty (x ∷ xs) h = absurd (omega (arith, h))
