-- The test of two terms is true exactly where they are equal.
use Rattle.std.proofs.Common.{◌≡◌, ◌==◌, ◌&&◌, Bool, true, false, refl, sym, ap, ◌∙◌}
use Rattle.std.proofs.lemmas.Bool.{and_from, and_parts, eqb-true, eq-eqb, false≢true}
use Rattle.cells.specs.declared.Part.{Part}
use Rattle.cells.specs.Places.{same_place}
use Rattle.cells.proofs.SamePlace.{same_place_is, same_place_refl}
use Rattle.i80.specs.declared.Op.{Op}
use Rattle.sym_terms.specs.Term.{Term, Num, Start, StartSp, Loaded8, Loaded16, Alu, Flag, Sum16, High, Low, Join, FlagByte, Bit, Turn, Turned, Adjust, Code, Unknown, same_bool, same_term}
use Rattle.sym_terms.specs.Numbers.{part_number, part_numbered, op_number, op_numbered}
use Rattle.sym_terms.proofs.Codes.{part_of-part_number, op_of-op_number}

same_part : (q q' : Part) → (part_number q == part_number q') ≡ true → q ≡ q'
same_part q q' h = sym (part_of-part_number q) ∙ ap part_numbered (eqb-true (part_number q) (part_number q') h) ∙ part_of-part_number q'

same_op : (q q' : Op) → (op_number q == op_number q') ≡ true → q ≡ q'
same_op q q' h = sym (op_of-op_number q) ∙ ap op_numbered (eqb-true (op_number q) (op_number q') h) ∙ op_of-op_number q'

same_bool-true : (b b' : Bool) → same_bool b b' ≡ true → b ≡ b'
same_bool-true true true h = refl
same_bool-true false false h = refl
same_bool-true b b' h = absurd (false≢true h)

pub same_term-true : (s t : Term) → same_term s t ≡ true → s ≡ t
same_term-true (Num n) (Num n') h = ap Num (eqb-true n n' h)
same_term-true (Start q) (Start q') h = ap Start (same_part q q' h)
same_term-true StartSp StartSp h = refl
same_term-true (Loaded8 k) (Loaded8 k') h = ap Loaded8 (eqb-true k k' h)
same_term-true (Loaded16 k) (Loaded16 k') h = ap Loaded16 (eqb-true k k' h)
same_term-true (Alu op a b c) (Alu op' a' b' c') h =
    let first = and_parts (op_number op == op_number op') (same_term a a' && (same_term b b' && same_term c c')) h in
    let rest = and_parts (same_term a a') (same_term b b' && same_term c c') first.1 in
    let last = and_parts (same_term b b') (same_term c c') rest.1 in
    λ i. Alu (same_op op op' first.0 i) (same_term-true a a' rest.0 i) (same_term-true b b' last.0 i) (same_term-true c c' last.1 i)
same_term-true (Flag q r) (Flag q' r') h =
    let both = and_parts (part_number q == part_number q') (same_term r r') h in
    λ i. Flag (same_part q q' both.0 i) (same_term-true r r' both.1 i)
same_term-true (Sum16 a b) (Sum16 a' b') h =
    let both = and_parts (same_term a a') (same_term b b') h in
    λ i. Sum16 (same_term-true a a' both.0 i) (same_term-true b b' both.1 i)
same_term-true (High w) (High w') h = ap High (same_term-true w w' h)
same_term-true (Low w) (Low w') h = ap Low (same_term-true w w' h)
same_term-true (Join g l) (Join g' l') h =
    let both = and_parts (same_term g g') (same_term l l') h in
    λ i. Join (same_term-true g g' both.0 i) (same_term-true l l' both.1 i)
same_term-true (FlagByte s z ac p cy) (FlagByte s' z' ac' p' cy') h =
    let h1 = and_parts (same_term s s') (same_term z z' && (same_term ac ac' && (same_term p p' && same_term cy cy'))) h in
    let h2 = and_parts (same_term z z') (same_term ac ac' && (same_term p p' && same_term cy cy')) h1.1 in
    let h3 = and_parts (same_term ac ac') (same_term p p' && same_term cy cy') h2.1 in
    let h4 = and_parts (same_term p p') (same_term cy cy') h3.1 in
    λ i. FlagByte (same_term-true s s' h1.0 i) (same_term-true z z' h2.0 i) (same_term-true ac ac' h3.0 i) (same_term-true p p' h4.0 i) (same_term-true cy cy' h4.1 i)
same_term-true (Bit b q) (Bit b' q') h =
    let both = and_parts (part_number q == part_number q') (same_term b b') h in
    λ i. Bit (same_term-true b b' both.1 i) (same_part q q' both.0 i)
same_term-true (Turn kind a c) (Turn kind' a' c') h =
    let first = and_parts (kind == kind') (same_term a a' && same_term c c') h in
    let rest = and_parts (same_term a a') (same_term c c') first.1 in
    λ i. Turn (eqb-true kind kind' first.0 i) (same_term-true a a' rest.0 i) (same_term-true c c' rest.1 i)
same_term-true (Turned c) (Turned c') h = ap Turned (same_term-true c c' h)
same_term-true (Adjust a ac cy) (Adjust a' ac' cy') h =
    let first = and_parts (same_term a a') (same_term ac ac' && same_term cy cy') h in
    let rest = and_parts (same_term ac ac') (same_term cy cy') first.1 in
    λ i. Adjust (same_term-true a a' first.0 i) (same_term-true ac ac' rest.0 i) (same_term-true cy cy' rest.1 i)
same_term-true (Code q high) (Code q' high') h =
    let both = and_parts (same_place q q') (same_bool high high') h in
    λ i. Code (same_place_is q q' both.0 i) (same_bool-true high high' both.1 i)
same_term-true Unknown Unknown h = refl
same_term-true s t h = absurd (false≢true h)

same_bool_refl : (b : Bool) → same_bool b b ≡ true
same_bool_refl true = refl
same_bool_refl false = refl

pub same_term_refl : (t : Term) → same_term t t ≡ true
same_term_refl (Num n) = eq-eqb n n refl
same_term_refl (Start q) = eq-eqb (part_number q) (part_number q) refl
same_term_refl StartSp = refl
same_term_refl (Loaded8 k) = eq-eqb k k refl
same_term_refl (Loaded16 k) = eq-eqb k k refl
same_term_refl (Alu op a b c) = and_from _ _ (eq-eqb (op_number op) (op_number op) refl) (and_from _ _ (same_term_refl a) (and_from _ _ (same_term_refl b) (same_term_refl c)))
same_term_refl (Flag q r) = and_from _ _ (eq-eqb (part_number q) (part_number q) refl) (same_term_refl r)
same_term_refl (Sum16 a b) = and_from _ _ (same_term_refl a) (same_term_refl b)
same_term_refl (High w) = same_term_refl w
same_term_refl (Low w) = same_term_refl w
same_term_refl (Join h l) = and_from _ _ (same_term_refl h) (same_term_refl l)
same_term_refl (FlagByte s z ac p cy) = and_from _ _ (same_term_refl s) (and_from _ _ (same_term_refl z) (and_from _ _ (same_term_refl ac) (and_from _ _ (same_term_refl p) (same_term_refl cy))))
same_term_refl (Bit b q) = and_from _ _ (eq-eqb (part_number q) (part_number q) refl) (same_term_refl b)
same_term_refl (Turn kind a c) = and_from _ _ (eq-eqb kind kind refl) (and_from _ _ (same_term_refl a) (same_term_refl c))
same_term_refl (Turned c) = same_term_refl c
same_term_refl (Adjust a ac cy) = and_from _ _ (same_term_refl a) (and_from _ _ (same_term_refl ac) (same_term_refl cy))
same_term_refl (Code q high) = and_from _ _ (same_place_refl q) (same_bool_refl high)
same_term_refl Unknown = refl
