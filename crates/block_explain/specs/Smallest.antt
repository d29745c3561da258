-- Of two terms that differ the smallest pair that differs: as long as both are of one operation, with the same numbers, places and
-- parts in it, and exactly one pair of their operands is not one term, that pair is taken.
use Rattle.std.specs.Prelude.{◌≡◌, ◌==◌, not, Bool, cond, List, [], ◌∷◌, filter, Option, Some, None}
use Rattle.sym_terms.specs.Numbers.{part_number, op_number}
use Rattle.sym_terms.specs.Term.{Term, Alu, Flag, Sum16, High, Low, Join, FlagByte, Bit, Turn, Turned, Adjust, same_term}

-- a term of the 8080, and one of the 8086
pub record TermPair : Type 0 where
  pub ours : Term
  pub theirs : Term

abbrev pub pair : Term → Term → TermPair
pair s t = record { ours = s; theirs = t }

-- the pairs of operands of two terms of one operation, in their order; none of other terms
abbrev pub operand_pairs : Term → Term → List TermPair
operand_pairs (Alu op a b c) (Alu op' a' b' c') = cond (op_number op == op_number op') (pair a a' ∷ (pair b b' ∷ (pair c c' ∷ []))) []
operand_pairs (Flag part r) (Flag part' r') = cond (part_number part == part_number part') (pair r r' ∷ []) []
operand_pairs (Sum16 a b) (Sum16 a' b') = pair a a' ∷ (pair b b' ∷ [])
operand_pairs (High w) (High w') = pair w w' ∷ []
operand_pairs (Low w) (Low w') = pair w w' ∷ []
operand_pairs (Join h l) (Join h' l') = pair h h' ∷ (pair l l' ∷ [])
operand_pairs (FlagByte s z ac p cy) (FlagByte s' z' ac' p' cy') = pair s s' ∷ (pair z z' ∷ (pair ac ac' ∷ (pair p p' ∷ (pair cy cy' ∷ []))))
operand_pairs (Bit b part) (Bit b' part') = cond (part_number part == part_number part') (pair b b' ∷ []) []
operand_pairs (Turn kind a c) (Turn kind' a' c') = cond (kind == kind') (pair a a' ∷ (pair c c' ∷ [])) []
operand_pairs (Turned c) (Turned c') = pair c c' ∷ []
operand_pairs (Adjust a ac cy) (Adjust a' ac' cy') = pair a a' ∷ (pair ac ac' ∷ (pair cy cy' ∷ []))
operand_pairs s t = []

-- the one element of a list
abbrev pub only_one : List TermPair → Option TermPair
only_one (p ∷ []) = Some p
only_one ps = None

abbrev pub is_not_one : TermPair → Bool
is_not_one p = not (same_term p.ours p.theirs)

-- the pair of operands that alone is not one term
abbrev pub only_difference : TermPair → Option TermPair
only_difference p = only_one (filter is_not_one (operand_pairs p.ours p.theirs))

pub data Smallest : TermPair → TermPair → Type 0 where
  here : {p : TermPair} → only_difference p ≡ None → Smallest p p
  deeper : {p q r : TermPair} → only_difference p ≡ Some q → Smallest q r → Smallest p r

-- ---- a law

-- of two terms one pair is the smallest
abbrev pub OneSmallest : Type 0
OneSmallest = (p q r : TermPair) → Smallest p q → Smallest p r → q ≡ r
