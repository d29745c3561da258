-- The pair of operands that differs is smaller than the pair that it stands in.
use Rattle.std.proofs.Common.{◌≡◌, ◌<◌, ℕ, ◌==◌, Bool, true, false, cond, List, [], ◌∷◌, filter, Some, arith}
use Rattle.sym_terms.specs.Numbers.{part_number, op_number}
use Rattle.sym_terms.specs.Term.{Term, Alu, Flag, Sum16, High, Low, Join, FlagByte, Bit, Turn, Turned, Adjust}
use Rattle.sym_terms.proofs.Size.{size}
use Rattle.block_explain.specs.Smallest.{TermPair, operand_pairs, only_one, is_not_one, only_difference}

abbrev AreSmaller : ℕ → List TermPair → Type 0
AreSmaller n [] = Unit {0}
AreSmaller n (p ∷ ps) = (size p.ours < n) × AreSmaller n ps

where_so : (n : ℕ) (b : Bool) (ps : List TermPair) → AreSmaller n ps → AreSmaller n (cond b ps [])
where_so n true ps h = h
where_so n false ps h = tt

operands_smaller : (s t : Term) → AreSmaller (size s) (operand_pairs s t)
operands_smaller (Alu op a b c) (Alu op' a' b' c') = where_so _ (op_number op == op_number op') _ (omega arith, (omega arith, (omega arith, tt)))
operands_smaller (Flag part r) (Flag part' r') = where_so _ (part_number part == part_number part') _ (omega arith, tt)
operands_smaller (Sum16 a b) (Sum16 a' b') = (omega arith, (omega arith, tt))
operands_smaller (High w) (High w') = (omega arith, tt)
operands_smaller (Low w) (Low w') = (omega arith, tt)
operands_smaller (Join h l) (Join h' l') = (omega arith, (omega arith, tt))
operands_smaller (FlagByte s z ac p cy) (FlagByte s' z' ac' p' cy') = (omega arith, (omega arith, (omega arith, (omega arith, (omega arith, tt)))))
operands_smaller (Bit b part) (Bit b' part') = where_so _ (part_number part == part_number part') _ (omega arith, tt)
operands_smaller (Turn kind a c) (Turn kind' a' c') = where_so _ (kind == kind') _ (omega arith, (omega arith, tt))
operands_smaller (Turned c) (Turned c') = (omega arith, tt)
operands_smaller (Adjust a ac cy) (Adjust a' ac' cy') = (omega arith, (omega arith, (omega arith, tt)))
operands_smaller s t = tt

kept_if : (n : ℕ) (b : Bool) (p : TermPair) (ps : List TermPair) → size p.ours < n → AreSmaller n ps → AreSmaller n (cond b (p ∷ ps) ps)
kept_if n true p ps h hs = (h, hs)
kept_if n false p ps h hs = hs

filtered : (n : ℕ) (ps : List TermPair) → AreSmaller n ps → AreSmaller n (filter is_not_one ps)
filtered n [] h = tt
filtered n (p ∷ ps) h = kept_if n (is_not_one p) p (filter is_not_one ps) h.0 (filtered n ps h.1)

one_smaller : (n : ℕ) (ps : List TermPair) (q : TermPair) → AreSmaller n ps → only_one ps ≡ Some q → size q.ours < n
one_smaller n [] q h e = absurd (cc)
one_smaller n (p ∷ []) q h e = let same : p ≡ q = cc in rw (← same) h.0
one_smaller n (p ∷ (r ∷ ps)) q h e = absurd (cc)

pub difference_smaller : (p q : TermPair) → only_difference p ≡ Some q → size q.ours < size p.ours
difference_smaller p q e = one_smaller (size p.ours) _ q (filtered (size p.ours) _ (operands_smaller p.ours p.theirs)) e
