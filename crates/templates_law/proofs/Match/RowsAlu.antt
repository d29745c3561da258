-- The rows of arithmetic on bytes and flags.
use Rattle.std.proofs.Common.{◌≡◌, ℕ, inl, inr, Bool, true, false, cond, [], ◌∷◌, refl, sym, ap, ◌∙◌, subst}
use Rattle.std.specs.Prelude.{if◌then◌else◌}
use Rattle.cells.specs.declared.Part.{Part}
use Rattle.cells.specs.declared.Part.TheVariants.{A, H, L, S, Z, Ac, P, Cy}
use Rattle.cells.specs.Parts.{has, only, nothing, union, these}
use Rattle.i80.specs.declared.Reg.TheVariants.{A as RegA}
use Rattle.i80.specs.declared.Src.{Src}
use Rattle.i80.specs.declared.Src.TheVariants.{Reg as InReg, Mem}
use Rattle.i80.specs.declared.Op.{Op}
use Rattle.i80.specs.declared.Op.TheVariants.{Add, Adc, Sub, Sbb, Xra, Cmp}
use Rattle.i80.specs.declared.Instr80.TheVariants.{Alu as AluWith, AluI, Inr, Dcr, Daa, Cma, Stc, Cmc, Rlc, Rrc, Ral, Rar}
use Rattle.i80.specs.Columns.{part_of_reg, gives_zero, result_in_a, five_flags, read, parts_written, carry_used}
use Rattle.i86.specs.declared.Count.{Count}
use Rattle.i86.specs.declared.Count.TheVariants.{Inc, Dec}
use Rattle.templates.specs.Template.{reg_of, byte_operand, op86_of as op86}
use Rattle.sym_terms.specs.Term.{Term}
use Rattle.sym_terms.specs.Making.{alu, flag, turn}
use Rattle.sym_block_def.specs.Outcome.{Held}
use Rattle.sym_block_def.specs.Block80.{Symbolic80, with_held, operation, carry_in, a_after, operated, cleared, source, after_source, alu_by, count_by, turn_by}
use Rattle.sym_block_def.specs.Symbolic86.{Symbolic86, with_cf, with_reg8, with_held as with_held86, operand8, after_operand8, operated as operated86, clears_al as gives_zero86, count_op, count8}
use Rattle.templates_law.specs.Match.Meeting.{Meets, lost, Among, Agree}
use Rattle.templates_law.specs.Match.Rows.{unsaved}
use Rattle.templates_law.proofs.Match.Terms.{flags_meet, alus_meet, turns_meet, adjusts_meet, number_meets, meets_agree}
use Rattle.templates_law.proofs.Match.Moves.{Adding, PartsMeet, old, agree_on, agree_none, agree_both, agree_reg, reg_meets, agree_flags, agree_count_flags, agree_cy, agree_load8, agree_store8, next_bytes_meet}
use Rattle.templates_law.proofs.Match.Row.{Given, Agreeing, Row, in_first, in_second, itself, address}

-- an operation on A: its result and flags

carries_in : (op : Op) (c c' : Term) → (Among (carry_used op) Cy → Meets c c') → Meets (carry_in op c) (carry_in op c')
carries_in Adc c c' m = m refl
carries_in Sbb c c' m = m refl
carries_in op c c' m = number_meets 0

a_behind : (op : Op) (a a' r r' : Term) → Meets a a' → Meets r r' → Meets (a_after op a r) (a_after op a' r')
a_behind Cmp a a' r r' m n = m
a_behind op a a' r r' m n = n

-- of CMP A was agreed on before
result_in : (op : Op) (q : Part) → Among (union (result_in_a op) five_flags) q → Among (union (only A) five_flags) q
result_in Cmp A c = refl
result_in Cmp q c = c
result_in op q c = c

for_result : {Kept : Part → Type 0} (op : Op) (s : Symbolic80) (t : Symbolic86) → Agree (Adding Kept (union (only A) five_flags)) s t → Agree (Adding Kept (union (result_in_a op) five_flags)) s t
for_result {Kept} op s t a = agree_on s t into a
  where
    into : (q : Part) → Adding Kept (union (result_in_a op) five_flags) q → Adding Kept (union (only A) five_flags) q
    into q (inl c) = inl c
    into q (inr c) = inr (result_in op q c)

-- the operation in one form for both
operated_by : (op : Op) (t : Symbolic86) (b : Term) → operated86 t (op86 op) b ≡ with_held86 t (operated op b t.held)
operated_by Add t b = refl
operated_by op t b = refl

agree_operated : {Kept : Part → Type 0} (op : Op) (s : Symbolic80) (t : Symbolic86) (b b' : Term) → Meets b b' → Meets s.held.a t.held.a → (Among (carry_used op) Cy → Meets s.held.cy t.held.cy) → Agree Kept s t → Agree (Adding Kept (union (result_in_a op) five_flags)) (with_held s (operated op b s.held)) (operated86 t (op86 op) b')
agree_operated {Kept} op s t b b' mb ma mc a =
    subst (λ z. Agree (Adding Kept (union (result_in_a op) five_flags)) (with_held s (operated op b s.held)) z) (sym (operated_by op t b'))
    (for_result op _ _ (agree_both (only A) five_flags _ _ (agree_flags _ _ r r' m (agree_reg RegA s t (a_after op s.held.a r) (a_after op t.held.a r') (a_behind op _ _ _ _ ma m) a))))
  where
    r : Term
    r = alu (operation op) s.held.a b (carry_in op s.held.cy)

    r' : Term
    r' = alu (operation op) t.held.a b' (carry_in op t.held.cy)

    m : Meets r r'
    m = alus_meet (operation op) _ _ _ _ _ _ ma mb (carries_in op _ _ mc)

-- XRA A and SUB A
zeros_written : {Kept : Part → Type 0} (x y : Held) → PartsMeet Kept x y → PartsMeet (Adding Kept (union (only A) five_flags)) (cleared x) (cleared y)
zeros_written x y m A c = number_meets 0
zeros_written x y m S c = number_meets 0
zeros_written x y m Z c = number_meets 1
zeros_written x y m Ac c = lost refl
zeros_written x y m P c = number_meets 1
zeros_written x y m Cy c = number_meets 0
zeros_written x y m q c = m q (old c refl)

agree_cleared : {Kept : Part → Type 0} (s : Symbolic80) (t : Symbolic86) → Agree Kept s t → Agree (Adding Kept (union (only A) five_flags)) (with_held s (cleared s.held)) (with_held86 t (cleared t.held))
agree_cleared s t a = record { parts = zeros_written s.held t.held a.parts; sp = a.sp; actions = a.actions; loads = a.loads }

-- the templates of XRA A and SUB A, and no others, give 0
zero_same : (op : Op) (from : Src) → gives_zero86 (op86 op) (byte_operand from) ≡ gives_zero op from
zero_same Xra (InReg RegA) = refl
zero_same Xra (InReg r) = refl
zero_same Sub (InReg RegA) = refl
zero_same Sub (InReg r) = refl
zero_same op from = refl

module _ (now : Agreeing) (save : Bool) where
  open now use {before, s, t, a}

  operated_with : (op : Op) (from : Src) → ((q : Part) → Among (union (union (only A) (read from)) (carry_used op)) q → Among before q) → Agree (Adding (Among before) (union (result_in_a op) five_flags)) (with_held (after_source s from) (operated op (source s from) s.held)) (operated86 (after_operand8 t (byte_operand from)) (op86 op) (operand8 t (byte_operand from)))
  operated_with op (InReg r) k =
      agree_operated op s t _ _ (reg_meets r s t a (k (part_of_reg r) (in_first (union (only A) (read (InReg r))) (carry_used op) (part_of_reg r) (in_second (only A) (read (InReg r)) (part_of_reg r) (itself r)))))
      (a.parts A (k A refl)) (λ c. a.parts Cy (k Cy (in_second (union (only A) (read (InReg r))) (carry_used op) Cy c))) a
  operated_with op Mem k =
      agree_operated op _ _ _ _ (next_bytes_meet s t a) (a.parts A (k A refl)) (λ c. a.parts Cy (k Cy (in_second (union (only A) (read Mem)) (carry_used op) Cy c)))
      (agree_load8 s t _ _ (address now (k H refl) (k L refl)) a)

  pub row_alu : (op : Op) (from : Src) → Given before (AluWith op from) → Row now (AluWith op from) save
  row_alu op from k =
      subst (λ z. Agree (Adding (Among before) (union (result_in_a op) five_flags)) (alu_by s op from) (cond z (with_held86 t (cleared t.held)) (operated86 (after_operand8 t (byte_operand from)) (op86 op) (operand8 t (byte_operand from))))) (sym (zero_same op from))
      (by_zero (gives_zero op from) refl)
    where
      by_zero : (z : Bool) → gives_zero op from ≡ z → Agree (Adding (Among before) (union (result_in_a op) five_flags)) (cond z (with_held s (cleared s.held)) (with_held (after_source s from) (operated op (source s from) s.held))) (cond z (with_held86 t (cleared t.held)) (operated86 (after_operand8 t (byte_operand from)) (op86 op) (operand8 t (byte_operand from))))
      by_zero true e = for_result op _ _ (agree_cleared s t a)
      by_zero false e = operated_with op from (λ q c. k q (ap (λ (z : Bool). has (if z then nothing else union (union (only A) (read from)) (carry_used op)) q) e ∙ c))

  pub row_alui : (op : Op) (n : ℕ) → Given before (AluI op n) → Row now (AluI op n) save
  row_alui op n k =
      agree_operated op s t _ _ (number_meets n) (a.parts A (k A refl)) (λ c. a.parts Cy (k Cy (in_second (only A) (carry_used op) Cy c))) a

  -- INR and DCR

  counted : (c : Count) (on : Src) → ((q : Part) → Among (read on) q → Among before q) → Agree (Adding (Among before) (union (parts_written on) unsaved)) (count_by s (count_op c) on) (count8 t c (byte_operand on))
  counted c (InReg r) k =
      let m = alus_meet (count_op c) _ _ _ _ _ _ (reg_meets r s t a (k (part_of_reg r) (itself r))) (number_meets 1) (number_meets 0) in
      agree_both (only (part_of_reg r)) unsaved _ _ (agree_count_flags _ _ _ _ m (agree_reg r s t _ _ m a))
  counted c Mem k =
      let m = alus_meet (count_op c) _ _ _ _ _ _ (next_bytes_meet s t a) (number_meets 1) (number_meets 0) in
      let e = address now (k H refl) (k L refl) in
      agree_both nothing unsaved _ _ (agree_count_flags _ _ _ _ m (agree_none _ _ (agree_store8 _ _ _ _ _ _ e (meets_agree _ _ m) (agree_load8 s t _ _ e a))))

  pub row_inr : (on : Src) → Given before (Inr on) → Row now (Inr on) save
  row_inr on k = counted Inc on k

  pub row_dcr : (on : Src) → Given before (Dcr on) → Row now (Dcr on) save
  row_dcr on k = counted Dec on k

  pub row_daa : Given before Daa → Row now Daa save
  row_daa k =
      let m = adjusts_meet _ _ _ _ _ _ (a.parts A (k A refl)) (a.parts Ac (k Ac refl)) (a.parts Cy (k Cy refl)) in
      agree_both (only A) five_flags _ _ (agree_flags _ _ _ _ m (agree_reg RegA s t _ _ m a))

  pub row_cma : Given before Cma → Row now Cma save
  row_cma k = agree_reg RegA s t _ _ (alus_meet Xra _ _ _ _ _ _ (a.parts A (k A refl)) (number_meets 0xFF) (number_meets 0)) a

  pub row_stc : Row now Stc save
  row_stc = agree_cy s t _ _ (number_meets 1) a

  pub row_cmc : Given before Cmc → Row now Cmc save
  row_cmc k = agree_cy s t _ _ (alus_meet Xra _ _ _ _ _ _ (a.parts Cy (k Cy refl)) (number_meets 1) (number_meets 0)) a

  turned : (kind : ℕ) (c c' : Term) → Among before A → Meets c c' → Agree (Adding (Among before) (these (A ∷ Cy ∷ []))) (turn_by s kind c) (with_cf (with_reg8 t (reg_of RegA) (turn kind t.held.a c')) (flag Cy (turn kind t.held.a c')))
  turned kind c c' k mc =
      let m = turns_meet kind _ _ _ _ (a.parts A k) mc in
      agree_both (only A) (only Cy) _ _ (agree_cy _ _ _ _ (flags_meet Cy _ _ m) (agree_reg RegA s t _ _ m a))

  pub row_rlc : Given before Rlc → Row now Rlc save
  row_rlc k = turned 0 _ _ (k A refl) (number_meets 0)

  pub row_rrc : Given before Rrc → Row now Rrc save
  row_rrc k = turned 1 _ _ (k A refl) (number_meets 0)

  pub row_ral : Given before Ral → Row now Ral save
  row_ral k = turned 2 _ _ (k A refl) (a.parts Cy (k Cy refl))

  pub row_rar : Given before Rar → Row now Rar save
  row_rar k = turned 3 _ _ (k A refl) (a.parts Cy (k Cy refl))
