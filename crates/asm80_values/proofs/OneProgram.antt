-- A source has one program: the lists of a program ascend, and ascending lists with the same members are one.
use Rattle.std.proofs.Common.{◌≡◌, ℕ, suc, ◌+◌, ◌-◌, ◌≤◌, All, List, [], ◌∷◌, Option, Some, None, refl, sym, ap, subst, ◌∙◌, arith, ◌⊎◌, inl, inr}
use Rattle.std.specs.Prelude.{Contains}
use Rattle.std.proofs.lemmas.Option.{none-some}
use Rattle.std.proofs.lemmas.List.Elements.{All-contains, All-cons, Contains-append_right, Contains-append_cases, Contains-append_left, Contains-push}
use Rattle.cells.specs.declared.Cell.{Cell}
use Rattle.i80.specs.Columns.{length80}
use Rattle.asm80_types.specs.declared.program.Placed.{Placed}
use Rattle.asm80_types.specs.Program.{Program, program_of, AreLaid, CellsAreLaid}
use Rattle.asm80_types.proofs.Lookup.{length80-positive}
use Rattle.asm80_types.specs.Reading.{Reading, HasOneOutcome}
use Rattle.asm80_types.specs.Tree.{Statement}
use Rattle.asm80_types.specs.declared.fault.LineRule.{LineRule}
use Rattle.asm80_types.specs.declared.fault.ReadFault.{ReadFault}
use Rattle.asm80_types.specs.declared.fault.ReadFault.TheVariants.{Syntax}
use Rattle.asm80_source_def.specs.declared.rule.AsmRule.{AsmRule}
use Rattle.asm80_source_def.specs.FirstFaults.{Refusal}
use Rattle.asm80_source_def.specs.Walk.{Walk, WalkRow, rows, walked}
use Rattle.asm80_source_def.specs.Assembly.{HoldsProgram, IsRefused, refusal}
use Rattle.asm80_source_def.specs.Source.{IsSource, IsNoSource, SourceRule, OfLine, OfProgram, faulty, refused}

-- ---- ascending lists with the same members

module _ {X : Type 0} (key : X → ℕ) where
  abbrev Ascends : ℕ → List X → Type 0
  Ascends from [] = Unit {0}
  Ascends from (x ∷ xs) = (from ≤ key x) × Ascends (suc (key x)) xs

  lower : (from least : ℕ) (xs : List X) → least ≤ from → Ascends from xs → Ascends least xs
  lower from least [] le h = tt
  lower from least (x ∷ xs) le h = (omega (arith, h.0), h.1)

  all_above : (from : ℕ) (xs : List X) → Ascends from xs → All (λ x. from ≤ key x) xs
  all_above from [] h = λ k d lt. absurd (omega arith)
  all_above from (x ∷ xs) h = All-cons (λ (y : X). from ≤ key y) x xs h.0 (all_above from xs (lower (suc (key x)) from xs (omega (arith, h.0)) h.1))

  above : (from : ℕ) (xs : List X) (x : X) → Ascends from xs → Contains xs x → from ≤ key x
  above from xs x h inside = All-contains (λ (y : X). from ≤ key y) xs x (all_above from xs h) inside

  head : (x : X) (xs : List X) → Contains (x ∷ xs) x
  head x xs = Contains-append_left (x ∷ []) xs x (Contains-push [] x)

  none : (x : X) → Contains [] x → ⊥
  none x h = omega (arith, h.1)

  only : (x z : X) → Contains (x ∷ []) z → x ≡ z
  only x z h = All-contains (λ (y : X). x ≡ y) (x ∷ []) z (All-cons (λ (y : X). x ≡ y) x [] refl (λ k d lt. absurd (omega arith))) h

  same_head : (x y : X) (xs ys : List X) → Ascends (suc (key x)) xs → Ascends (suc (key y)) ys → (x ≡ y) ⊎ Contains xs y → (y ≡ x) ⊎ Contains ys x → x ≡ y
  same_head x y xs ys rising rising_ys (inl e) b = e
  same_head x y xs ys rising rising_ys (inr a) (inl e) = sym e
  same_head x y xs ys rising rising_ys (inr a) (inr b) = absurd (omega (arith, above (suc (key x)) xs y rising a, above (suc (key y)) ys x rising_ys b))

  cases : (x z : X) (xs : List X) → Contains (x ∷ xs) z → (x ≡ z) ⊎ Contains xs z
  cases x z xs h = cases_by (Contains-append_cases (x ∷ []) xs z h)
    where
      cases_by : Contains (x ∷ []) z ⊎ Contains xs z → (x ≡ z) ⊎ Contains xs z
      cases_by (inl a) = inl (only x z a)
      cases_by (inr b) = inr b

  later : (x z : X) (xs ys : List X) → Ascends (suc (key x)) xs → Contains xs z → (x ≡ z) ⊎ Contains ys z → Contains ys z
  later x z xs ys rising inside (inl e) = absurd (omega (arith, above (suc (key x)) xs z rising inside, ap key e))
  later x z xs ys rising inside (inr h) = h

  one_list : (xs ys : List X) (from least : ℕ) → Ascends from xs → Ascends least ys → ((z : X) → Contains xs z → Contains ys z) → ((z : X) → Contains ys z → Contains xs z) → xs ≡ ys
  one_list [] [] from least a b to back = refl
  one_list [] (y ∷ ys) from least a b to back = absurd (none y (back y (head y ys)))
  one_list (x ∷ xs) [] from least a b to back = absurd (none x (to x (head x xs)))
  one_list (x ∷ xs) (y ∷ ys) from least a b to back =
      let first : x ≡ y = same_head x y xs ys a.1 b.1 (cases x y xs (back y (head y ys))) (cases y x ys (to x (head x xs))) in
      let rest : xs ≡ ys =
      one_list xs ys (suc (key x)) (suc (key y)) a.1 b.1
      (λ z h. later x z xs ys a.1 h (rw first (cases y z ys (to z (Contains-append_right (x ∷ []) xs z h)))))
      (λ z h. later y z ys xs b.1 h (rw (← first) (cases x z xs (back z (Contains-append_right (y ∷ []) ys z h))))) in
      ap (λ z. z ∷ xs) first ∙ ap (λ zs. y ∷ zs) rest

-- ---- a program's lists ascend

instrs_ascend : (from limit : ℕ) (xs : List Placed) → AreLaid from limit xs → Ascends (λ (x : Placed). x.at) from xs
instrs_ascend from limit [] h = tt
instrs_ascend from limit (x ∷ xs) h =
    let long = length80-positive x.instr in
    (h.0, lower (λ (y : Placed). y.at) (x.at + length80 x.instr) (suc x.at) xs (omega arith) (instrs_ascend (x.at + length80 x.instr) limit xs h.3))

cells_ascend : (instrs : List Placed) (from limit : ℕ) (cs : List (ℕ × Cell)) → CellsAreLaid instrs from limit cs → Ascends (λ (c : ℕ × Cell). c.0) from cs
cells_ascend instrs from limit [] h = tt
cells_ascend instrs from limit (c ∷ cs) h =
    (h.0, lower (λ (d : ℕ × Cell). d.0) (c.0 + 1) (suc c.0) cs (omega arith) (cells_ascend instrs (c.0 + 1) limit cs h.3))

same_program : (p q : Program) → p.instrs ≡ q.instrs → p.cells ≡ q.cells → p.top ≡ q.top → p ≡ q
same_program p q instrs cells top =
    ap (λ (xs : List Placed). program_of xs p.cells p.top) instrs ∙ ap (λ (cs : List (ℕ × Cell)). program_of q.instrs cs p.top) cells ∙ ap (λ (t : ℕ). program_of q.instrs q.cells t) top

one_holds : (rs : List WalkRow) (end : Walk) (top : ℕ) (p q : Program) → HoldsProgram rs end top p → HoldsProgram rs end top q → p ≡ q
one_holds rs end top p q a b =
    same_program p q
    (one_list (λ (x : Placed). x.at) p.instrs q.instrs 0x100 0x100 (instrs_ascend 0x100 (p.top - 2) p.instrs a.lawful.instrs) (instrs_ascend 0x100 (q.top - 2) q.instrs b.lawful.instrs)
    (λ z h. (b.instrs z).1 ((a.instrs z).0 h)) (λ z h. (a.instrs z).1 ((b.instrs z).0 h)))
    (one_list (λ (c : ℕ × Cell). c.0) p.cells q.cells 0x100 0x100 (cells_ascend p.instrs 0x100 (p.top - 2) p.cells a.lawful.cells) (cells_ascend q.instrs 0x100 (q.top - 2) q.cells b.lawful.cells)
    (λ z h. (b.cells z).1 ((a.cells z).0 h)) (λ z h. (a.cells z).1 ((b.cells z).0 h)))
    (a.is_top ∙ sym b.is_top)

-- ---- what is no source

abbrev fault_line : Option ReadFault → ℕ
fault_line (Some (Syntax n rule)) = n
fault_line f = 0

abbrev fault_rule : LineRule → Option ReadFault → LineRule
fault_rule other (Some (Syntax n rule)) = rule
fault_rule other f = other

abbrev refusal_line : Option Refusal → ℕ
refusal_line (Some x) = x.0
refusal_line None = 0

abbrev refusal_rule : AsmRule → Option Refusal → AsmRule
refusal_rule other (Some x) = x.1
refusal_rule other None = other

-- ---- a reading by which a stream has one outcome

module _ (reading : Reading) (one : HasOneOutcome reading) where
  pub one_program : (bytes : List ℕ) (top : ℕ) (p q : Program) → IsSource reading bytes top p → IsSource reading bytes top q → p ≡ q
  one_program bytes top p q a b =
      let same : a.statements ≡ b.statements = (one bytes a.statements b.statements None None a.lines b.lines).0 in
      let mine : HoldsProgram (rows b.statements) (walked b.statements) top p = subst (λ (ss : List Statement). HoldsProgram (rows ss) (walked ss) top p) same a.program.program in
      one_holds (rows b.statements) (walked b.statements) top p q mine b.program.program

  -- the same as a pair
  abbrev IsFaulty : List ℕ → ℕ → ℕ → SourceRule → Type 0
  IsFaulty bytes top line (OfLine rule) = (ss : List Statement) × reading bytes ss (Some (Syntax line rule))
  IsFaulty bytes top line (OfProgram rule) = (ss : List Statement) × reading bytes ss None × IsRefused ss top line rule

  is_faulty : (bytes : List ℕ) (top line : ℕ) (rule : SourceRule) → IsNoSource reading bytes top line rule → IsFaulty bytes top line rule
  is_faulty bytes top line rule (faulty {statements = ss} h) = (ss, h)
  is_faulty bytes top line rule (refused {statements = ss} h g) = (ss, h, g)

  one_fault : (bytes : List ℕ) (top m n : ℕ) (r s : SourceRule) → IsFaulty bytes top m r → IsFaulty bytes top n s → (m ≡ n) × (r ≡ s)
  one_fault bytes top m n (OfLine r) (OfLine s) a b =
      let same : Some (Syntax m r) ≡ Some (Syntax n s) = (one bytes a.0 b.0 (Some (Syntax m r)) (Some (Syntax n s)) a.1 b.1).1 in
      (ap fault_line same, ap (λ f. OfLine (fault_rule r f)) same)
  one_fault bytes top m n (OfLine r) (OfProgram s) a b = absurd (none-some (Syntax m r) (one bytes b.0 a.0 None (Some (Syntax m r)) b.1 a.1).1)
  one_fault bytes top m n (OfProgram r) (OfLine s) a b = absurd (none-some (Syntax n s) (one bytes a.0 b.0 None (Some (Syntax n s)) a.1 b.1).1)
  one_fault bytes top m n (OfProgram r) (OfProgram s) a b =
      let found : refusal a.0 top ≡ Some (m, r) = a.2 in
      let others : refusal b.0 top ≡ Some (n, s) = b.2 in
      let same : Some (m, r) ≡ Some (n, s) = sym found ∙ ap (λ (ss : List Statement). refusal ss top) (one bytes a.0 b.0 None None a.1 b.1).0 ∙ others in
      (ap refusal_line same, ap (λ f. OfProgram (refusal_rule r f)) same)

  pub one_refusal : (bytes : List ℕ) (top m n : ℕ) (r s : SourceRule) → IsNoSource reading bytes top m r → IsNoSource reading bytes top n s → (m ≡ n) × (r ≡ s)
  one_refusal bytes top m n r s a b = one_fault bytes top m n r s (is_faulty bytes top m r a) (is_faulty bytes top n s b)

  not_faulty : (bytes : List ℕ) (top n : ℕ) (p : Program) (r : SourceRule) → IsSource reading bytes top p → IsFaulty bytes top n r → ⊥
  not_faulty bytes top n p (OfLine r) a b = none-some (Syntax n r) (one bytes a.statements b.0 None (Some (Syntax n r)) a.lines b.1).1
  not_faulty bytes top n p (OfProgram r) a b =
      let found : refusal b.0 top ≡ Some (n, r) = b.2 in
      none-some (n, r) (sym a.program.accepted ∙ ap (λ (ss : List Statement). refusal ss top) (one bytes a.statements b.0 None None a.lines b.1).0 ∙ found)

  pub never_both : (bytes : List ℕ) (top n : ℕ) (p : Program) (r : SourceRule) → IsSource reading bytes top p → IsNoSource reading bytes top n r → ⊥
  never_both bytes top n p r a b = not_faulty bytes top n p r a (is_faulty bytes top n r b)
