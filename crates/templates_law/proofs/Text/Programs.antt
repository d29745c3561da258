-- What is known of a program's data cells.
use Rattle.std.proofs.Common.{◌≡◌, ◌≢◌, ℕ, ◌+◌, ◌-◌, ◌≤◌, ◌<◌, ⊎_elim, List, [], ◌∷◌, Some, None, refl, sym, ap, ◌∙◌, subst, arith, Bool, true, false, cond, ◌==◌}
use Rattle.std.proofs.lemmas.Bool.{cases_lt, eq-eqb, ne_eqb, eqb-true}
use Rattle.std.proofs.lemmas.Bool.Decides.{nat_tests}
use Rattle.std.proofs.lemmas.Option.{same_Some}
use Rattle.cells.specs.declared.Place.TheVariants.{At as AtPlace, Exit}
use Rattle.cells.specs.declared.Cell.{Cell}
use Rattle.cells.specs.declared.Cell.TheVariants.{Num, Lo, Hi, Psw, Junk}
use Rattle.i80.specs.declared.Goal.TheVariants.{At as AtInstr}
use Rattle.asm80_types.specs.declared.program.Placed.{Placed}
use Rattle.asm80_types.specs.Program.{Program, cell_in, cell_at, is_top, CellsAreLaid, IsDatum, AreData, IsProgram}
use Rattle.flow.specs.Blocks.{BlocksCut}
use Rattle.templates_law.proofs.Text.Leading.{Leads, held_leads}
use Rattle.templates_law.proofs.Text.Data.{HasData, none, byte, word}

pub top_high : (t : ℕ) → is_top t ≡ true → t ≤ 0xFF00
top_high t h = grind (arith, nat_tests)

-- ---- data

-- a block of the program begins there
abbrev pub Begins : Program → ℕ → Type 0
Begins p q = Leads p (AtInstr q)

-- cells from a place on are all cells of the program from there on
record Cells (p : Program) (limit from : ℕ) (cs : List (ℕ × Cell)) : Type 0 where
  laid : CellsAreLaid p.instrs from limit cs
  sees : (x : ℕ) → from ≤ x → cell_at p x ≡ cell_in cs x
  values : AreData p cs

pub none_below : (instrs : List Placed) (from limit x : ℕ) (cs : List (ℕ × Cell)) → CellsAreLaid instrs from limit cs → x < from → cell_in cs x ≡ None
none_below instrs from limit x [] laid lt = refl
none_below instrs from limit x (c ∷ cs) laid lt =
    let above = laid.0 in
    let ne : c.0 ≢ x = omega (arith, lt, above) in
    ap (λ t. cond t (Some c.1) (cell_in cs x)) (ne_eqb c.0 x ne) ∙ none_below instrs (c.0 + 1) limit x cs laid.3 (omega (arith, lt, above))

cell_here : (p : Program) (limit from : ℕ) (c : ℕ × Cell) (cs : List (ℕ × Cell)) → Cells p limit from (c ∷ cs) → cell_at p c.0 ≡ Some c.1
cell_here p limit from c cs f = f.sees c.0 f.laid.0 ∙ ap (λ t. cond t (Some c.1) (cell_in cs c.0)) (eq-eqb c.0 c.0 refl)

cells_rest : (p : Program) (limit from : ℕ) (c : ℕ × Cell) (cs : List (ℕ × Cell)) → Cells p limit from (c ∷ cs) → Cells p limit (c.0 + 1) cs
cells_rest p limit from c cs f = record {
  laid = f.laid.3;
  sees = λ x le.
      let above = f.laid.0 in
      let ne : c.0 ≢ x = omega (arith, le) in
      f.sees x (omega (arith, le, above)) ∙ ap (λ t. cond t (Some c.1) (cell_in cs x)) (ne_eqb c.0 x ne);
  values = f.values.1;
}

-- the cell before a place is no low half
abbrev NoLow : Program → ℕ → Type 0
NoLow p from = (q : ℕ) → cell_at p (from - 1) ≡ Some (Lo (AtPlace q)) → ⊥

past_other : (p : Program) (a : ℕ) (v : Cell) → cell_at p a ≡ Some v → ((q : ℕ) → Some v ≡ Some (Lo (AtPlace q)) → ⊥) → NoLow p (a + 1)
past_other p a v here other q h =
    let e : a + 1 - 1 ≡ a = omega arith in
    other q (sym here ∙ subst (λ n. cell_at p n ≡ Some (Lo (AtPlace q))) e h)

-- cells that begin with a high half, and data behind it
record High (p : Program) (limit from q : ℕ) (cs : List (ℕ × Cell)) : Type 0 where
  rest : List (ℕ × Cell)
  is : cs ≡ (from, Hi (AtPlace q)) ∷ rest
  more : HasData (Begins p) limit (from + 1) rest

record AreDataFrom (p : Program) (limit from : ℕ) (cs : List (ℕ × Cell)) : Type 0 where
  whole : NoLow p from → HasData (Begins p) limit from cs
  high : (q : ℕ) → cell_at p from ≡ Some (Hi (AtPlace q)) → High p limit from q cs

no_high_alone : (p : Program) (limit from : ℕ) (c : ℕ × Cell) (cs : List (ℕ × Cell)) (q : ℕ) → Cells p limit from (c ∷ cs) → NoLow p from → 0 < c.0 → cell_at p (c.0 - 1) ≡ Some (Lo (AtPlace q)) → ⊥
no_high_alone p limit from c cs q f low some before = ⊎_elim inside at_first (cases_lt from c.0)
  where
    inside : from < c.0 → ⊥
    inside lt =
        let none = none_below p.instrs c.0 limit (c.0 - 1) (c ∷ cs) (omega arith, f.laid.1, f.laid.2, f.laid.3) (omega (arith, some)) in
        let seen = f.sees (c.0 - 1) (omega (arith, lt)) in
        let no : None ≡ Some (Lo (AtPlace q)) = sym (seen ∙ none) ∙ before in
        absurd (cc)

    at_first : c.0 ≤ from → ⊥
    at_first le =
        let above = f.laid.0 in
        let e : c.0 ≡ from = omega (arith, le, above) in
        low q (subst (λ n. cell_at p (n - 1) ≡ Some (Lo (AtPlace q))) e before)

data_from_here : (p : Program) → IsProgram p → BlocksCut p → (limit from : ℕ) (c : ℕ × Cell) (cs : List (ℕ × Cell)) → Cells p limit from (c ∷ cs) → AreDataFrom p limit (c.0 + 1) cs → AreDataFrom p limit from (c ∷ cs)
data_from_here p is cut limit from c cs f rec = record {
  whole = λ low. by_value c.1 (cell_here p limit from c cs f) f.values.0 low;
  high = λ q h. by_test q (c.0 == from) refl (sym (f.sees from (omega arith)) ∙ h);
}
  where
    by_value : (v : Cell) → cell_at p c.0 ≡ Some v → IsDatum p c.0 v → NoLow p from → HasData (Begins p) limit from ((c.0, v) ∷ cs)
    by_value (Num n) here d low = byte from c.0 n cs f.laid.0 f.laid.1 d (rec.whole (past_other p c.0 (Num n) here (λ q e. absurd (cc))))
    by_value (Lo (AtPlace q)) here d low =
        let m = rec.high q d.1 in
        let e : c.0 + 1 + 1 ≡ c.0 + 2 = omega arith in
        let laid = subst (CellsAreLaid p.instrs (c.0 + 1) limit) m.is f.laid.3 in
        subst (λ ys. HasData (Begins p) limit from ((c.0, Lo (AtPlace q)) ∷ ys)) (sym m.is)
        (word from c.0 q m.rest f.laid.0 laid.1 (held_leads p is cut c.0 q here d.0) (subst (λ n. HasData (Begins p) limit n m.rest) e m.more))
    by_value (Lo Exit) here d low = absurd d
    by_value (Hi (AtPlace q)) here d low = absurd (no_high_alone p limit from c cs q f low d.1 d.2)
    by_value (Hi Exit) here d low = absurd d
    by_value (Psw g) here d low = absurd d
    by_value Junk here d low = absurd d

    by_test : (q : ℕ) (t : Bool) → (c.0 == from) ≡ t → cond t (Some c.1) (cell_in cs from) ≡ Some (Hi (AtPlace q)) → High p limit from q (c ∷ cs)
    by_test q true e h =
        let place : c.0 ≡ from = eqb-true c.0 from e in
        let value : c.1 ≡ Hi (AtPlace q) = same_Some c.1 (Hi (AtPlace q)) h in
        let here : cell_at p c.0 ≡ Some (Hi (AtPlace q)) = cell_here p limit from c cs f ∙ h in
        record {
          rest = cs;
          is = λ i. (place i, value i) ∷ cs;
          more = subst (λ n. HasData (Begins p) limit (n + 1) cs) place (rec.whole (past_other p c.0 (Hi (AtPlace q)) here (λ q e. absurd (cc))));
        }
    by_test q false e h =
        let above = f.laid.0 in
        let none = none_below p.instrs (c.0 + 1) limit from cs f.laid.3 (omega (arith, above)) in
        let no : None ≡ Some (Hi (AtPlace q)) = sym none ∙ h in
        absurd (cc)

are_data : (p : Program) → IsProgram p → BlocksCut p → (limit from : ℕ) (cs : List (ℕ × Cell)) → Cells p limit from cs → AreDataFrom p limit from cs
are_data p is cut limit from [] f = record {
  whole = λ low. none from;
  high = λ q h. let no : None ≡ Some (Hi (AtPlace q)) = sym (f.sees from (omega arith)) ∙ h in absurd (cc);
}
are_data p is cut limit from (c ∷ cs) f = data_from_here p is cut limit from c cs f (are_data p is cut limit (c.0 + 1) cs (cells_rest p limit from c cs f))

-- the cells of a program are bytes and words
pub program_data : (p : Program) → IsProgram p → BlocksCut p → HasData (Begins p) (p.top - 2) 0x100 p.cells
program_data p is cut =
    let none = none_below p.instrs 0x100 (p.top - 2) 0xFF p.cells is.cells (omega arith) in
    (are_data p is cut (p.top - 2) 0x100 p.cells (record { laid = is.cells; sees = λ x le. refl; values = is.values })).whole (λ q h. let no : None ≡ Some (Lo (AtPlace q)) = sym none ∙ h in absurd (cc))
