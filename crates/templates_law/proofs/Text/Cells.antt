-- The data cells of a text's image are those of its program, each at its address.
use Rattle.std.proofs.Common.{◌≡◌, ◌≢◌, ℕ, ◌+◌, ◌-◌, ◌%◌, ◌/◌, ◌<◌, List, [], ◌∷◌, Option, Some, None, refl, sym, ap, ◌∙◌, subst, arith, Bool, true, false, cond, ◌==◌}
use Rattle.std.specs.Prelude.{is_some, unwrap_or}
use Rattle.std.specs.List.{AllByRecursion}
use Rattle.std.specs.List.Sorted.{IsStrictlySortedBy}
use Rattle.std.specs.Map.{keys_of}
use Rattle.std.specs.Ordering.{nat_cmp}
use Rattle.std.specs.declared.cmp.Ordering.TheVariants.{Less}
use Rattle.std.proofs.lemmas.Bool.Decides.{nat_tests}
use Rattle.std.proofs.lemmas.Map.Keys.{IsStrictlyIncreasing-from_sorted}
use Rattle.std.proofs.lemmas.Bool.{ne_eqb, false≢true, eqb-true}
use Rattle.std.proofs.lemmas.Option.{same_Some}
use Rattle.cells.specs.declared.Place.TheVariants.{At as AtPlace, Exit}
use Rattle.cells.specs.declared.Cell.{Cell}
use Rattle.cells.specs.declared.Cell.TheVariants.{Num, Lo, Hi, Psw, Junk}
use Rattle.i80.specs.declared.Goal.TheVariants.{At as AtInstr}
use Rattle.asm86_line_types.specs.declared.line.Label.{Label}
use Rattle.asm86_line_types.specs.declared.line.Label.TheVariants.{At as Line}
use Rattle.asm86_line_types.specs.Layout.{offset_of, place_of}
use Rattle.asm86_line_types.specs.Image.{statements, image_of, cells_from, by_address}
use Rattle.asm86_line_types.specs.Cells.{AscendingStay}
use Rattle.asm80_types.specs.declared.program.Placed.{Placed}
use Rattle.asm80_types.specs.Program.{Program, cell_in, cell_at, CellsAreLaid, IsDatum, IsProgram}
use Rattle.asm80_types.proofs.Standing.{datum_found}
use Rattle.flow.specs.Blocks.{BlocksCut}
use Rattle.templates.specs.Style.{Style, styled_statements, styled}
use Rattle.asm86.proofs.Texts.{offset_is}
use Rattle.sym_block_def.specs.Stands.{IsHalf, Stands}
use Rattle.simulation_def.specs.Linked.{places}
use Rattle.simulation_def.specs.Runs86.{offsets_of}
use Rattle.simulation_def.specs.Matches.{first_or, byte_at, DataStands}
use Rattle.templates.proofs.NumberedLines.{statements-numbered}
use Rattle.templates_law.proofs.Text.Leading.{Leads, held_leads}
use Rattle.templates_law.proofs.Text.Data.{byte_of, bytes_of, data_cells}
use Rattle.templates_law.proofs.Text.Programs.{Begins, program_data}
use Rattle.templates_law.proofs.Text.Assembling.{body_cells}
use Rattle.templates_law.proofs.Text.Whole.{tail_of, body_of, is_body, defined}

-- ---- the cells ascend

is_less : (a b : ℕ) → a < b → nat_cmp a b ≡ Less
is_less a b lt = grind (arith, nat_tests)

all_above : (off : Label → ℕ) (instrs : List Placed) (k from limit : ℕ) (cs : List (ℕ × Cell)) → k < from → CellsAreLaid instrs from limit cs → AllByRecursion (λ y. nat_cmp k y ≡ Less) (keys_of (bytes_of off cs))
all_above off instrs k from limit [] lt laid = tt
all_above off instrs k from limit (c ∷ cs) lt laid =
    let above = laid.0 in
    (is_less k c.0 (omega (arith, lt, above)), all_above off instrs k (c.0 + 1) limit cs (omega (arith, lt, above)) laid.3)

are_sorted : (off : Label → ℕ) (instrs : List Placed) (from limit : ℕ) (cs : List (ℕ × Cell)) → CellsAreLaid instrs from limit cs → IsStrictlySortedBy nat_cmp (keys_of (bytes_of off cs))
unfolding IsStrictlySortedBy
are_sorted off instrs from limit [] laid = tt
are_sorted off instrs from limit (c ∷ cs) laid = (all_above off instrs c.0 (c.0 + 1) limit cs (omega arith) laid.3, are_sorted off instrs (c.0 + 1) limit cs laid.3)

-- ---- the byte at an address

none_before : (off : Label → ℕ) (instrs : List Placed) (from limit a : ℕ) (cs : List (ℕ × Cell)) → CellsAreLaid instrs from limit cs → a < from → byte_at (bytes_of off cs) a ≡ None
none_before off instrs from limit a [] laid lt = refl
none_before off instrs from limit a (c ∷ cs) laid lt =
    let above = laid.0 in
    let ne : c.0 ≢ a = omega (arith, lt, above) in
    ap (λ o. first_or o (cond (c.0 == a) (Some (byte_of off c.1)) None)) (none_before off instrs (c.0 + 1) limit a cs laid.3 (omega (arith, lt, above)))
    ∙ ap (λ t. cond t (Some (byte_of off c.1)) None) (ne_eqb c.0 a ne)

-- the cell at an address gives the byte there
byte_found : (off : Label → ℕ) (instrs : List Placed) (from limit a : ℕ) (v : Cell) (cs : List (ℕ × Cell)) → CellsAreLaid instrs from limit cs → cell_in cs a ≡ Some v → byte_at (bytes_of off cs) a ≡ Some (byte_of off v)
byte_found off instrs from limit a v [] laid h = absurd (false≢true (ap is_some h))
byte_found off instrs from limit a v (c ∷ cs) laid h = by_test (c.0 == a) refl h (byte_found off instrs (c.0 + 1) limit a v cs laid.3)
  where
    by_test : (t : Bool) → (c.0 == a) ≡ t → cond t (Some c.1) (cell_in cs a) ≡ Some v → (cell_in cs a ≡ Some v → byte_at (bytes_of off cs) a ≡ Some (byte_of off v)) → first_or (byte_at (bytes_of off cs) a) (cond (c.0 == a) (Some (byte_of off c.1)) None) ≡ Some (byte_of off v)
    by_test true e g rec =
        let place : c.0 ≡ a = eqb-true c.0 a e in
        let value : c.1 ≡ v = same_Some c.1 v g in
        ap (λ o. first_or o (cond (c.0 == a) (Some (byte_of off c.1)) None)) (none_before off instrs (c.0 + 1) limit a cs laid.3 (omega (arith, place)))
        ∙ ap (λ t. cond t (Some (byte_of off c.1)) None) e
        ∙ ap (λ w. Some (byte_of off w)) value
    by_test false e g rec = ap (λ o. first_or o (cond (c.0 == a) (Some (byte_of off c.1)) None)) (rec g)

-- ---- what the byte stands for

half_stands : (half : ℕ → ℕ) (o : Option ℕ) → is_some o ≡ true → IsHalf half o (half (unwrap_or o 0))
half_stands half None h = absurd (false≢true h)
half_stands half (Some n) h = refl

module _ (s : Style) (p : Program) (is : IsProgram p) (cut : BlocksCut p) where
  abbrev off : Label → ℕ
  off = place_of (styled_statements s p)

  -- the offset of a label in the image is that in the text
  offset_same : (l : Label) → offset_of (styled_statements s p) l ≡ offsets_of (styled s p) l
  offset_same l = ap (λ xs. offset_of xs l) (sym (statements-numbered 1 (styled_statements s p))) ∙ offset_is 0 (statements (styled s p)) l

  half_of : (half : ℕ → ℕ) (q : ℕ) → Begins p q → IsHalf half (offsets_of (styled s p) (Line q)) (half (off (Line q)))
  half_of half q h = subst (λ o. IsHalf half o (half (off (Line q)))) (offset_same (Line q)) (half_stands half (offset_of (styled_statements s p) (Line q)) (defined s p is cut (AtInstr q) h))

  byte_stands : (a : ℕ) (v : Cell) → cell_at p a ≡ Some v → IsDatum p a v → Stands (places (offsets_of (styled s p))) v (byte_of off v)
  byte_stands a (Num n) e d = refl
  byte_stands a (Lo (AtPlace q)) e d = half_of (λ n. n % 256) q (held_leads p is cut a q e d.0)
  byte_stands a (Lo Exit) e d = absurd d
  byte_stands a (Hi (AtPlace q)) e d = half_of (λ n. n / 256) q (held_leads p is cut (a - 1) q d.2 d.0)
  byte_stands a (Hi Exit) e d = absurd d
  byte_stands a (Psw f) e d = absurd d
  byte_stands a Junk e d = absurd d

  text_cells : cells_from (place_of (statements (styled s p))) 0 (statements (styled s p)) ≡ bytes_of off p.cells
  text_cells =
      ap (λ xs. cells_from (place_of xs) 0 xs) (statements-numbered 1 (styled_statements s p))
      ∙ body_cells (Leads p) off 0 p.instrs (body_of s p) (is_body s p is cut) (tail_of p)
      ∙ data_cells off (Begins p) (p.top - 2) p.top 0x100 p.cells (program_data p is cut) 0

  pub data_stand : AscendingStay → DataStands p (styled s p)
  data_stand stay a v h =
      let sorted = IsStrictlyIncreasing-from_sorted (keys_of (bytes_of off p.cells)) (are_sorted off p.instrs 0x100 (p.top - 2) p.cells is.cells) in
      let cells : (image_of (styled s p)).cells ≡ bytes_of off p.cells = ap by_address text_cells ∙ stay (bytes_of off p.cells) sorted in (
        byte_of off v,
        ap (λ cs. byte_at cs a) cells ∙ byte_found off p.instrs 0x100 (p.top - 2) a v p.cells is.cells h,
        byte_stands a v h (datum_found p a v p.cells is.values h),
      )
