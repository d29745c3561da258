-- Each place that a program's text names is the first of a block, and so has its label there.
use Rattle.std.proofs.Common.{◌≡◌, ℕ, ◌+◌, ◌-◌, ◌≤◌, List, [], ◌∷◌, Some, refl, ap, ◌∙◌, arith, Bool, true, false, cond, ◌==◌, ◌||◌}
use Rattle.std.specs.Prelude.{is_some, IfSome, filter, filter_map}
use Rattle.std.proofs.lemmas.Bool.{or_left, or_right, eqb-true, eq-eqb, ne_eqb, false≢true}
use Rattle.std.proofs.lemmas.List.Folds.{list_any-append}
use Rattle.base.specs.Addresses.{is_among}
use Rattle.cells.specs.declared.Place.TheVariants.{At as AtPlace}
use Rattle.cells.specs.declared.Cell.TheVariants.{Lo}
use Rattle.i80.specs.declared.Word.TheVariants.{Num as Number, Code}
use Rattle.i80.specs.declared.Goal.{Goal}
use Rattle.i80.specs.declared.Goal.TheVariants.{At, Boot, Bdos}
use Rattle.i80.specs.declared.Instr80.{Instr80}
use Rattle.i80.specs.declared.Instr80.TheVariants.{Lxi, Jmp, Jif, Call, Cif}
use Rattle.i80.specs.Columns.{length80}
use Rattle.asm80_types.proofs.Standing.{held_taken}
use Rattle.asm80_types.specs.declared.program.Placed.{Placed}
use Rattle.asm80_types.specs.Program.{Program, placed_in, instr_of_placed, instr_at, is_start, starts_of, cell_at, AreLaid, named_by, NameStarts, AreCoded, IsProgram}
use Rattle.asm80_types.specs.Taken.{place_taken_by, place_placed, place_in_cell, takes, taken_places}
use Rattle.asm80_types.proofs.Lookup.{length80-positive}
use Rattle.flow.specs.Blocks.{target_of, IsLeader, BlocksCut}
use Rattle.flow.proofs.Entries.{among_cons, among_some, contained}
use Rattle.templates_law.proofs.Text.Shapes.{Names}
use Rattle.templates_law.proofs.Text.Body.{AreKnown}

-- the places that a program's text names: instructions that are the first of a block, 0 and 5
abbrev pub Leads : Program → Goal → Type 0
Leads p (At a) = IsLeader p a × (is_start p a ≡ true)
Leads p Boot = Unit {0}
Leads p Bdos = Unit {0}

-- ---- what is taken

among_kept : (test : ℕ → Bool) (q : ℕ) (list : List ℕ) → test q ≡ true → is_among list q ≡ true → is_among (filter test list) q ≡ true
among_kept test q [] t h = h
among_kept test q (b ∷ bs) t h = by_test (b == q) refl h (among_kept test q bs t)
  where
    later : (u : Bool) → is_among (filter test bs) q ≡ true → is_among (cond u (b ∷ filter test bs) (filter test bs)) q ≡ true
    later true g = or_right (b == q) (is_among (filter test bs) q) g
    later false g = g

    by_test : (u : Bool) → (b == q) ≡ u → (u || is_among bs q) ≡ true → (is_among bs q ≡ true → is_among (filter test bs) q ≡ true) → is_among (filter test (b ∷ bs)) q ≡ true
    by_test true e g rest =
        let kept : test b ≡ true = ap test (eqb-true b q e) ∙ t in
        ap (λ u. is_among (cond u (b ∷ filter test bs) (filter test bs)) q) kept ∙ or_left (b == q) (is_among (filter test bs) q) e
    by_test false e g rest = later (test b) (rest g)

start_among : (q : ℕ) (xs : List Placed) → is_some (placed_in xs q) ≡ true → is_among (starts_of xs) q ≡ true
start_among q [] h = absurd (false≢true h)
start_among q (x ∷ xs) h = by_test (x.at == q) h (start_among q xs)
  where
    by_test : (u : Bool) → is_some (cond u (Some x) (placed_in xs q)) ≡ true → (is_some (placed_in xs q) ≡ true → is_among (starts_of xs) q ≡ true) → (u || is_among (starts_of xs) q) ≡ true
    by_test true g rest = refl
    by_test false g rest = rest g

module _ (p : Program) (is : IsProgram p) (cut : BlocksCut p) where
  taken_leads : (q : ℕ) → is_start p q ≡ true → takes p q ≡ true → Leads p (At q)
  taken_leads q start t = (cut.is_taken q (contained (taken_places p) q (among_kept (takes p) q (starts_of p.instrs) t (start_among q p.instrs start))), start)

  either_takes : (q : ℕ) → (is_among (filter_map place_placed p.instrs) q || is_among (filter_map place_in_cell p.cells) q) ≡ true → takes p q ≡ true
  either_takes q h = list_any-append (λ b. b == q) (filter_map place_placed p.instrs) (filter_map place_in_cell p.cells) ∙ h

  -- a code address among the data
  pub held_leads : (a q : ℕ) → cell_at p a ≡ Some (Lo (AtPlace q)) → is_start p q ≡ true → Leads p (At q)
  held_leads a q here start =
      taken_leads q start (either_takes q (or_right (is_among (filter_map place_placed p.instrs) q) (is_among (filter_map place_in_cell p.cells) q) (held_taken p.cells a q here)))

  -- instructions from a place on are all of the program from there on
  record Instrs (from : ℕ) (xs : List Placed) : Type 0 where
    laid : AreLaid from (p.top - 2) xs
    sees : (a : ℕ) → from ≤ a → placed_in p.instrs a ≡ placed_in xs a
    takes : (q : ℕ) → is_among (filter_map place_placed xs) q ≡ true → is_among (filter_map place_placed p.instrs) q ≡ true

  instr_here : (from : ℕ) (x : Placed) (xs : List Placed) → Instrs from (x ∷ xs) → instr_at p x.at ≡ Some x.instr
  instr_here from x xs f = ap instr_of_placed (f.sees x.at f.laid.0 ∙ ap (λ t. cond t (Some x) (placed_in xs x.at)) (eq-eqb x.at x.at refl))

  instrs_rest : (from : ℕ) (x : Placed) (xs : List Placed) → Instrs from (x ∷ xs) → Instrs (x.at + length80 x.instr) xs
  instrs_rest from x xs f = record {
    laid = f.laid.3;
    sees = λ a le.
        let above = f.laid.0 in
        let longer = length80-positive x.instr in
        let ne : x.at ≡ a → ⊥ = λ same. omega (arith, le, longer, same) in
        f.sees a (omega (arith, le, above)) ∙ ap (λ t. cond t (Some x) (placed_in xs a)) (ne_eqb x.at a ne);
    takes = λ q h. f.takes q (among_cons (place_placed x) (filter_map place_placed xs) q h);
  }

  names_lead : (at : ℕ) (i : Instr80) → ((t : ℕ) → target_of i ≡ Some t → IsLeader p t) → ((q : ℕ) → place_taken_by at i ≡ Some q → is_start p q ≡ true → Leads p (At q)) → IfSome (named_by i) (λ a. is_start p a ≡ true) → Names (Leads p) i
  names_lead at (Lxi q (Number w)) goes holds start = tt
  names_lead at (Lxi q (Code a)) goes holds start = holds a refl start
  names_lead at (Jmp (At t)) goes holds start = (goes t refl, start)
  names_lead at (Jmp Boot) goes holds start = tt
  names_lead at (Jmp Bdos) goes holds start = tt
  names_lead at (Jif c (At t)) goes holds start = (goes t refl, start)
  names_lead at (Jif c Boot) goes holds start = tt
  names_lead at (Jif c Bdos) goes holds start = tt
  names_lead at (Call (At t)) goes holds start = (goes t refl, start)
  names_lead at (Call Boot) goes holds start = tt
  names_lead at (Call Bdos) goes holds start = tt
  names_lead at (Cif c (At t)) goes holds start = (goes t refl, start)
  names_lead at (Cif c Boot) goes holds start = tt
  names_lead at (Cif c Bdos) goes holds start = tt
  names_lead at i goes holds start = tt

  all_known : (from : ℕ) (xs : List Placed) → Instrs from xs → NameStarts p xs → AreCoded xs → AreKnown (Leads p) xs
  all_known from [] f named coded = tt
  all_known from (x ∷ xs) f named coded = (
    (
      coded.0,
      names_lead x.at x.instr
          (λ t goes. cut.target x.at t x.instr (instr_here from x xs f) goes)
          (λ q holds start. taken_leads q start (either_takes q (or_left (is_among (filter_map place_placed p.instrs) q) (is_among (filter_map place_in_cell p.cells) q) (f.takes q (among_some (place_placed x) (filter_map place_placed xs) q holds)))))
          named.0,
    ),
    all_known (x.at + length80 x.instr) xs (instrs_rest from x xs f) named.1 coded.1,
  )

  -- all instructions name such places
  pub program_known : AreKnown (Leads p) p.instrs
  program_known = all_known 0x100 p.instrs (record { laid = is.instrs; sees = λ a le. refl; takes = λ q h. h }) is.named is.coded
