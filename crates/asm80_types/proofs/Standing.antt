-- What a program says of each of its instructions and data.
use Rattle.std.proofs.Common.{◌≡◌, ℕ, ◌+◌, ◌-◌, ◌<◌, ◌≤◌, ◌==◌, Bool, true, false, cond, List, [], ◌∷◌, Option, Some, None, refl, ap, subst, ◌∙◌, arith}
use Rattle.std.specs.Prelude.{IfSome, filter_map, is_some}
use Rattle.std.specs.List.{list_any, cons_option}
use Rattle.std.proofs.lemmas.Bool.{eqb-true, eq-eqb, or_left, or_right}
use Rattle.std.proofs.lemmas.List.Folds.{list_any-append}
use Rattle.cells.specs.declared.Place.TheVariants.{At}
use Rattle.cells.specs.declared.Cell.{Cell}
use Rattle.cells.specs.declared.Cell.TheVariants.{Lo}
use Rattle.i80.specs.declared.Instr80.{Instr80}
use Rattle.i80.specs.Columns.{length80, is_well_formed}
use Rattle.asm80_types.specs.declared.program.Placed.{Placed}
use Rattle.asm80_types.specs.Program.{Program, IsProgram, placed_in, instr_of_placed, instr_at, is_start, is_top, cell_in, AreLaid, AreCoded, NameStarts, AreData, IsDatum, IsCoded, named_by}
use Rattle.asm80_types.specs.Taken.{takes, place_taken_by, place_placed, place_in_cell}

-- the instruction at an address
pub record IsPlaced (p : Program) (a : ℕ) (i : Instr80) : Type 0 where
  pub coded : IsCoded i
  pub well_formed : is_well_formed i ≡ true
  pub named : IfSome (named_by i) (λ b. is_start p b ≡ true)
  pub above : 0x100 ≤ a
  pub below : a + length80 i < 0x10000
  pub takes_place : (b : ℕ) → place_taken_by a i ≡ Some b → takes p b ≡ true

placed_same : (y x : Placed) → Some y ≡ Some x → y ≡ x
placed_same y x e = cc

instr_same : (y x : Instr80) → Some y ≡ Some x → y ≡ x
instr_same y x e = cc

number_same : (y x : ℕ) → Some y ≡ Some x → y ≡ x
number_same y x e = cc

cell_same : (y x : Cell) → Some y ≡ Some x → y ≡ x
cell_same y x e = cc

-- a place that one instruction takes is among those that are taken
front_is : (b : ℕ) (o : Option ℕ) (rest : List ℕ) → o ≡ Some b → list_any (λ c. c == b) (cons_option o rest) ≡ true
front_is b None rest e = absurd (cc)
front_is b (Some c) rest e = or_left (c == b) (list_any (λ c. c == b) rest) (eq-eqb c b (number_same c b e))

more_is : (b : ℕ) (o : Option ℕ) (rest : List ℕ) → list_any (λ c. c == b) rest ≡ true → list_any (λ c. c == b) (cons_option o rest) ≡ true
more_is b None rest e = e
more_is b (Some c) rest e = or_right (c == b) (list_any (λ c. c == b) rest) e

taken_by : (xs : List Placed) (x : Placed) (a b : ℕ) → placed_in xs a ≡ Some x → place_placed x ≡ Some b → list_any (λ c. c == b) (filter_map place_placed xs) ≡ true
taken_by [] x a b e h = absurd (cc)
taken_by (y ∷ ys) x a b e h = by_place (y.at == a) e (taken_by ys x a b)
  where
    by_place : (t : Bool) → cond t (Some y) (placed_in ys a) ≡ Some x → (placed_in ys a ≡ Some x → place_placed x ≡ Some b → list_any (λ c. c == b) (filter_map place_placed ys) ≡ true) → list_any (λ c. c == b) (filter_map place_placed (y ∷ ys)) ≡ true
    by_place true f later = front_is b (place_placed y) (filter_map place_placed ys) (ap place_placed (placed_same y x f) ∙ h)
    by_place false f later = more_is b (place_placed y) (filter_map place_placed ys) (later f h)

pub takes_by : (p : Program) (a b : ℕ) (x : Placed) → placed_in p.instrs a ≡ Some x → place_taken_by x.at x.instr ≡ Some b → takes p b ≡ true
takes_by p a b x e h =
    list_any-append (λ c. c == b) (filter_map place_placed p.instrs) (filter_map place_in_cell p.cells)
    ∙ or_left (list_any (λ c. c == b) (filter_map place_placed p.instrs)) (list_any (λ c. c == b) (filter_map place_in_cell p.cells)) (taken_by p.instrs x a b e h)

-- what a list of instructions says of each of its own
record InList (p : Program) (from limit a : ℕ) (x : Placed) : Type 0 where
  at : x.at ≡ a
  coded : IsCoded x.instr
  well_formed : is_well_formed x.instr ≡ true
  named : IfSome (named_by x.instr) (λ b. is_start p b ≡ true)
  above : from ≤ a
  below : x.at + length80 x.instr ≤ limit

in_list : (p : Program) (xs : List Placed) (from limit a : ℕ) (x : Placed) → AreLaid from limit xs → AreCoded xs → NameStarts p xs → placed_in xs a ≡ Some x → InList p from limit a x
in_list p [] from limit a x l c n e = absurd (cc)
in_list p (y ∷ ys) from limit a x l c n e = by_place (y.at == a) refl e (in_list p ys (y.at + length80 y.instr) limit a x l.3 c.1 n.1)
  where
    first : (y.at == a) ≡ true → InList p from limit a y
    first h = let same = eqb-true y.at a h in record { at = same; coded = c.0; well_formed = l.2; named = n.0; above = omega (arith, same, l.0); below = l.1 }

    by_place : (t : Bool) → (y.at == a) ≡ t → cond t (Some y) (placed_in ys a) ≡ Some x → (placed_in ys a ≡ Some x → InList p (y.at + length80 y.instr) limit a x) → InList p from limit a x
    by_place true h f later = subst (InList p from limit a) (placed_same y x f) (first h)
    by_place false h f later =
        let r = later f in
        record { at = r.at; coded = r.coded; well_formed = r.well_formed; named = r.named; above = omega (arith, r.above, l.0); below = r.below }

pub placed_is : (o : Option Placed) (i : Instr80) → instr_of_placed o ≡ Some i → (x : Placed) × (o ≡ Some x) × (x.instr ≡ i)
placed_is None i e = absurd (cc)
placed_is (Some x) i e = (x, refl, instr_same x.instr i e)

top_below : (t : ℕ) → is_top t ≡ true → t - 2 < 0x10000
top_below t e = grind (arith, e)

pub is_placed : (p : Program) (a : ℕ) (i : Instr80) → IsProgram p → instr_at p a ≡ Some i → IsPlaced p a i
is_placed p a i g e =
    let x = placed_is (placed_in p.instrs a) i e in
    let l = in_list p p.instrs 0x100 (p.top - 2) a x.0 g.instrs g.coded g.named x.1 in
    let laid : IsPlaced p a x.0.instr = record {
      coded = l.coded;
      well_formed = l.well_formed;
      named = l.named;
      above = l.above;
      below = omega (arith, l.below, l.at, top_below p.top g.top);
      takes_place = λ b h. takes_by p a b x.0 x.1 (ap (λ n. place_taken_by n x.0.instr) l.at ∙ h);
    } in
    subst (IsPlaced p a) x.2 laid

-- where an instruction starts, there is one
pub start_has : (o : Option Placed) → is_some o ≡ true → (x : Placed) × (o ≡ Some x)
start_has None e = absurd (cc)
start_has (Some x) e = (x, refl)

-- and where none does, there is none
pub no_instr : (o : Option Placed) → is_some o ≡ false → instr_of_placed o ≡ None
no_instr None h = refl
no_instr (Some x) h = absurd (cc)

-- an address at which an instruction starts
pub start_range : (p : Program) (a : ℕ) → IsProgram p → is_start p a ≡ true → (0x100 ≤ a) × (a < 0x10000)
start_range p a g e =
    let x = start_has (placed_in p.instrs a) e in
    let l = in_list p p.instrs 0x100 (p.top - 2) a x.0 g.instrs g.coded g.named x.1 in
    (l.above, omega (arith, l.below, l.at, top_below p.top g.top))

-- a place in a data cell is taken
pub held_taken : (cs : List (ℕ × Cell)) (a q : ℕ) → cell_in cs a ≡ Some (Lo (At q)) → list_any (λ b. b == q) (filter_map place_in_cell cs) ≡ true
held_taken [] a q h = absurd (cc)
held_taken (c ∷ cs) a q h = by_here (c.0 == a) h (held_taken cs a q)
  where
    by_here : (t : Bool) → cond t (Some c.1) (cell_in cs a) ≡ Some (Lo (At q)) → (cell_in cs a ≡ Some (Lo (At q)) → list_any (λ b. b == q) (filter_map place_in_cell cs) ≡ true) → list_any (λ b. b == q) (filter_map place_in_cell (c ∷ cs)) ≡ true
    by_here true g rest = front_is q (place_in_cell c) (filter_map place_in_cell cs) (ap (λ (v : Cell). place_in_cell (c.0, v)) (cell_same c.1 (Lo (At q)) g))
    by_here false g rest = more_is q (place_in_cell c) (filter_map place_in_cell cs) (rest g)

-- what a data cell is
pub datum_found : (p : Program) (a : ℕ) (v : Cell) (cs : List (ℕ × Cell)) → AreData p cs → cell_in cs a ≡ Some v → IsDatum p a v
datum_found p a v [] values found = absurd (cc)
datum_found p a v (c ∷ cs) values found = by_here (c.0 == a) refl found (datum_found p a v cs values.1)
  where
    by_here : (t : Bool) → (c.0 == a) ≡ t → cond t (Some c.1) (cell_in cs a) ≡ Some v → (cell_in cs a ≡ Some v → IsDatum p a v) → IsDatum p a v
    by_here true same g rest = subst (λ n. IsDatum p n v) (eqb-true c.0 a same) (subst (λ x. IsDatum p c.0 x) (cell_same c.1 v g) values.0)
    by_here false differs g rest = rest g
