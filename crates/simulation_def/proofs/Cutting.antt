-- The blocks of a program as a cut.
use Rattle.std.proofs.Common.{◌≡◌, ◌∙◌, ℕ, zero, suc, ◌+◌, ◌<◌, ◌==◌, Bool, true, false, cond, List, [], ◌∷◌, length, get_or, Option, Some, None, refl, ap, subst, arith, inl, inr, ◌⊎◌}
use Rattle.std.specs.Prelude.{is_some, filter}
use Rattle.std.specs.List.{Contains}
use Rattle.std.proofs.lemmas.Bool.{eqb-true}
use Rattle.std.proofs.lemmas.Option.{same_Some}
use Rattle.cells.specs.declared.Part.{Part}
use Rattle.cells.specs.declared.Part.TheVariants.{A, B, C, D, E, H, L, S, Z, Ac, P, Cy}
use Rattle.cells.specs.declared.Place.TheVariants.{At}
use Rattle.cells.specs.Parts.{Parts, nothing, has}
use Rattle.i80.specs.declared.Instr80.{Instr80}
use Rattle.i80.specs.declared.Instr80.TheVariants.{Lxi}
use Rattle.i80.specs.declared.Word.TheVariants.{Code, Num}
use Rattle.i80.specs.Columns.{length80}
use Rattle.asm80_types.specs.declared.program.Placed.{Placed}
use Rattle.asm80_types.specs.Program.{Program, IsProgram, placed_in, instr_at, is_start, starts_of, named_by}
use Rattle.asm80_types.specs.Taken.{takes, taken_places}
use Rattle.flow.specs.Need.{NeedsAreClosed}
use Rattle.flow.specs.Blocks.{blocks, block_at, place_after, address_after_instruction, IsStraight, IsLeader, BlocksCut}
use Rattle.flow.specs.Blocks.{IsBlockOf}
use Rattle.flow.specs.Solving.{Needs, AreAllNeeds}
use Rattle.sym_block_def.specs.Block80.{MayRun, instrs_from, address_after_all}
use Rattle.simulation_def.specs.Linked.{HasBlock, IsFirstOf}
use Rattle.simulation_def.specs.Cuts.{IsCut, ReturnsKeep}
use Rattle.simulation_def.proofs.Names.{names_start, code_is_taken}
use Rattle.simulation_def.specs.Needed.{needed_by}

-- ---- blocks of a list

same_pair : (x y : ℕ × ℕ) → x ≡ y → (x.0 ≡ y.0) × (x.1 ≡ y.1)
same_pair x y e = (ap (λ (z : ℕ × ℕ). z.0) e, ap (λ (z : ℕ × ℕ). z.1) e)

-- a block that a list has stands in it
contained : (bs : List (ℕ × ℕ)) (first count : ℕ) → HasBlock bs first count → Contains bs (first, count)
contained [] first count h = absurd h
contained (b ∷ bs) first count (inl same) = (0, omega arith, λ i. (same.0 i, same.1 i))
contained (b ∷ bs) first count (inr later) = let k = contained bs first count later in (suc k.0, omega (arith, k.1), k.2)

has_block : (bs : List (ℕ × ℕ)) (first count : ℕ) → Contains bs (first, count) → HasBlock bs first count
has_block bs first count h = at_place bs h.0 h.1 h.2
  where
    at_place : (bs : List (ℕ × ℕ)) (k : ℕ) → k < length bs → get_or bs k (first, count) ≡ (first, count) → HasBlock bs first count
    at_place [] k lt e = absurd (omega arith)
    at_place (b ∷ bs) zero lt e = inl (same_pair b (first, count) e)
    at_place (b ∷ bs) (suc k) lt e = inr (at_place bs k (omega arith) e)

-- ---- places that are taken

among : (keep : ℕ → Bool) (xs : List Placed) (a : ℕ) → is_some (placed_in xs a) ≡ true → keep a ≡ true → Contains (filter keep (starts_of xs)) a
among keep [] a h k = absurd (cc)
among keep (x ∷ xs) a h k = by_here (x.at == a) refl h (λ g. among keep xs a g k)
  where
    later : (b : Bool) → Contains (filter keep (starts_of xs)) a → Contains (cond b (x.at ∷ filter keep (starts_of xs)) (filter keep (starts_of xs))) a
    later true c = (suc c.0, omega (arith, c.1), c.2)
    later false c = c

    here : (b : Bool) → b ≡ true → x.at ≡ a → Contains (cond b (x.at ∷ filter keep (starts_of xs)) (filter keep (starts_of xs))) a
    here true e same = (0, omega arith, same)
    here false e same = absurd (cc)

    by_here : (t : Bool) → (x.at == a) ≡ t → is_some (cond t (Some x) (placed_in xs a)) ≡ true → (is_some (placed_in xs a) ≡ true → Contains (filter keep (starts_of xs)) a) → Contains (cond (keep x.at) (x.at ∷ filter keep (starts_of xs)) (filter keep (starts_of xs))) a
    by_here true e g rest = here (keep x.at) (ap keep (eqb-true x.at a e) ∙ k) (eqb-true x.at a e)
    by_here false e g rest = later (keep x.at) (rest g)

pub taken_has : (p : Program) (a : ℕ) → is_start p a ≡ true → takes p a ≡ true → Contains (taken_places p) a
taken_has p a start t = among (takes p) p.instrs a start t

-- ---- the address behind a block

behind_block : (p : Program) (a n : ℕ) → IsStraight p a n → place_after p a n ≡ address_after_all a (instrs_from p a n)
behind_block p a zero h = refl
behind_block p a (suc n) h =
    ap (λ o. place_after p (address_after_instruction a o) n) h.1
    ∙ rw (h.1) (behind_block p (a + length80 h.0) n h.3)

-- ---- the cut

module _ (p : Program) (is : IsProgram p) (cut : BlocksCut p) (run : (a n : ℕ) → IsBlockOf p a n → MayRun p a n) where
  first_of : (a : ℕ) → IsLeader p a → IsFirstOf (blocks p) (At a)
  first_of a h = let b = cut.has_block a h in (b.0, has_block (blocks p) a b.0 b.1)

  -- an instruction names a target or loads a code address
  named : (at a : ℕ) (i : Instr80) → instr_at p at ≡ Some i → named_by i ≡ Some a → IsLeader p a
  named at a (Lxi pair (Code q)) h n =
      let start = names_start p p.instrs is.named at a (Lxi pair (Code q)) h n in
      let same : q ≡ a = same_Some q a n in
      cut.is_taken a (taken_has p a start (subst (λ b. takes p b ≡ true) same (code_is_taken p at q pair h)))
  named at a (Lxi pair (Num w)) h n = absurd (cc)
  named at a i h n = cut.target at a i h n

  pub blocks_cut : IsCut p (blocks p)
  blocks_cut = record {
    blocks = λ first count h. run first count (contained (blocks p) first count h);
    begins = first_of 0x100 cut.first;
    follows = λ first count h start.
        let b = contained (blocks p) first count h in
        let place = behind_block p first count (cut.straight first count b) in
        first_of (address_after_all first (instrs_from p first count)) (subst (IsLeader p) place (cut.behind_block first count b (ap (is_start p) place ∙ start)));
    named = λ at a i h n. first_of a (named at a i h n);
    taken = λ a start t. first_of a (cut.is_taken a (taken_has p a start t));
  }

-- ---- needs at a return

has_where : (o : Option ℕ) (x : Parts) (q : Part) → has (cond (is_some o) x nothing) q ≡ true → (has nothing q ≡ true) ⊎ (has x q ≡ true)
has_where None x q h = inl h
has_where (Some count) x q h = inr h

nothing_has : (q : Part) → has nothing q ≡ true → ⊥
nothing_has A h = cc
nothing_has B h = cc
nothing_has C h = cc
nothing_has D h = cc
nothing_has E h = cc
nothing_has H h = cc
nothing_has L h = cc
nothing_has S h = cc
nothing_has Z h = cc
nothing_has Ac h = cc
nothing_has P h = cc
nothing_has Cy h = cc

pub returns : (p : Program) (n : Needs) → NeedsAreClosed p → AreAllNeeds p n → ReturnsKeep p (needed_by p n)
returns p n closed are a q start t kept = by_block (has_where (block_at p a) (n.at a) q kept)
  where
    by_block : (has nothing q ≡ true) ⊎ (has (n.at a) q ≡ true) → has n.returned q ≡ true
    by_block (inl h) = absurd (nothing_has q h)
    by_block (inr h) = (are.returned q).1 (closed.returns a q (taken_has p a start t) ((are.at a q).0 h))
