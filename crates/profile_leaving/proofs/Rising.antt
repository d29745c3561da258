-- The places of a program ascend: each is that of an instruction of its block, and the blocks, one after the other, are the instructions.
use Rattle.std.proofs.Common.{◌≡◌, ◌∙◌, ℕ, suc, ◌+◌, ◌-◌, ◌<◌, ◌≤◌, List, [], ◌∷◌, ◌++◌, length, get_or, map, Option, Some, None, refl, sym, ap, subst, arith, zero-add}
use Rattle.std.specs.Prelude.{is_some}
use Rattle.std.specs.List.{flat_map, cons_option}
use Rattle.std.proofs.lemmas.Bool.{false≢true}
use Rattle.i80.specs.declared.Instr80.{Instr80}
use Rattle.asm80_types.specs.declared.program.Placed.{Placed}
use Rattle.asm80_types.specs.Program.{Program, IsProgram, AreLaid, instr_at}
use Rattle.flow.specs.Blocks.{cut_from, extent, leader_of, place_after}
use Rattle.asm80_types.proofs.Lookup.{length80-positive}
use Rattle.flow.proofs.Cuts.{flat, flat-cut, offset, block, within_flat, at_flat, Joined, joined_block}
use Rattle.flow.proofs.Straight.{AreKnown, after_some}
use Rattle.flow.proofs.Wires.{placed_at}
use Rattle.profile_leaving.specs.declared.departure.Departure.{Departure}
use Rattle.profile_leaving.specs.Leaving.{known_function, leaving_where, leaving_at, leaving_from, leaving}
use Rattle.profile_leaving.specs.Left.{RisesFrom}
use Rattle.profile_leaving.proofs.Stepping.{listed_at}

-- from a lower address up too
lower : (low high : ℕ) (xs : List Departure) → low ≤ high → RisesFrom high xs → RisesFrom low xs
lower low high [] le h = tt
lower low high (x ∷ xs) le h = (omega (arith, le, h.0), h.1)

-- the place that is listed of an instruction of a block is that of the instruction
where_at : (p : Program) (at : ℕ) (function : Option ℕ) (o : Option Instr80) (x : Departure) → leaving_where p at function o ≡ Some x → at ≡ x.at
where_at p at function None x e = absurd (false≢true (ap is_some e))
where_at p at function (Some i) x e = listed_at p at function i x e

one_more : (low past : ℕ) (o : Option Departure) (xs : List Departure) → ((x : Departure) → o ≡ Some x → (low ≤ x.at) × (suc x.at ≤ past)) → low ≤ past → RisesFrom past xs → RisesFrom low (cons_option o xs)
one_more low past None xs is le h = lower low past xs le h
one_more low past (Some x) xs is le h = let here = is x refl in (here.0, lower (suc x.at) past xs here.1 h)

-- the instructions of a block that are left, and what comes after the block
module _ (p : Program) (first limit : ℕ) where
  in_block : (before low : ℕ) (ys rest : List Placed) (more : List Departure) → ((j : ℕ) (d : Placed) → j < length ys → place_after p first (before + j) ≡ (get_or ys j d).at) →
      AreLaid low limit (ys ++ rest) → ((from : ℕ) → AreLaid from limit rest → RisesFrom from more) → RisesFrom low (leaving_from p first before (length ys) ++ more)
  in_block before low [] rest more places laid go = go low laid
  in_block before low (y ∷ ys) rest more places laid go =
      let later : (j : ℕ) (d : Placed) → j < length ys → place_after p first (suc before + j) ≡ (get_or ys j d).at =
      λ j d lt. let same : suc before + j ≡ before + suc j = omega arith in ap (place_after p first) same ∙ places (suc j) d (omega (arith, lt)) in
      let here : place_after p first before ≡ y.at = ap (place_after p first) (sym (let same : before + 0 ≡ before = omega arith in same)) ∙ places 0 y (omega arith) in
      let past = length80-positive y.instr in
      appended (leaving_at p first before) (leaving_from p first (suc before) (length ys)) more
      (λ os. RisesFrom low os)
      (one_more low _ (leaving_at p first before) (leaving_from p first (suc before) (length ys) ++ more)
      (λ x e.
      let at = where_at p (place_after p first before) (known_function p first before) (instr_at p (place_after p first before)) x e in
      (omega (arith, at, here, laid.0), omega (arith, at, here, past)))
      (omega (arith, laid.0))
      (in_block (suc before) _ ys rest more later laid.3 go))
    where
      appended : (o : Option Departure) (xs ms : List Departure) (P : List Departure → Type 0) → P (cons_option o (xs ++ ms)) → P (cons_option o xs ++ ms)
      appended None xs ms P h = h
      appended (Some x) xs ms P h = h

-- blocks that are left
abbrev listed : Program → List (List Placed) → List Departure
listed p bs = flat_map (λ (b : ℕ × ℕ). leaving_from p b.0 0 b.1) (map extent bs)

in_blocks : (p : Program) (limit low : ℕ) (bs : List (List Placed)) → ((i : ℕ) → i < length bs → Joined p (block bs i) × AreKnown p (block bs i)) → AreLaid low limit (flat bs) → RisesFrom low (listed p bs)
in_blocks p limit low [] are laid = tt
in_blocks p limit low (b ∷ bs) are laid =
    let b_is = are 0 (omega arith) in
    in_block p (leader_of b) limit 0 low b (flat bs) (listed p bs)
    (λ j d lt. ap (place_after p (leader_of b)) (zero-add j) ∙ after_some p b j d b_is.0 b_is.1 lt)
    laid (λ from rest. in_blocks p limit from bs (λ i lt. are (suc i) (omega (arith, lt))) rest)

-- the instructions of a block are those of the program
module _ (p : Program) (is : IsProgram p) where
  abbrev cut : List (List Placed)
  cut = cut_from p 0 p.instrs

  known : (i : ℕ) → i < length cut → AreKnown p (block cut i)
  known i lti = λ k d ltk.
      let g = offset cut i + k in
      let lt : g < length p.instrs = subst (λ xs. g < length xs) (flat-cut p 0 p.instrs) (within_flat cut i k lti ltk) in
      let same : get_or p.instrs g d ≡ get_or (block cut i) k d = subst (λ xs. get_or xs g d ≡ get_or (block cut i) k d) (flat-cut p 0 p.instrs) (at_flat cut i k d lti ltk) in
      subst (λ (x : Placed). instr_at p x.at ≡ Some x.instr) same (placed_at p g d is lt)

  pub ascends : RisesFrom 0x100 (leaving p)
  ascends = in_blocks p (p.top - 2) 0x100 cut (λ i lt. (joined_block p 0 p.instrs i, known i lt)) (subst (AreLaid 0x100 (p.top - 2)) (sym (flat-cut p 0 p.instrs)) is.instrs)
