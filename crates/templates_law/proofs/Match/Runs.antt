-- The blocks of a program as lists of its instructions: those of a block stand one right behind the other, and behind them the
-- instructions of the blocks that follow.
use Rattle.std.proofs.Common.{◌≡◌, ◌≢◌, ℕ, zero, suc, ◌+◌, ◌-◌, ◌<◌, ◌≤◌, ◌==◌, true, false, cond, List, [], ◌∷◌, ◌++◌, length, Some, refl, sym, ap, subst, ◌∙◌, arith, append_assoc}
use Rattle.std.specs.Prelude.{map}
use Rattle.std.specs.List.{list_any}
use Rattle.std.proofs.lemmas.Bool.{or_right, or_from}
use Rattle.i80.specs.declared.Instr80.{Instr80}
use Rattle.i80.specs.Columns.{length80, ends80, is_well_formed}
use Rattle.asm86_line_types.specs.declared.line.Label.TheVariants.{At}
use Rattle.asm80_types.specs.declared.program.Placed.{Placed}
use Rattle.asm80_types.specs.Program.{Program, IsProgram, IsCoded, AreCoded, AreLaid, placed_in, instr_at, instr_of_placed}
use Rattle.asm80_types.proofs.Lookup.{length80-positive}
use Rattle.flow.specs.Blocks.{cut_from, leader_of, end_of, IsBlockOf}
use Rattle.flow.proofs.Cuts.{flat, flat-cut, block, Joined, joined_block, sized_block}
use Rattle.flow.proofs.Straight.{uncut}
use Rattle.flow.proofs.Extents.{numbered}
use Rattle.sym_block_def.specs.Block80.{instrs_from, before_more, address_after_all, addresses_from}
use Rattle.sym_block_def.specs.Walk86.{Surroundings, is_passed}
use Rattle.templates_law.proofs.Match.Terms.{or_first}
use Rattle.templates_law.proofs.Match.PlainStanding.{same_number, other_number, not_here}

-- an instruction of a program
pub record IsOf (p : Program) (x : Placed) : Type 0 where
  pub found : placed_in p.instrs x.at ≡ Some x
  pub form : is_well_formed x.instr ≡ true
  pub coded : IsCoded x.instr

abbrev pub AreOf : Program → List Placed → Type 0
AreOf p [] = Unit {0}
AreOf p (x ∷ xs) = IsOf p x × AreOf p xs

pub instr_is : (p : Program) (x : Placed) → IsOf p x → instr_at p x.at ≡ Some x.instr
instr_is p x is = ap instr_of_placed is.found

-- the instructions from an address up, where those at these addresses are looked for among them alone
these_are : (p : Program) (ys : List Placed) (from limit : ℕ) → ((a : ℕ) → from ≤ a → placed_in p.instrs a ≡ placed_in ys a) → AreLaid from limit ys → AreCoded ys → AreOf p ys
these_are p [] from limit same laid coded = tt
these_are p (y ∷ ys) from limit same laid coded = (record { found = same y.at laid.0 ∙ ap (λ t. cond t (Some y) (placed_in ys y.at)) (same_number y.at); form = laid.2; coded = coded.0 }, these_are p ys (end_of y) limit past laid.3 coded.1)
  where
    past : (a : ℕ) → end_of y ≤ a → placed_in p.instrs a ≡ placed_in ys a
    past a le =
        let some = length80-positive y.instr in
        let up = laid.0 in
        let ne : y.at ≢ a = omega (arith, some, le) in
        same a (omega (arith, some, up, le)) ∙ not_here y ys a ne

pub all_are : (p : Program) → IsProgram p → AreOf p p.instrs
all_are p good = these_are p p.instrs 0x100 (p.top - 2) (λ a le. refl) good.instrs good.coded

are_rest : (p : Program) (xs ys : List Placed) → AreOf p (xs ++ ys) → AreOf p ys
are_rest p [] ys are = are
are_rest p (x ∷ xs) ys are = are_rest p xs ys are.1

are_front : (p : Program) (xs ys : List Placed) → AreOf p (xs ++ ys) → AreOf p xs
are_front p [] ys are = tt
are_front p (x ∷ xs) ys are = (are.0, are_front p xs ys are.1)

-- the address behind instructions
abbrev pub end_from : ℕ → List Placed → ℕ
end_from from [] = from
end_from from (x ∷ xs) = end_from (end_of x) xs

pub laid_rest : (xs ys : List Placed) (from limit : ℕ) → AreLaid from limit (xs ++ ys) → AreLaid (end_from from xs) limit ys
laid_rest [] ys from limit laid = laid
laid_rest (x ∷ xs) ys from limit laid = laid_rest xs ys (end_of x) limit laid.3

pub laid_front : (xs ys : List Placed) (from limit : ℕ) → AreLaid from limit (xs ++ ys) → AreLaid from limit xs
laid_front [] ys from limit laid = tt
laid_front (x ∷ xs) ys from limit laid = (laid.0, laid.1, laid.2, laid_front xs ys (end_of x) limit laid.3)

pub laid_up : (xs : List Placed) (from limit : ℕ) → AreLaid from limit xs → from ≤ end_from from xs
laid_up [] from limit laid = omega arith
laid_up (x ∷ xs) from limit laid =
    let up = laid_up xs (end_of x) limit laid.3 in
    let le = laid.0 in
    omega (arith, up, le)

-- an address behind the first of them is looked for among the rest
pub placed_past : (xs ys : List Placed) (from limit a : ℕ) → AreLaid from limit (xs ++ ys) → end_from from xs ≤ a → placed_in (xs ++ ys) a ≡ placed_in ys a
placed_past [] ys from limit a laid le = refl
placed_past (x ∷ xs) ys from limit a laid le =
    let some = length80-positive x.instr in
    let up = laid_up xs (end_of x) limit (laid_front xs ys (end_of x) limit laid.3) in
    let ne : x.at ≢ a = omega (arith, some, up, le) in
    not_here x (xs ++ ys) a ne ∙ placed_past xs ys (end_of x) limit a laid.3 le

-- instructions one right behind the other, of which the last alone may end a block
abbrev pub IsRun : List Placed → Type 0
IsRun [] = Unit {0}
IsRun (x ∷ []) = Unit {0}
IsRun (x ∷ (y ∷ ys)) = (ends80 x.instr ≡ false) × (end_of x ≡ y.at) × IsRun (y ∷ ys)

joined_run : (p : Program) (xs : List Placed) → Joined p xs → IsRun xs
joined_run p [] j = tt
joined_run p (x ∷ []) j = tt
joined_run p (x ∷ (y ∷ ys)) j = let u = uncut p x y j.0 in (u.0, u.1, joined_run p (y ∷ ys) j.1)

abbrev pub instrs_of : List Placed → List Instr80
instrs_of xs = map (λ (x : Placed). x.instr) xs

abbrev pub places_of : List Placed → List ℕ
places_of xs = map (λ (x : Placed). x.at) xs

pub run_instrs : (p : Program) (x : Placed) (xs : List Placed) → IsRun (x ∷ xs) → AreOf p (x ∷ xs) → instrs_from p x.at (suc (length xs)) ≡ x.instr ∷ instrs_of xs
run_instrs p x [] run are = ap (λ o. before_more o (λ i. i ∷ [])) (instr_is p x are.0)
run_instrs p x (y ∷ ys) run are =
    ap (λ o. before_more o (λ i. i ∷ instrs_from p (x.at + length80 i) (suc (length ys)))) (instr_is p x are.0)
    ∙ ap (λ a. x.instr ∷ instrs_from p a (suc (length ys))) run.1
    ∙ ap (λ is. x.instr ∷ is) (run_instrs p y ys run.2 are.1)

pub run_places : (x : Placed) (xs : List Placed) → IsRun (x ∷ xs) → addresses_from x.at (x.instr ∷ instrs_of xs) ≡ x.at ∷ places_of xs
run_places x [] run = refl
run_places x (y ∷ ys) run =
    ap (λ a. x.at ∷ addresses_from a (y.instr ∷ instrs_of ys)) run.1 ∙ ap (λ as'. x.at ∷ as') (run_places y ys run.2)

pub run_end : (x : Placed) (xs : List Placed) → IsRun (x ∷ xs) → address_after_all x.at (x.instr ∷ instrs_of xs) ≡ end_from (end_of x) xs
run_end x [] run = refl
run_end x (y ∷ ys) run = ap (λ a. address_after_all a (y.instr ∷ instrs_of ys)) run.1 ∙ run_end y ys run.2

-- the labels of instructions are passed
abbrev pub AllPassed : Surroundings → List Placed → Type 0
AllPassed w [] = Unit {0}
AllPassed w (x ∷ xs) = (is_passed w (At x.at) ≡ true) × AllPassed w xs

pub all_passed_by : (w : Surroundings) (xs : List Placed) → ((a : ℕ) → list_any (λ b. b == a) (places_of xs) ≡ true → is_passed w (At a) ≡ true) → AllPassed w xs
all_passed_by w [] f = tt
all_passed_by w (x ∷ xs) f = (
  f x.at (or_first (x.at == x.at) (list_any (λ b. b == x.at) (places_of xs)) (same_number x.at)),
  all_passed_by w xs (λ a h. f a (or_right (x.at == a) (list_any (λ b. b == a) (places_of xs)) h)),
)

-- an address behind instructions is that of none of them
pub none_behind : (xs : List Placed) (from limit a : ℕ) → AreLaid from limit xs → end_from from xs ≤ a → list_any (λ b. b == a) (places_of xs) ≡ false
none_behind [] from limit a laid le = refl
none_behind (x ∷ xs) from limit a laid le =
    let some = length80-positive x.instr in
    let up = laid_up xs (end_of x) limit laid.3 in
    let ne : x.at ≢ a = omega (arith, some, up, le) in
    or_from (x.at == a) (list_any (λ b. b == a) (places_of xs)) (other_number x.at a ne) (none_behind xs (end_of x) limit a laid.3 le)

-- a block among the blocks of a program

pub flat_both : (bs cs : List (List Placed)) → flat (bs ++ cs) ≡ flat bs ++ flat cs
flat_both [] cs = refl
flat_both (b ∷ bs) cs = ap (λ xs. b ++ xs) (flat_both bs cs) ∙ sym (append_assoc b (flat bs) (flat cs))

record Split (bs : List (List Placed)) (b : List Placed) : Type 0 where
  before : List (List Placed)
  after : List (List Placed)
  is : bs ≡ before ++ (b ∷ after)

split_at : (bs : List (List Placed)) (i : ℕ) → i < length bs → Split bs (block bs i)
split_at [] i lt = absurd (omega arith)
split_at (b ∷ bs) zero lt = record { before = []; after = bs; is = refl }
split_at (b ∷ bs) (suc i) lt =
    let s = split_at bs i (omega arith) in
    record { before = b ∷ s.before; after = s.after; is = ap (λ cs. b ∷ cs) s.is }

-- the block at an address: its first instruction, the others, and the blocks before and behind it
pub record BlockAt (p : Program) (a count : ℕ) : Type 0 where
  pub first : Placed
  pub inner : List Placed
  pub before : List (List Placed)
  pub after : List (List Placed)
  pub at : first.at ≡ a
  pub size : suc (length inner) ≡ count
  pub run : IsRun (first ∷ inner)
  pub cut : cut_from p 0 p.instrs ≡ before ++ ((first ∷ inner) ∷ after)

some_block : (p : Program) (a count : ℕ) (b : List Placed) → 0 < length b → leader_of b ≡ a → length b ≡ count → IsRun b → Split (cut_from p 0 p.instrs) b → BlockAt p a count
some_block p a count [] lt at size run s = absurd (omega arith)
some_block p a count (x ∷ xs) lt at size run s = record { first = x; inner = xs; before = s.before; after = s.after; at = at; size = size; run = run; cut = s.is }

pub block_is : (p : Program) (a count : ℕ) → IsBlockOf p a count → BlockAt p a count
block_is p a count h =
    let x = numbered p a count h in
    some_block p a count (block (cut_from p 0 p.instrs) x.number) (sized_block p p.instrs x.number x.within).0 x.leader x.count
    (joined_run p (block (cut_from p 0 p.instrs) x.number) (joined_block p 0 p.instrs x.number)) (split_at (cut_from p 0 p.instrs) x.number x.within)

-- all instructions: those before the block, its own, and those behind it
pub instrs_are : (p : Program) (a count : ℕ) (b : BlockAt p a count) → p.instrs ≡ flat b.before ++ ((b.first ∷ b.inner) ++ flat b.after)
instrs_are p a count b = sym (flat-cut p 0 p.instrs) ∙ ap flat b.cut ∙ flat_both b.before ((b.first ∷ b.inner) ∷ b.after)

pub block_are : (p : Program) (a count : ℕ) (b : BlockAt p a count) → IsProgram p → AreOf p (b.first ∷ b.inner)
block_are p a count b good =
    are_front p (b.first ∷ b.inner) (flat b.after) (are_rest p (flat b.before) ((b.first ∷ b.inner) ++ flat b.after) (subst (AreOf p) (instrs_are p a count b) (all_are p good)))
