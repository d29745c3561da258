-- The instructions of a block, by their addresses.
use Rattle.std.proofs.Common.{◌≡◌, ℕ, zero, suc, ◌<◌, false, ◌||◌, List, [], ◌∷◌, length, get_or, Some, refl, sym, ap, subst, ◌∙◌, arith}
use Rattle.std.specs.Prelude.{◌==◌, not}
use Rattle.std.proofs.lemmas.Bool.{or_parts, not-false, eqb-true}
use Rattle.i80.specs.Columns.{ends80}
use Rattle.asm80_types.specs.declared.program.Placed.{Placed}
use Rattle.asm80_types.specs.Program.{Program, instr_at}
use Rattle.flow.specs.Blocks.{is_cut, is_entered, end_of, leader_of, address_after_instruction, place_after, IsStraight}
use Rattle.flow.proofs.Cuts.{Joined}

-- where two are not cut, the first ends no block, and the second stands right behind it
pub uncut : (p : Program) (x y : Placed) → is_cut p x y ≡ false → (ends80 x.instr ≡ false) × (end_of x ≡ y.at)
uncut p x y h =
    let ends = or_parts (ends80 x.instr) (not (end_of x == y.at) || is_entered p y.at) h in
    let follows = or_parts (not (end_of x == y.at)) (is_entered p y.at) ends.1 in
    (ends.0, eqb-true (end_of x) y.at (not-false (end_of x == y.at) follows.0))

-- the instructions of a list are those of the program at their addresses
abbrev pub AreKnown : Program → List Placed → Type 0
AreKnown p b = (k : ℕ) (d : Placed) → k < length b → instr_at p (get_or b k d).at ≡ Some (get_or b k d).instr

rest_known : (p : Program) (x : Placed) (xs : List Placed) → AreKnown p (x ∷ xs) → AreKnown p xs
rest_known p x xs known k d lt = known (suc k) d (omega arith)

end_behind : (p : Program) (x : Placed) (xs : List Placed) → AreKnown p (x ∷ xs) → address_after_instruction x.at (instr_at p x.at) ≡ end_of x
end_behind p x xs known = ap (address_after_instruction x.at) (known 0 x (omega arith))

pub straight : (p : Program) (b : List Placed) → Joined p b → AreKnown p b → IsStraight p (leader_of b) (length b)
straight p [] j known = tt
straight p (x ∷ []) j known = (x.instr, known 0 x (omega arith), λ more. absurd (omega arith), tt)
straight p (x ∷ (y ∷ ys)) j known =
    let on = uncut p x y j.0 in
    (x.instr, known 0 x (omega arith), λ more. on.0, subst (λ a. IsStraight p a (length (y ∷ ys))) (sym on.1) (straight p (y ∷ ys) j.1 (rest_known p x (y ∷ ys) known)))

pub after_some : (p : Program) (b : List Placed) (k : ℕ) (d : Placed) → Joined p b → AreKnown p b → k < length b → place_after p (leader_of b) k ≡ (get_or b k d).at
after_some p [] k d j known lt = absurd (omega arith)
after_some p (x ∷ xs) zero d j known lt = refl
after_some p (x ∷ []) (suc k) d j known lt = absurd (omega arith)
after_some p (x ∷ (y ∷ ys)) (suc k) d j known lt =
    ap (λ a. place_after p a k) (end_behind p x (y ∷ ys) known ∙ (uncut p x y j.0).1) ∙ after_some p (y ∷ ys) k d j.1 (rest_known p x (y ∷ ys) known) (omega arith)

pub after_end : (p : Program) (b : List Placed) (k : ℕ) (d : Placed) → Joined p b → AreKnown p b → k < length b → place_after p (leader_of b) (suc k) ≡ end_of (get_or b k d)
after_end p [] k d j known lt = absurd (omega arith)
after_end p (x ∷ xs) zero d j known lt = end_behind p x xs known
after_end p (x ∷ []) (suc k) d j known lt = absurd (omega arith)
after_end p (x ∷ (y ∷ ys)) (suc k) d j known lt =
    ap (λ a. place_after p a (suc k)) (end_behind p x (y ∷ ys) known ∙ (uncut p x y j.0).1) ∙ after_end p (y ∷ ys) k d j.1 (rest_known p x (y ∷ ys) known) (omega arith)
