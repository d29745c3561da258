-- A pair of instructions of which the one's SAHF and the next one's LAHF are left out: they are there to be left out.
use Rattle.std.proofs.Common.{◌≡◌, Bool, true, false, ◌&&◌, List, [], ◌∷◌, refl}
use Rattle.asm80_types.specs.declared.program.Placed.{Placed}
use Rattle.templates.specs.Style.{Style, ends_by_sahf, begins_by_lahf, is_pair}

pair_parts : (a b c : Bool) → (a && (b && c)) ≡ true → (b ≡ true) × (c ≡ true)
pair_parts true true true h = (refl, refl)
pair_parts true true false h = let no : false ≡ true = h in absurd cc
pair_parts true false c h = let no : false ≡ true = h in absurd cc
pair_parts false b c h = let no : false ≡ true = h in absurd cc

pub pair_last : (s : Style) (x : Placed) (xs : List Placed) → is_pair s x xs ≡ true → ends_by_sahf (s.saves x) x.instr ≡ true
pair_last s x [] h = let no : false ≡ true = h in absurd cc
pair_last s x (y ∷ ys) h = (pair_parts s.pairs (ends_by_sahf (s.saves x) x.instr) (begins_by_lahf (s.saves y) y.instr) h).0

-- where the first one's LAHF is left out, it has one
abbrev pub BeginsByLahf : Style → Bool → List Placed → Type 0
BeginsByLahf s first [] = Unit {0}
BeginsByLahf s first (x ∷ xs) = first ≡ true → begins_by_lahf (s.saves x) x.instr ≡ true

pub pair_next : (s : Style) (x : Placed) (xs : List Placed) → BeginsByLahf s (is_pair s x xs) xs
pair_next s x [] = tt
pair_next s x (y ∷ ys) = λ h. (pair_parts s.pairs (ends_by_sahf (s.saves x) x.instr) (begins_by_lahf (s.saves y) y.instr) h).1
