-- The addresses that are found so far.
use Rattle.std.proofs.Common.{◌≡◌, ℕ, ◌==◌, ◌+◌, ◌<◌, ◌||◌, Bool, true, false, List, [], ◌∷◌, length, get_or, take, Option, Some, None, refl, ap, ◌∙◌}
use Rattle.std.specs.List.{list_any, filter_map, cons_option}
use Rattle.std.specs.Option.{option_to_list}
use Rattle.std.proofs.Math.Bool.{or_assoc}
use Rattle.std.proofs.lemmas.List.{take_more}
use Rattle.std.proofs.lemmas.List.Elements.{filter_map-append}
use Rattle.std.proofs.lemmas.List.Folds.{list_any-append}
use Rattle.cells.specs.declared.Cell.{Cell}
use Rattle.asm80_types.specs.declared.program.Placed.{Placed}
use Rattle.asm80_types.specs.Taken.{place_placed, place_in_cell, is_taken_place}

pub cons_option-one : {X : Type 0} (o : Option X) → cons_option o [] ≡ option_to_list o
cons_option-one None = refl
cons_option-one (Some x) = refl

-- whether an address is among them: one address more
pub found_one : (here old : Bool) → (here || old) ≡ (old || (here || false))
found_one true true = refl
found_one true false = refl
found_one false true = refl
found_one false false = refl

-- one item more
pub found_more :
    {X : Type 0} (f : X → Option ℕ) (xs : List X) (i : ℕ) (d : X) (o : Option ℕ) (a : ℕ) (initial old new : Bool) → i < length xs → o ≡ f (get_or xs i d)
    → new ≡ (old || list_any (λ b. b == a) (option_to_list o))
    → old ≡ (initial || list_any (λ b. b == a) (filter_map f (take i xs)))
    → new ≡ (initial || list_any (λ b. b == a) (filter_map f (take (i + 1) xs)))
found_more f xs i d o a initial old new lt item step before =
    rw (take_more xs i d lt, filter_map-append f (take i xs) (get_or xs i d ∷ []), list_any-append (λ b. b == a), cons_option-one (f (get_or xs i d)), ← item, ← or_assoc initial, ← before) step

-- after both passes
pub found_all :
    (instrs : List Placed) (cells : List (ℕ × Cell)) (a : ℕ) (initial middle new : Bool) → initial ≡ false
    → middle ≡ (initial || list_any (λ b. b == a) (filter_map place_placed instrs))
    → new ≡ (middle || list_any (λ b. b == a) (filter_map place_in_cell cells))
    → new ≡ is_taken_place instrs cells a
found_all instrs cells a initial middle new clear first second =
    rw (list_any-append (λ b. b == a) (filter_map place_placed instrs)) (second ∙ ap (λ b. b || list_any (λ b. b == a) (filter_map place_in_cell cells)) (first ∙ ap (λ b. b || list_any (λ b. b == a) (filter_map place_placed instrs)) clear))
