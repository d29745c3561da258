-- Instructions and data cells of items, one more.
use Rattle.std.proofs.Common.{◌≡◌, ℕ, suc, ◌+◌, ◌%◌, ◌<◌, List, [], ◌∷◌, ◌++◌, length, get_or, take, map, Option, sym, ap, ◌∙◌, arith, add-zero, append-nil, append_assoc}
use Rattle.std.specs.List.{filter_map, flat_map}
use Rattle.std.specs.Option.{option_to_list}
use Rattle.std.proofs.lemmas.List.{take_more, length-take-le, map-append}
use Rattle.std.proofs.lemmas.List.Elements.{filter_map-append}
use Rattle.std.proofs.lemmas.List.Folds.{flat_map-map}
use Rattle.std.proofs.lemmas.Grind.{flat_map-append}
use Rattle.cells.specs.declared.Cell.{Cell}
use Rattle.cells.specs.declared.Cell.TheVariants.{Num}
use Rattle.asm80_types.proofs.Marks.{cons_option-one}
use Rattle.asm80_source_def.specs.Items.{numbers, laid_from}

pub found_more :
    {X Y : Type 0} (f : X → Option Y) (xs : List X) (i : ℕ) (x : X) (old new : List Y) → i < length xs → x ≡ get_or xs i x
    → old ≡ filter_map f (take i xs) → new ≡ old ++ option_to_list (f x) → new ≡ filter_map f (take (i + 1) xs)
found_more f xs i x old new lt is before step =
    rw (take_more xs i x lt, filter_map-append f (take i xs) (get_or xs i x ∷ []), ← is, cons_option-one (f x), ← before) step

laid_append : (at : ℕ) (xs : List Cell) (c : Cell) → laid_from at (xs ++ c ∷ []) ≡ laid_from at xs ++ ((at + length xs) % 0x10000, c) ∷ []
laid_append at [] c = ap (λ n. (n % 0x10000, c) ∷ []) (sym (add-zero at))
laid_append at (x ∷ xs) c =
    let e : at + 1 + length xs ≡ at + suc (length xs) = omega arith in
    ap (λ (ys : List (ℕ × Cell)). (at % 0x10000, x) ∷ ys) (laid_append (at + 1) xs c ∙ ap (λ n. laid_from (at + 1) xs ++ (n % 0x10000, c) ∷ []) e)

pub laid_more :
    (at : ℕ) (cs : List Cell) (k : ℕ) (d : Cell) (initial old new : List (ℕ × Cell)) (a : ℕ) → k < length cs → a ≡ (at + k) % 0x10000
    → old ≡ initial ++ laid_from at (take k cs) → new ≡ old ++ (a, get_or cs k d) ∷ [] → new ≡ initial ++ laid_from at (take (k + 1) cs)
laid_more at cs k d initial old new a lt here before step =
    let long : length (take k cs) ≡ k = length-take-le k cs (omega arith) in
    rw (take_more cs k d lt, laid_append at (take k cs) (get_or cs k d), long, ← here) (step ∙ ap (λ (xs : List (ℕ × Cell)). xs ++ (a, get_or cs k d) ∷ []) before ∙ append_assoc initial (laid_from at (take k cs)) ((a, get_or cs k d) ∷ []))

pub flat_more :
    {X Y : Type 0} (f : X → List Y) (xs : List X) (i : ℕ) (x : X) (old new : List Y) → i < length xs → x ≡ get_or xs i x
    → old ≡ flat_map f (take i xs) → new ≡ old ++ f x → new ≡ flat_map f (take (i + 1) xs)
flat_more f xs i x old new lt is before step =
    rw (take_more xs i x lt, flat_map-append f (take i xs) (get_or xs i x ∷ []), ← is, append-nil (f x), ← before) step

pub mapped_more :
    {X Y Z : Type 0} (f : Y → List Z) (g : X → Y) (xs : List X) (i : ℕ) (x : X) (old new : List Z) → i < length xs → x ≡ get_or xs i x
    → old ≡ flat_map f (map g (take i xs)) → new ≡ old ++ f (g x) → new ≡ flat_map f (map g (take (i + 1) xs))
mapped_more f g xs i x old new lt is before step =
    flat_more (λ y. f (g y)) xs i x old new lt is (before ∙ flat_map-map f g (take i xs)) step ∙ sym (flat_map-map f g (take (i + 1) xs))

pub numbers_more :
    (ns : List ℕ) (i d : ℕ) (initial old new : List Cell) → i < length ns
    → old ≡ initial ++ numbers (take i ns) → new ≡ old ++ Num (get_or ns i d) ∷ [] → new ≡ initial ++ numbers (take (i + 1) ns)
numbers_more ns i d initial old new lt before step =
    rw (take_more ns i d lt, map-append Num (take i ns) (get_or ns i d ∷ []))
    (step ∙ ap (λ (xs : List Cell). xs ++ Num (get_or ns i d) ∷ []) before ∙ append_assoc initial (numbers (take i ns)) (Num (get_or ns i d) ∷ []))
