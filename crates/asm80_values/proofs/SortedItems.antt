-- What is laid of items that stand in the order of their addresses stands in that order.
use Rattle.std.proofs.Common.{◌≡◌, ℕ, suc, ◌+◌, ◌-◌, ◌%◌, ◌<◌, ◌≤◌, Bool, true, false, List, [], ◌∷◌, ◌++◌, length, find, All, Option, Some, None, IfSome, refl, sym, ap, subst, ◌∙◌, arith, true≢false}
use Rattle.std.specs.List.{filter_map, flat_map, cons_option}
use Rattle.std.specs.List.Sorted.{IsPermutation, IsNonDecreasingBy}
use Rattle.std.proofs.lemmas.Bool.Decides.{nat_tests}
use Rattle.std.proofs.lemmas.List.Elements.{All-head, All-tail, All-cons}
use Rattle.std.proofs.lemmas.List.Sorted.{All-permutation}
use Rattle.cells.specs.declared.Cell.{Cell}
use Rattle.cells.proofs.Options.{if_none}
use Rattle.i80.specs.declared.Instr80.{Instr80}
use Rattle.asm80_types.specs.declared.program.Placed.{Placed}
use Rattle.asm80_types.specs.Program.{IsProgram, program_of}
use Rattle.asm80_types.proofs.Lookup.{top_range}
use Rattle.asm80_source_def.specs.declared.rule.AsmRule.TheVariants.{S7}
use Rattle.asm80_source_def.specs.Items.{laid_from}
use Rattle.asm80_values.specs.declared.form.Form.{Form}
use Rattle.asm80_values.specs.declared.form.Form.TheVariants.{Nothing, Instruction, Data}
use Rattle.asm80_values.specs.declared.item.Item.{Item}
use Rattle.asm80_values.specs.Items.{stands_outside, breaks}
use Rattle.asm80_values.specs.Programs.{placed_by, placed_form, placed_item, data_form, data_item, IsSoundForm, IsSound, AreLawful}
use Rattle.asm80_values.proofs.InOrder.{Rises, in_order}
use Rattle.asm80_values.proofs.Moved.{flat_moved, found_moved}
use Rattle.asm80_values.proofs.Placing.{within_by, times, program_laid}
use Rattle.asm80_values.proofs.Times.{one, held_times, held_moved, held_append, held_laid, between}

rises_from : {X : Type 0} (key : X → ℕ) (from to : ℕ) (xs : List X) → from ≤ to → Rises key to xs → Rises key from xs
rises_from key from to [] le h = tt
rises_from key from to (x ∷ xs) le h = (omega (arith, h.0), h.1)

-- ---- instructions

placed_at : (at line : ℕ) (f : Form) → IfSome (placed_form at line f) (λ x. x.at ≡ at)
placed_at at line Nothing = tt
placed_at at line (Instruction i) = by i.instr
  where
    by : (o : Option Instr80) → IfSome (placed_by at line o) (λ x. x.at ≡ at)
    by None = tt
    by (Some x) = refl
placed_at at line (Data d) = tt

-- the items behind the first one stand at its address or above it, and in order
above_first : (i : Item) (is : List Item) → IsNonDecreasingBy (λ (x : Item). x.at) (i ∷ is) → All (λ (x : Item). i.at ≤ x.at) is
above_first i is rising = λ k d lt. rising 0 (suc k) d (omega arith) (omega arith)

behind_first : (i : Item) (is : List Item) → IsNonDecreasingBy (λ (x : Item). x.at) (i ∷ is) → IsNonDecreasingBy (λ (x : Item). x.at) is
behind_first i is rising = λ j k d le lt. rising (suc j) (suc k) d (omega arith) (omega arith)

placed_rises : (from : ℕ) (is : List Item) → All (λ (x : Item). from ≤ x.at) is → IsNonDecreasingBy (λ (x : Item). x.at) is → Rises (λ (x : Placed). x.at) from (filter_map placed_item is)
placed_rises from [] above rising = tt
placed_rises from (i ∷ is) above rising =
    by (placed_item i) (placed_at i.at i.line i.form)
    (placed_rises from is (All-tail (λ (x : Item). from ≤ x.at) i is above) (behind_first i is rising))
    (placed_rises i.at is (above_first i is rising) (behind_first i is rising))
  where
    by : (o : Option Placed) → IfSome o (λ x. x.at ≡ i.at) → Rises (λ (x : Placed). x.at) from (filter_map placed_item is) → Rises (λ (x : Placed). x.at) i.at (filter_map placed_item is) → Rises (λ (x : Placed). x.at) from (cons_option o (filter_map placed_item is))
    by None at past behind = past
    by (Some x) at past behind =
        let le = All-head (λ (x : Item). from ≤ x.at) i is above in
        (omega (arith, le, at), subst (λ n. Rises (λ (y : Placed). y.at) n (filter_map placed_item is)) (sym at) behind)

placed_in_order : (is : List Item) → IsNonDecreasingBy (λ (x : Item). x.at) is → IsNonDecreasingBy (λ (x : Placed). x.at) (filter_map placed_item is)
placed_in_order is rising = in_order (λ (x : Placed). x.at) 0 (filter_map placed_item is) (placed_rises 0 is (λ k d lt. omega arith) rising)

-- ---- data cells

-- an item is sound, and all its cells are in the area
abbrev IsWithin : ℕ → Item → Type 0
IsWithin top i = IsSound i × (stands_outside top i ≡ false)

all_within : (top : ℕ) (is : List Item) → All IsSound is → find (breaks top S7) is ≡ None → All (IsWithin top) is
all_within top [] sound within = λ k d lt. absurd (omega arith)
all_within top (i ∷ is) sound within =
    let area = if_none (stands_outside top i) i (find (breaks top S7) is) within in
    All-cons (IsWithin top) i is (All-head IsSound i is sound, area.0) (all_within top is (All-tail IsSound i is sound) area.1)

data_size : (n : ℕ) (f : Form) → IsSoundForm n f → length (data_form f) ≤ n
data_size n Nothing sound = omega arith
data_size n (Instruction i) sound = omega arith
data_size n (Data d) sound = omega (arith, sound)

laid_rises : (from at : ℕ) (cs : List Cell) (rest : List (ℕ × Cell)) → from ≤ at → at + length cs ≤ 0x10000 → Rises (λ (c : ℕ × Cell). c.0) (at + length cs) rest → Rises (λ (c : ℕ × Cell). c.0) from (laid_from at cs ++ rest)
laid_rises from at [] rest le fits h = rises_from (λ (c : ℕ × Cell). c.0) from (at + 0) rest (omega arith) h
laid_rises from at (c ∷ cs) rest le fits h =
    let here : at % 0x10000 ≡ at = omega arith in
    let same : at + suc (length cs) ≡ (at + 1) + length cs = omega arith in
    (omega arith, laid_rises (at % 0x10000) (at + 1) cs rest (omega arith) (omega arith) (subst (λ n. Rises (λ (d : ℕ × Cell). d.0) n rest) same h))

not_true : (b : Bool) → (b ≡ true → ⊥) → b ≡ false
not_true true h = absurd (h refl)
not_true false h = refl

-- each address is that of one cell at most
abbrev Once : List (ℕ × Cell) → Type 0
Once cells = (a : ℕ) → held_times a cells ≤ 1

-- no cell stands at one of so many addresses from one up
abbrev Free : ℕ → ℕ → List (ℕ × Cell) → Type 0
Free at n cells = (a : ℕ) → between at n a ≡ true → held_times a cells ≡ 0

module _ (top : ℕ) (low : top ≤ 0xFF00) where
  -- behind an item with so many cells from an address up, of which none is a later item's
  cells_rise :
      (at n : ℕ) (is : List Item) → All (IsWithin top) is → All (λ (x : Item). at ≤ x.at) is → IsNonDecreasingBy (λ (x : Item). x.at) is
      → Once (flat_map data_item is) → Free at n (flat_map data_item is)
      → Rises (λ (c : ℕ × Cell). c.0) (at + n) (flat_map data_item is)
  cells_rise at n [] within above rising once free = tt
  cells_rise at n (i ∷ is) within above rising once free =
      let here : IsSound i × (stands_outside top i ≡ false) = All-head (IsWithin top) i is within in
      by (cells_rise at n is (All-tail (IsWithin top) i is within) (All-tail (λ (x : Item). at ≤ x.at) i is above) (behind_first i is rising))
      (λ m. cells_rise i.at m is (All-tail (IsWithin top) i is within) (above_first i is rising) (behind_first i is rising))
      (data_form i.form) (data_size i.size i.form here.0) (within_by top i.at i.size here.1) once free
    where
      by : (Once (flat_map data_item is) → Free at n (flat_map data_item is) → Rises (λ (c : ℕ × Cell). c.0) (at + n) (flat_map data_item is))
          → ((m : ℕ) → Once (flat_map data_item is) → Free i.at m (flat_map data_item is) → Rises (λ (c : ℕ × Cell). c.0) (i.at + m) (flat_map data_item is))
          → (cs : List Cell) → length cs ≤ i.size → (0 < i.size → (0x100 ≤ i.at) × (i.at + i.size ≤ top - 2))
          → Once (laid_from i.at cs ++ flat_map data_item is) → Free at n (laid_from i.at cs ++ flat_map data_item is)
          → Rises (λ (c : ℕ × Cell). c.0) (at + n) (laid_from i.at cs ++ flat_map data_item is)
      by past behind [] size area once free = past once free
      by past behind (c ∷ cs) size area once free =
          let inside = area (omega (arith, size)) in
          let fits : i.at + length (c ∷ cs) ≤ 0x10000 = omega (arith, inside.1, size, low) in
          let itself : between i.at (length (c ∷ cs)) i.at ≡ true = grind (arith, nat_tests) in
          let first : held_times i.at (laid_from i.at (c ∷ cs)) ≡ 1 = held_laid i.at (c ∷ cs) i.at fits ∙ ap one itself in
          let le : at ≤ i.at = All-head (λ (x : Item). at ≤ x.at) i is above in
          let apart : between at n i.at ≡ false = not_true (between at n i.at) (λ h. let none = free i.at h in let sum = held_append i.at (laid_from i.at (c ∷ cs)) (flat_map data_item is) in absurd (omega (arith, none, sum, first))) in
          let beyond : at + n ≤ i.at = grind (arith, nat_tests) in
          laid_rises (at + n) i.at (c ∷ cs) (flat_map data_item is) beyond fits
          (behind (length (c ∷ cs))
          (λ a. omega (arith, once a, held_append a (laid_from i.at (c ∷ cs)) (flat_map data_item is)))
          (λ a h. omega (arith, once a, held_append a (laid_from i.at (c ∷ cs)) (flat_map data_item is), held_laid i.at (c ∷ cs) a fits ∙ ap one h)))

-- the data cells of items that break no rule of the layout, moved to the order of their addresses
cells_in_order : (top : ℕ) (is moved : List Item) → AreLawful top is → IsPermutation is moved → IsNonDecreasingBy (λ (x : Item). x.at) moved → IsNonDecreasingBy (λ (c : ℕ × Cell). c.0) (flat_map data_item moved)
cells_in_order top is moved lawful same rising =
    let low : top ≤ 0xFF00 = (top_range top lawful.is_top).1 in
    let within : All (IsWithin top) moved = All-permutation (IsWithin top) is moved same (all_within top is lawful.sound lawful.within) in
    let once : Once (flat_map data_item moved) = λ a.
    omega (arith, held_moved a (flat_map data_item is) (flat_map data_item moved) (flat_moved data_item is moved same), times top low is [] lawful.sound lawful.apart lawful.within a) in
    let free : Free 0 0 (flat_map data_item moved) = λ a h.
    (let none : between 0 0 a ≡ false = grind (arith, nat_tests) in absurd (true≢false (sym h ∙ none))) in
    in_order (λ (c : ℕ × Cell). c.0) 0 (flat_map data_item moved) (cells_rise top low 0 0 moved within (λ k d lt. omega arith) rising once free)

-- what is made of items that break no rule of the layout, moved to the order of their addresses, is a program of them
pub laid_in_order : (top : ℕ) (is moved : List Item) (placed : List Placed) (cells : List (ℕ × Cell)) → AreLawful top is → IsPermutation is moved → IsNonDecreasingBy (λ (x : Item). x.at) moved
    → placed ≡ filter_map placed_item moved → cells ≡ flat_map data_item moved
    → IsPermutation (filter_map placed_item is) placed × IsPermutation (flat_map data_item is) cells × IsProgram (program_of placed cells top)
laid_in_order top is moved placed cells lawful same rising are_placed are_cells =
    let of_items : IsPermutation (filter_map placed_item is) placed = subst (IsPermutation (filter_map placed_item is)) (sym are_placed) (found_moved placed_item is moved same) in
    let of_data : IsPermutation (flat_map data_item is) cells = subst (IsPermutation (flat_map data_item is)) (sym are_cells) (flat_moved data_item is moved same) in (
      of_items,
      of_data,
      program_laid top is placed cells lawful
          of_items (subst (IsNonDecreasingBy (λ (x : Placed). x.at)) (sym are_placed) (placed_in_order moved rising))
          of_data (subst (IsNonDecreasingBy (λ (c : ℕ × Cell). c.0)) (sym are_cells) (cells_in_order top is moved lawful same rising)),
    )
