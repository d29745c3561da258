-- Items that break no rule of the layout make a program.
use Rattle.std.proofs.Common.{◌≡◌, ℕ, suc, ◌+◌, ◌-◌, ◌%◌, ◌<◌, ◌≤◌, ◌==◌, nat_lt, ◌&&◌, ◌||◌, Bool, true, false, cond, List, [], ◌∷◌, ◌++◌, length, get_or, find, All, Option, Some, None, is_some, is_none, IfSome, refl, sym, ap, ◌∙◌, arith}
use Rattle.std.specs.List.{list_any, filter_map, flat_map, cons_option}
use Rattle.std.specs.List.Sorted.{IsPermutation, IsNonDecreasingBy}
use Rattle.std.specs.Option.{option_to_list}
use Rattle.std.proofs.lemmas.Bool.{or_parts}
use Rattle.std.proofs.lemmas.Bool.Decides.{nat_tests}
use Rattle.std.proofs.lemmas.List.Elements.{All-nil, All-head, All-tail, All-cons, All-append, All-weaker}
use Rattle.std.proofs.lemmas.List.Folds.{list_any-append}
use Rattle.std.proofs.lemmas.List.Sorted.{All-permutation, list_any-IsPermutation, IsPermutation-sym}
use mathlib.Core.Bool.{or-true}
use Rattle.cells.specs.declared.Cell.{Cell}
use Rattle.cells.proofs.Options.{if_none}
use Rattle.i80.specs.declared.Instr80.{Instr80}
use Rattle.i80.specs.Columns.{length80, is_well_formed}
use Rattle.asm80_types.specs.declared.program.Placed.{Placed}
use Rattle.asm80_types.specs.Program.{Program, covers, placed_in, is_start, cell_at, named_by, AreLaid, CellsAreLaid, IsInstructionLaid, NameStarts, IsCoded, AreCoded, IsProgram, program_of}
use Rattle.asm80_types.proofs.Lookup.{top_range, length80-positive}
use Rattle.asm80_values.specs.Forms.{HoldsByte}
use Rattle.asm80_values.specs.declared.form.Form.{Form}
use Rattle.asm80_values.specs.declared.form.Form.TheVariants.{Nothing, Instruction, Data}
use Rattle.asm80_source_def.specs.declared.rule.AsmRule.TheVariants.{S1, S7}
use Rattle.asm80_source_def.specs.Items.{laid_from}
use Rattle.asm80_source_def.specs.Layout.{counted_from, is_filled}
use Rattle.asm80_values.specs.declared.item.Item.{Item}
use Rattle.asm80_values.specs.Items.{cells_of_item, overlap_from, stands_outside, form_breaks, breaks}
use Rattle.asm80_values.specs.Programs.{placed_by, placed_form, placed_item, data_form, data_item, is_instruction_form, starts_item, IsSoundForm, IsSound, NamesStart, AreHalved, OfForm, OfItem, NamesStarts, AreLawful}
use Rattle.asm80_values.proofs.Times.{one, covered_times, held_times, covered_moved, held_moved, held_append, covered_least, held_least, not_covered, between, filled_counted, held_laid}
use Rattle.asm80_values.proofs.Halves.{all_found, IsHalf, are_data, halved_weaker, laid_halves}

-- ---- in ascending order

-- instructions of which none covers a cell of another
lay : (xs : List Placed) (from limit : ℕ) → All (λ x. from ≤ x.at) xs → All (IsInstructionLaid 0x100 limit) xs → IsNonDecreasingBy (λ x. x.at) xs → ((a : ℕ) → covered_times a xs ≤ 1) → AreLaid from limit xs
lay [] from limit above laid rising times = tt
lay (x ∷ xs) from limit above laid rising times =
    let here : IsInstructionLaid 0x100 limit x = All-head (IsInstructionLaid 0x100 limit) x xs laid in
    let later : All (λ (y : Placed). x.at + length80 x.instr ≤ y.at) xs = λ k d lt.
    (let order : x.at ≤ (get_or xs k d).at = rising 0 (suc k) d (omega arith) (omega arith) in
    let few = times (get_or xs k d).at in
    let least = covered_least (get_or xs k d).at xs k d lt in
    let itself : covers (get_or xs k d) (get_or xs k d).at ≡ true = covers_itself (get_or xs k d) in
    let counted : one (covers x (get_or xs k d).at) + 1 ≤ 1 = omega (arith, rw itself at least) in
    let apart : covers x (get_or xs k d).at ≡ false = one_zero (covers x (get_or xs k d).at) (omega arith) in
    grind (arith, nat_tests)) in
    let tail : (a : ℕ) → covered_times a xs ≤ 1 = λ a. omega (arith, times a) in
    (All-head (λ (y : Placed). from ≤ y.at) x xs above, here.below, here.good, lay xs (x.at + length80 x.instr) limit later (All-tail (IsInstructionLaid 0x100 limit) x xs laid) (λ i j d le lt. rising (suc i) (suc j) d (omega arith) (omega arith)) tail)
  where
    covers_itself : (x : Placed) → covers x x.at ≡ true
    covers_itself x = let long = length80-positive x.instr in grind (arith, nat_tests)

    one_zero : (b : Bool) → one b ≡ 0 → b ≡ false
    one_zero true h = absurd (omega arith)
    one_zero false h = refl

-- data cells of which no two are one, and none is an instruction's
lay_cells :
    (instrs : List Placed) (cs : List (ℕ × Cell)) (from limit : ℕ) → All (λ c. from ≤ c.0) cs → All (λ c. c.0 < limit) cs → IsNonDecreasingBy (λ c. c.0) cs
    → ((a : ℕ) → covered_times a instrs + held_times a cs ≤ 1) → CellsAreLaid instrs from limit cs
lay_cells instrs [] from limit above below rising times = tt
lay_cells instrs (c ∷ cs) from limit above below rising times =
    let itself : (c.0 == c.0) ≡ true = grind (arith, nat_tests) in
    let here : covered_times c.0 instrs + (1 + held_times c.0 cs) ≤ 1 = rw itself at (times c.0) in
    let later : All (λ (d : ℕ × Cell). c.0 + 1 ≤ d.0) cs = λ k d lt.
    (let order : c.0 ≤ (get_or cs k d).0 = rising 0 (suc k) d (omega arith) (omega arith) in
    let least = held_least c.0 cs k d lt in
    let differs : ((get_or cs k d).0 == c.0) ≡ false = one_zero ((get_or cs k d).0 == c.0) (omega arith) in
    grind (arith, nat_tests)) in
    let tail : (a : ℕ) → covered_times a instrs + held_times a cs ≤ 1 = λ a. omega (arith, times a) in
    (All-head (λ (d : ℕ × Cell). from ≤ d.0) c cs above, All-head (λ (d : ℕ × Cell). d.0 < limit) c cs below, not_covered c.0 instrs (omega arith), lay_cells instrs cs (c.0 + 1) limit later (All-tail (λ (d : ℕ × Cell). d.0 < limit) c cs below) (λ i j d le lt. rising (suc i) (suc j) d (omega arith) (omega arith)) tail)
  where
    one_zero : (b : Bool) → one b ≡ 0 → b ≡ false
    one_zero true h = absurd (omega arith)
    one_zero false h = refl

-- ---- one item

-- an item with cells has them all in the area
pub within_by : (top at n : ℕ) → (nat_lt 0 n && (nat_lt at 0x100 || nat_lt ((top - 2) - at) n)) ≡ false → 0 < n → (0x100 ≤ at) × (at + n ≤ top - 2)
within_by top at n h some = (grind (arith, nat_tests), grind (arith, nat_tests))

cells_times : (top at n : ℕ) (cs : List Cell) → top ≤ 0xFF00 → length cs ≡ n → (0 < n → (0x100 ≤ at) × (at + n ≤ top - 2)) → (a : ℕ) → held_times a (laid_from at cs) ≤ one (is_filled (counted_from at n) a)
cells_times top at n [] low size within a = omega arith
cells_times top at n (c ∷ cs) low size within a =
    let area = within (omega arith) in
    let held : held_times a (laid_from at (c ∷ cs)) ≡ one (between at (length (c ∷ cs)) a) = held_laid at (c ∷ cs) a (omega arith) in
    let filled : is_filled (counted_from at n) a ≡ between at n a = filled_counted at n a (omega arith) in
    let same : one (between at (length (c ∷ cs)) a) ≡ one (between at n a) = ap (λ m. one (between at m a)) size in
    rw filled (omega (arith, held ∙ same))

form_times :
    (top at n line : ℕ) (f : Form) → top ≤ 0xFF00 → IsSoundForm n f → (0 < n → (0x100 ≤ at) × (at + n ≤ top - 2)) → (a : ℕ)
    → covered_times a (option_to_list (placed_form at line f)) + held_times a (laid_from at (data_form f)) ≤ one (is_filled (counted_from at n) a)
form_times top at n line Nothing low sound within a = omega arith
form_times top at n line (Instruction i) low sound within a = by_instr i.instr sound.1
  where
    by_instr : (o : Option Instr80) → IfSome o (λ x. (is_well_formed x ≡ true) × (length80 x ≡ n)) → covered_times a (option_to_list (placed_by at line o)) + 0 ≤ one (is_filled (counted_from at n) a)
    by_instr None h = omega arith
    by_instr (Some x) h =
        let long = length80-positive x in
        let size : length80 x ≡ n = h.1 in
        let area = within (omega arith) in
        let filled : is_filled (counted_from at n) a ≡ between at n a = filled_counted at n a (omega arith) in
        rw (filled, size) (omega arith)
form_times top at n line (Data d) low sound within a = omega (arith, cells_times top at n d.cells.items low sound within a)

-- the range of what it makes
form_laid :
    (top at n line : ℕ) (f : Form) → IsSoundForm n f → (0 < n → (0x100 ≤ at) × (at + n ≤ top - 2)) → IfSome (placed_form at line f) (λ x. IsInstructionLaid 0x100 (top - 2) x)
form_laid top at n line Nothing sound within = tt
form_laid top at n line (Instruction i) sound within = by_instr i.instr sound.1
  where
    by_instr : (o : Option Instr80) → IfSome o (λ x. (is_well_formed x ≡ true) × (length80 x ≡ n)) → IfSome (placed_by at line o) (λ x. IsInstructionLaid 0x100 (top - 2) x)
    by_instr None h = tt
    by_instr (Some x) h =
        let long = length80-positive x in
        let size : length80 x ≡ n = h.1 in
        let area = within (omega arith) in
        record { above = area.0; below = omega arith; good = h.0 }
form_laid top at n line (Data d) sound within = tt

laid_within : (limit at : ℕ) (cs : List Cell) → 0x100 ≤ at → at + length cs ≤ limit → limit ≤ 0x10000 → All (λ c. (0x100 ≤ c.0) × (c.0 < limit)) (laid_from at cs)
laid_within limit at [] low fits small = λ k d lt. absurd (omega arith)
laid_within limit at (c ∷ cs) low fits small =
    let here : at % 0x10000 ≡ at = omega arith in
    All-cons (λ (c : ℕ × Cell). (0x100 ≤ c.0) × (c.0 < limit)) (at % 0x10000, c) (laid_from (at + 1) cs) (omega arith, omega arith) (laid_within limit (at + 1) cs (omega arith) (omega arith) small)

cells_within :
    (top at n : ℕ) (cs : List Cell) → top ≤ 0xFF00 → length cs ≡ n → (0 < n → (0x100 ≤ at) × (at + n ≤ top - 2)) → All (λ c. (0x100 ≤ c.0) × (c.0 < top - 2)) (laid_from at cs)
cells_within top at n [] low size within = λ k d lt. absurd (omega arith)
cells_within top at n (c ∷ cs) low size within =
    let area = within (omega arith) in laid_within (top - 2) at (c ∷ cs) area.0 (omega arith) (omega arith)

form_within :
    (top at n : ℕ) (f : Form) → top ≤ 0xFF00 → IsSoundForm n f → (0 < n → (0x100 ≤ at) × (at + n ≤ top - 2)) → All (λ c. (0x100 ≤ c.0) × (c.0 < top - 2)) (laid_from at (data_form f))
form_within top at n Nothing low sound within = λ k d lt. absurd (omega arith)
form_within top at n (Instruction i) low sound within = λ k d lt. absurd (omega arith)
form_within top at n (Data d) low sound within = cells_within top at n d.cells.items low sound within

-- ---- all items

one-le : (b : Bool) → one b ≤ 1
one-le true = omega arith
one-le false = omega arith

one_or : (x y : Bool) → (x ≡ true → y ≡ false) → one (x || y) ≡ one x + one y
one_or true true h = absurd (let e : true ≡ false = h refl in cc)
one_or true false h = refl
one_or false y h = omega arith

apart_by : (filled cells : List ℕ) (b a : ℕ) → is_filled filled b ≡ false → (is_filled cells a ≡ true → is_filled filled a ≡ false) → (e : Bool) → (b == a) ≡ e → (e || is_filled cells a) ≡ true → is_filled filled a ≡ false
apart_by filled cells b a here rest true same h = let is : b ≡ a = grind (arith, nat_tests) in ap (is_filled filled) (sym is) ∙ here
apart_by filled cells b a here rest false differs h = rest h

-- of cells that are not filled, none is
apart_at : (filled cells : List ℕ) (a : ℕ) → list_any (is_filled filled) cells ≡ false → is_filled cells a ≡ true → is_filled filled a ≡ false
apart_at filled [] a apart h = absurd (cc)
apart_at filled (b ∷ cells) a apart h =
    let split : (is_filled filled b ≡ false) × (list_any (is_filled filled) cells ≡ false) = or_parts (is_filled filled b) (list_any (is_filled filled) cells) apart in
    apart_by filled cells b a split.0 (apart_at filled cells a split.1) (b == a) refl h

-- what holds of the value that there is
found-cons : {X : Type 0} (P : X → Type 0) (o : Option X) (xs : List X) → IfSome o P → All P xs → All P (cons_option o xs)
found-cons P None xs h rest = rest
found-cons P (Some x) xs h rest = All-cons P x xs h rest

module _ (top : ℕ) (low : top ≤ 0xFF00) where
  cov-cons : (a : ℕ) (o : Option Placed) (xs : List Placed) → covered_times a (cons_option o xs) ≡ covered_times a (option_to_list o) + covered_times a xs
  cov-cons a None xs = omega arith
  cov-cons a (Some x) xs = omega arith

  pub times :
      (is : List Item) (filled : List ℕ) → All IsSound is → overlap_from filled is ≡ None → find (breaks top S7) is ≡ None → (a : ℕ)
      → covered_times a (filter_map placed_item is) + held_times a (flat_map data_item is) + one (is_filled filled a) ≤ 1
  times [] filled sound apart within a = omega (arith, one-le (is_filled filled a))
  times (i ∷ is) filled sound apart within a =
      let split = if_none (list_any (is_filled filled) (cells_of_item i)) i (overlap_from (cells_of_item i ++ filled) is) apart in
      let area = if_none (stands_outside top i) i (find (breaks top S7) is) within in
      let rest = times is (cells_of_item i ++ filled) (All-tail IsSound i is sound) split.1 area.1 a in
      let mine = form_times top i.at i.size i.line i.form low (All-head IsSound i is sound) (within_by top i.at i.size area.0) a in
      let both : is_filled (cells_of_item i ++ filled) a ≡ (is_filled (cells_of_item i) a || is_filled filled a) = list_any-append (λ b. b == a) (cells_of_item i) filled in
      let counted : one (is_filled (cells_of_item i) a || is_filled filled a) ≡ one (is_filled (cells_of_item i) a) + one (is_filled filled a) = one_or (is_filled (cells_of_item i) a) (is_filled filled a) (apart_at filled (cells_of_item i) a split.0) in
      omega (arith, ap one both, cov-cons a (placed_item i) (filter_map placed_item is), held_append a (data_item i) (flat_map data_item is))

  all_laid : (is : List Item) → All IsSound is → find (breaks top S7) is ≡ None → All (IsInstructionLaid 0x100 (top - 2)) (filter_map placed_item is)
  all_laid [] sound within = λ k d lt. absurd (omega arith)
  all_laid (i ∷ is) sound within =
      let area = if_none (stands_outside top i) i (find (breaks top S7) is) within in
      found-cons (IsInstructionLaid 0x100 (top - 2)) (placed_item i) (filter_map placed_item is) (form_laid top i.at i.size i.line i.form (All-head IsSound i is sound) (within_by top i.at i.size area.0)) (all_laid is (All-tail IsSound i is sound) area.1)

  all_within : (is : List Item) → All IsSound is → find (breaks top S7) is ≡ None → All (λ c. (0x100 ≤ c.0) × (c.0 < top - 2)) (flat_map data_item is)
  all_within [] sound within = λ k d lt. absurd (omega arith)
  all_within (i ∷ is) sound within =
      let area = if_none (stands_outside top i) i (find (breaks top S7) is) within in
      All-append (λ (c : ℕ × Cell). (0x100 ≤ c.0) × (c.0 < top - 2)) (data_item i) (flat_map data_item is) (form_within top i.at i.size i.form low (All-head IsSound i is sound) (within_by top i.at i.size area.0)) (all_within is (All-tail IsSound i is sound) area.1)

-- ---- the first instruction

start_form :
    (at line n a : ℕ) (f : Form) → IsSoundForm n f → form_breaks S1 f ≡ false → (is_instruction_form f && (at == a)) ≡ true
    → list_any (λ (x : Placed). x.at == a) (option_to_list (placed_form at line f)) ≡ true
start_form at line n a Nothing sound native h = absurd (cc)
start_form at line n a (Instruction i) sound native h = by_instr i.instr (sym sound.0 ∙ native)
  where
    by_instr : (o : Option Instr80) → is_none o ≡ false → list_any (λ (x : Placed). x.at == a) (option_to_list (placed_by at line o)) ≡ true
    by_instr None some = absurd (cc)
    by_instr (Some x) some = rw h refl
start_form at line n a (Data d) sound native h = absurd (cc)

start_cons :
    (a : ℕ) (o : Option Placed) (xs : List Placed) (e rest : Bool) → (e ≡ true → list_any (λ (x : Placed). x.at == a) (option_to_list o) ≡ true)
    → (rest ≡ true → list_any (λ (x : Placed). x.at == a) xs ≡ true) → (e || rest) ≡ true → list_any (λ (x : Placed). x.at == a) (cons_option o xs) ≡ true
start_cons a None xs true rest here later h = absurd (let e = here refl in cc)
start_cons a None xs false rest here later h = later h
start_cons a (Some x) xs true rest here later h = start_head (x.at == a) (here refl)
  where
    start_head : (b : Bool) → (b || false) ≡ true → (b || list_any (λ (x : Placed). x.at == a) xs) ≡ true
    start_head true h = refl
    start_head false h = absurd (cc)
start_cons a (Some x) xs false rest here later h = rw (later h) (or-true (x.at == a))

start_all : (top a : ℕ) (is : List Item) → All IsSound is → find (breaks top S1) is ≡ None → list_any (starts_item a) is ≡ true → list_any (λ (x : Placed). x.at == a) (filter_map placed_item is) ≡ true
start_all top a [] sound native h = absurd (cc)
start_all top a (i ∷ is) sound native h =
    let split = if_none (form_breaks S1 i.form) i (find (breaks top S1) is) native in
    start_cons a (placed_item i) (filter_map placed_item is) (starts_item a i) (list_any (starts_item a) is)
    (start_form i.at i.line i.size a i.form (All-head IsSound i is sound) split.0)
    (start_all top a is (All-tail IsSound i is sound) split.1) h

found_by : (x : Placed) (xs : List Placed) (a : ℕ) → (list_any (λ (y : Placed). y.at == a) xs ≡ true → is_some (placed_in xs a) ≡ true) → (b : Bool) → (b || list_any (λ (y : Placed). y.at == a) xs) ≡ true → is_some (cond b (Some x) (placed_in xs a)) ≡ true
found_by x xs a rest true h = refl
found_by x xs a rest false h = rest h

start_found : (a : ℕ) (xs : List Placed) → list_any (λ (x : Placed). x.at == a) xs ≡ true → is_some (placed_in xs a) ≡ true
start_found a [] h = absurd (cc)
start_found a (x ∷ xs) h = found_by x xs a (start_found a xs) (x.at == a) h

-- ---- what holds of each item

placed_of : (P : Instr80 → Type 0) (Q : List Cell → Type 0) (at line : ℕ) (f : Form) → OfForm P Q f → IfSome (placed_form at line f) (λ (x : Placed). P x.instr)
placed_of P Q at line Nothing h = tt
placed_of P Q at line (Instruction i) h = by_instr i.instr h
  where
    by_instr : (o : Option Instr80) → IfSome o P → IfSome (placed_by at line o) (λ (x : Placed). P x.instr)
    by_instr None none = tt
    by_instr (Some x) holds = holds
placed_of P Q at line (Data d) h = tt

-- holds of each instruction
all_placed : (P : Instr80 → Type 0) (Q : List Cell → Type 0) (is : List Item) → All (OfItem P Q) is → All (λ (x : Placed). P x.instr) (filter_map placed_item is)
all_placed P Q [] h = All-nil (λ (x : Placed). P x.instr)
all_placed P Q (i ∷ is) h =
    found-cons (λ (x : Placed). P x.instr) (placed_item i) (filter_map placed_item is) (placed_of P Q i.at i.line i.form (All-head (OfItem P Q) i is h)) (all_placed P Q is (All-tail (OfItem P Q) i is h))

laid_bytes : (at : ℕ) (cs : List Cell) → All HoldsByte cs → All (λ (c : ℕ × Cell). HoldsByte c.1) (laid_from at cs)
laid_bytes at [] h = All-nil (λ (c : ℕ × Cell). HoldsByte c.1)
laid_bytes at (c ∷ cs) h = All-cons (λ (d : ℕ × Cell). HoldsByte d.1) (at % 0x10000, c) (laid_from (at + 1) cs) (All-head HoldsByte c cs h) (laid_bytes (at + 1) cs (All-tail HoldsByte c cs h))

form_bytes : (P : Instr80 → Type 0) (at : ℕ) (f : Form) → OfForm P (All HoldsByte) f → All (λ (c : ℕ × Cell). HoldsByte c.1) (laid_from at (data_form f))
form_bytes P at Nothing h = All-nil (λ (c : ℕ × Cell). HoldsByte c.1)
form_bytes P at (Instruction i) h = All-nil (λ (c : ℕ × Cell). HoldsByte c.1)
form_bytes P at (Data d) h = laid_bytes at d.cells.items h

-- the numbers in the data cells
all_bytes : (P : Instr80 → Type 0) (is : List Item) → All (OfItem P (All HoldsByte)) is → All (λ (c : ℕ × Cell). HoldsByte c.1) (flat_map data_item is)
all_bytes P [] h = All-nil (λ (c : ℕ × Cell). HoldsByte c.1)
all_bytes P (i ∷ is) h =
    All-append (λ (c : ℕ × Cell). HoldsByte c.1) (data_item i) (flat_map data_item is) (form_bytes P i.at i.form (All-head (OfItem P (All HoldsByte)) i is h)) (all_bytes P is (All-tail (OfItem P (All HoldsByte)) i is h))

-- the same for more addresses
names_weaker : (s t : ℕ → Bool) → ((a : ℕ) → s a ≡ true → t a ≡ true) → (f : Form) → OfForm (NamesStart s) (AreHalved s) f → OfForm (NamesStart t) (AreHalved t) f
names_weaker s t keep Nothing h = tt
names_weaker s t keep (Instruction i) h = by_instr i.instr h
  where
    by_name : (o : Option ℕ) → IfSome o (λ a. s a ≡ true) → IfSome o (λ a. t a ≡ true)
    by_name None none = tt
    by_name (Some a) starts = keep a starts

    by_instr : (o : Option Instr80) → IfSome o (NamesStart s) → IfSome o (NamesStart t)
    by_instr None none = tt
    by_instr (Some x) names = by_name (named_by x) names
names_weaker s t keep (Data d) h = halved_weaker s t keep d.cells.items h

front : {X : Type 0} (P : X → Type 0) (xs ys : List X) → All P (xs ++ ys) → All P xs
front P [] ys h = All-nil P
front P (x ∷ xs) ys h = All-cons P x xs (All-head P x (xs ++ ys) h) (front P xs ys (All-tail P x (xs ++ ys) h))

back : {X : Type 0} (P : X → Type 0) (xs ys : List X) → All P (xs ++ ys) → All P ys
back P [] ys h = h
back P (x ∷ xs) ys h = back P xs ys (All-tail P x (xs ++ ys) h)

module _ (p : Program) (top : ℕ) (low : top ≤ 0xFF00) where
  cells_halves :
      (at n : ℕ) (cs : List Cell) → length cs ≡ n → (0 < n → (0x100 ≤ at) × (at + n ≤ top - 2)) → AreHalved (is_start p) cs
      → All (λ (c : ℕ × Cell). cell_at p c.0 ≡ Some c.1) (laid_from at cs) → All (λ (c : ℕ × Cell). IsHalf p c.0 c.1) (laid_from at cs)
  cells_halves at n [] size within h found = All-nil (λ (c : ℕ × Cell). IsHalf p c.0 c.1)
  cells_halves at n (c ∷ cs) size within h found =
      let area = within (omega arith) in laid_halves p at (c ∷ cs) (omega arith) h found

  form_halves :
      (at n : ℕ) (f : Form) → IsSoundForm n f → (0 < n → (0x100 ≤ at) × (at + n ≤ top - 2)) → OfForm (NamesStart (is_start p)) (AreHalved (is_start p)) f
      → All (λ (c : ℕ × Cell). cell_at p c.0 ≡ Some c.1) (laid_from at (data_form f)) → All (λ (c : ℕ × Cell). IsHalf p c.0 c.1) (laid_from at (data_form f))
  form_halves at n Nothing sound within h found = All-nil (λ (c : ℕ × Cell). IsHalf p c.0 c.1)
  form_halves at n (Instruction i) sound within h found = All-nil (λ (c : ℕ × Cell). IsHalf p c.0 c.1)
  form_halves at n (Data d) sound within h found = cells_halves at n d.cells.items sound within h found

  -- the halves of the code addresses in the data cells
  all_halves :
      (is : List Item) → All IsSound is → find (breaks top S7) is ≡ None → All (NamesStarts (is_start p)) is
      → All (λ (c : ℕ × Cell). cell_at p c.0 ≡ Some c.1) (flat_map data_item is) → All (λ (c : ℕ × Cell). IsHalf p c.0 c.1) (flat_map data_item is)
  all_halves [] sound within named found = All-nil (λ (c : ℕ × Cell). IsHalf p c.0 c.1)
  all_halves (i ∷ is) sound within named found =
      let area = if_none (stands_outside top i) i (find (breaks top S7) is) within in
      All-append (λ (c : ℕ × Cell). IsHalf p c.0 c.1) (data_item i) (flat_map data_item is)
      (form_halves i.at i.size i.form (All-head IsSound i is sound) (within_by top i.at i.size area.0) (All-head (NamesStarts (is_start p)) i is named)
      (front (λ (c : ℕ × Cell). cell_at p c.0 ≡ Some c.1) (data_item i) (flat_map data_item is) found))
      (all_halves is (All-tail IsSound i is sound) area.1 (All-tail (NamesStarts (is_start p)) i is named) (back (λ (c : ℕ × Cell). cell_at p c.0 ≡ Some c.1) (data_item i) (flat_map data_item is) found))

-- ---- the program

coded : (xs : List Placed) → All (λ (x : Placed). IsCoded x.instr) xs → AreCoded xs
coded [] h = tt
coded (x ∷ xs) h = (All-head (λ (y : Placed). IsCoded y.instr) x xs h, coded xs (All-tail (λ (y : Placed). IsCoded y.instr) x xs h))

name_starts : (p : Program) (xs : List Placed) → All (λ (x : Placed). NamesStart (is_start p) x.instr) xs → NameStarts p xs
name_starts p [] h = tt
name_starts p (x ∷ xs) h = (All-head (λ (y : Placed). NamesStart (is_start p) y.instr) x xs h, name_starts p xs (All-tail (λ (y : Placed). NamesStart (is_start p) y.instr) x xs h))

pub program_laid :
    (top : ℕ) (is : List Item) (instrs : List Placed) (cells : List (ℕ × Cell)) → AreLawful top is
    → IsPermutation (filter_map placed_item is) instrs → IsNonDecreasingBy (λ x. x.at) instrs
    → IsPermutation (flat_map data_item is) cells → IsNonDecreasingBy (λ c. c.0) cells
    → IsProgram (program_of instrs cells top)
program_laid top is instrs cells lawful moved rising moved_cells rising_cells =
    let p : Program = program_of instrs cells top in
    let low : top ≤ 0xFF00 = (top_range top lawful.is_top).1 in
    let few : (a : ℕ) → covered_times a instrs + held_times a cells ≤ 1 = λ a.
    omega (arith, covered_moved a (filter_map placed_item is) instrs moved, held_moved a (flat_map data_item is) cells moved_cells, times top low is [] lawful.sound lawful.apart lawful.within a) in
    let laid : All (IsInstructionLaid 0x100 (top - 2)) instrs = All-permutation (IsInstructionLaid 0x100 (top - 2)) (filter_map placed_item is) instrs moved (all_laid top low is lawful.sound lawful.within) in
    let area : All (λ (c : ℕ × Cell). (0x100 ≤ c.0) × (c.0 < top - 2)) cells = All-permutation (λ (c : ℕ × Cell). (0x100 ≤ c.0) × (c.0 < top - 2)) (flat_map data_item is) cells moved_cells (all_within top low is lawful.sound lawful.within) in
    let starts : (a : ℕ) → list_any (starts_item a) is ≡ true → is_start p a ≡ true = λ a h.
    start_found a instrs (sym (list_any-IsPermutation (λ (x : Placed). x.at == a) (filter_map placed_item is) instrs moved) ∙ start_all top a is lawful.sound lawful.native h) in
    let named : All (NamesStarts (is_start p)) is = All-weaker (NamesStarts (λ a. list_any (starts_item a) is)) (NamesStarts (is_start p)) (λ i. names_weaker (λ a. list_any (starts_item a) is) (is_start p) starts i.form) is lawful.named in
    let found : All (λ (c : ℕ × Cell). cell_at p c.0 ≡ Some c.1) (flat_map data_item is) =
    All-permutation (λ (c : ℕ × Cell). cell_at p c.0 ≡ Some c.1) cells (flat_map data_item is) (IsPermutation-sym (flat_map data_item is) cells moved_cells) (all_found cells (λ a. omega (arith, few a))) in
    record {
      top = lawful.is_top;
      first = starts 0x100 lawful.start;
      instrs = lay instrs 0x100 (top - 2) (λ k d lt. (laid k d lt).above) laid rising (λ a. omega (arith, few a));
      named = name_starts p instrs (All-permutation (λ (x : Placed). NamesStart (is_start p) x.instr) (filter_map placed_item is) instrs moved (all_placed (NamesStart (is_start p)) (AreHalved (is_start p)) is named));
      coded = coded instrs (All-permutation (λ (x : Placed). IsCoded x.instr) (filter_map placed_item is) instrs moved (all_placed (λ x. IsCoded x) (All HoldsByte) is lawful.coded));
      cells = lay_cells instrs cells 0x100 (top - 2) (λ k d lt. (area k d lt).0) (λ k d lt. (area k d lt).1) rising_cells few;
      values = are_data p cells
          (All-permutation (λ (c : ℕ × Cell). HoldsByte c.1) (flat_map data_item is) cells moved_cells (all_bytes (λ x. IsCoded x) is lawful.coded))
          (All-permutation (λ (c : ℕ × Cell). IsHalf p c.0 c.1) (flat_map data_item is) cells moved_cells (all_halves p top low is lawful.sound lawful.within named found));
    }
