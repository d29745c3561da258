-- Memory at the start of what is loaded is that of the image over a fill with zeros where the data are.
use Rattle.std.proofs.Common.{◌≡◌, ◌≢◌, ℕ, zero, suc, ◌+◌, ◌-◌, ◌<◌, ◌≤◌, ◌==◌, nat_lt, nat_le, ◌&&◌, ◌⊎◌, cond, List, [], ◌∷◌, ◌++◌, length, take, drop, get_or, replicate, max, refl, sym, ap, ◌∙◌, inl, inr, arith, lit<}
use Rattle.std.specs.List.{All, enumerate_from, fold}
use Rattle.std.proofs.Math.Path.{fun_ext}
use Rattle.std.proofs.lemmas.Bool.{cases_lt, cases_Bool, le-ltb, and_right, eq-eqb, ne_eqb}
use Rattle.std.proofs.lemmas.List.{length-append, length-take-le, length-drop, length-replicate, get_or-take, get_or-drop, get_or_append_left, get_or-append_right, get_or-replicate, get_or_past}
use Rattle.std.proofs.lemmas.List.Elements.{All-append, All-take, All-drop, All-replicate, All-head, All-tail}
use Rattle.dialogue.specs.ByteMemory.{put, put_cells}
use Rattle.dialogue.specs.Fill.{IsFill}
use Rattle.cpu86.specs.Start.{start_byte}
use Rattle.cmd_file.specs.Written.{lacking, zero_filled, end_with, data_end, data_bytes}
use Rattle.cmd_file.proofs.Cells.{end_grows, cells_below, length-data_bytes, data_byte}
use Rattle.cmd_file.proofs.ImageCells.{InData}

-- ---- cells that are put

-- what is at an address after cells are put: one of theirs, or what was there
settled : (cells : List (ℕ × ℕ)) (a : ℕ) → ((v : ℕ) × ((m : ℕ → ℕ) → put_cells m cells a ≡ v)) ⊎ ((m : ℕ → ℕ) → put_cells m cells a ≡ m a)
settled [] a = inr (λ m. refl)
settled (c ∷ cells) a = elim (settled cells a) [
  | inl h ↦ inl (h.0, λ m. h.1 (put m c.0 c.1))
  | inr h ↦ elim (cases_Bool (a == c.0)) [
    | inl here ↦ inl (c.1, λ m. h (put m c.0 c.1) ∙ ap (λ t. cond t c.1 (m a)) here)
    | inr other ↦ inr (λ m. h (put m c.0 c.1) ∙ ap (λ t. cond t c.1 (m a)) other)
  ]
]

-- an address that no cell has
none_there : (cells : List (ℕ × ℕ)) (a : ℕ) → All (λ c. a ≢ c.0) cells → (m : ℕ → ℕ) → put_cells m cells a ≡ m a
none_there [] a h m = refl
none_there (c ∷ cells) a h m =
    none_there cells a (All-tail (λ d. a ≢ d.0) c cells h) (put m c.0 c.1)
    ∙ ap (λ t. cond t c.1 (m a)) (ne_eqb a c.0 (All-head (λ d. a ≢ d.0) c cells h))

-- bytes put one after the other, from an address up
put_below : (bytes : List ℕ) (at a : ℕ) (m : ℕ → ℕ) → a < at → put_cells m (enumerate_from at bytes) a ≡ m a
put_below [] at a m lt = refl
put_below (b ∷ bytes) at a m lt =
    put_below bytes (at + 1) a (put m at b) (omega (arith, lt))
    ∙ ap (λ t. cond t b (m a)) (let ne : a ≢ at = omega (arith, lt) in ne_eqb a at ne)

put_above : (bytes : List ℕ) (at a : ℕ) (m : ℕ → ℕ) → at + length bytes ≤ a → put_cells m (enumerate_from at bytes) a ≡ m a
put_above [] at a m le = refl
put_above (b ∷ bytes) at a m le =
    put_above bytes (at + 1) a (put m at b) (omega (arith, le))
    ∙ ap (λ t. cond t b (m a)) (let ne : a ≢ at = omega (arith, le) in ne_eqb a at ne)

put_within : (bytes : List ℕ) (at k : ℕ) (m : ℕ → ℕ) → k < length bytes → put_cells m (enumerate_from at bytes) (at + k) ≡ get_or bytes k 0
put_within [] at k m lt = absurd (omega (arith, lt))
put_within (b ∷ bytes) at zero m lt =
    put_below bytes (at + 1) (at + 0) (put m at b) (omega arith)
    ∙ ap (λ t. cond t b (m (at + 0))) (let e : at + 0 ≡ at = omega arith in eq-eqb (at + 0) at e)
put_within (b ∷ bytes) at (suc k) m lt =
    let e : at + suc k ≡ at + 1 + k = omega arith in
    ap (put_cells (put m at b) (enumerate_from (at + 1) bytes)) e ∙ put_within bytes (at + 1) k (put m at b) (omega (arith, lt))

-- ---- the data of an image

module _ (cells : List (ℕ × ℕ)) (in_data : All InData cells) where
  abbrev pub data_group : List ℕ
  data_group = zero_filled 16 (data_bytes cells)

  end_from : (cs : List (ℕ × ℕ)) (end : ℕ) → end ≤ 0x10000 → All InData cs → fold end_with end cs ≤ 0x10000
  end_from [] end le h = le
  end_from (c ∷ cs) end le h =
      let here = (All-head InData c cs h).1 in
      end_from cs (max end (c.0 + 1)) (omega (arith, le, here)) (All-tail InData c cs h)

  end_small : data_end cells ≤ 0x10000
  end_small = end_from cells 0x100 (omega arith) in_data

  end_large : 0x100 ≤ data_end cells
  end_large = end_grows cells 0x100

  length-data_group : length data_group ≡ data_end cells + lacking 16 (data_end cells)
  length-data_group =
      length-append (data_bytes cells) (replicate (lacking 16 (length (data_bytes cells))) 0)
      ∙ ap (λ n. length (data_bytes cells) + n) (length-replicate {A = ℕ} (lacking 16 (length (data_bytes cells))) 0)
      ∙ ap (λ n. n + lacking 16 n) (length-data_bytes cells)

  pub group_small : length data_group ≤ 0x10000
  group_small = omega (arith, length-data_group, end_small)

  group_large : 0x100 ≤ length data_group
  group_large = omega (arith, length-data_group, end_large)

  past_end : (a : ℕ) → data_end cells ≤ a → All (λ c. a ≢ c.0) cells
  past_end a le k d lt = let below = cells_below cells k d lt in omega (arith, le, below)

  below_data : (a : ℕ) → a < 0x100 → All (λ c. a ≢ c.0) cells
  below_data a lt k d within = let high = (in_data k d within).0 in omega (arith, lt, high)

  -- each byte of the data is what the cells leave over zeros
  data_is : (a : ℕ) → a < length data_group → get_or data_group a 0 ≡ put_cells (λ b. 0) cells a
  data_is a lt = elim (cases_lt a (data_end cells)) [
    | inl below ↦ get_or_append_left (data_bytes cells) _ 0 a (omega (arith, below, length-data_bytes cells)) ∙ data_byte cells a below
    | inr past ↦
        get_or-append_right (data_bytes cells) _ (data_end cells) a 0 (length-data_bytes cells) past
        ∙ zero_there (lacking 16 (length (data_bytes cells))) (a - data_end cells)
        ∙ sym (none_there cells a (past_end a past) (λ b. 0))
  ]
    where
      zero_there : (n k : ℕ) → get_or {A = ℕ} (replicate n 0) k 0 ≡ 0
      zero_there n k = elim (cases_lt k n) [
        | inl lt ↦ get_or-replicate n k 0 0 lt
        | inr le ↦ get_or_past {X = ℕ} (replicate n 0) k 0 (omega (arith, le, length-replicate {A = ℕ} n 0))
      ]

  module _ (fill page : List ℕ) (is_fill : IsFill fill) where
    abbrev middle : ℕ
    middle = length data_group - 0x100

    -- the fill with zeros where the data are
    abbrev pub cleared : List ℕ
    cleared = take 0x100 fill ++ (replicate middle 0 ++ drop (length data_group) fill)

    length-front : length (take 0x100 fill) ≡ 0x100
    length-front = length-take-le 0x100 fill (let size = is_fill.size in omega (arith, size))

    pub cleared_is_fill : IsFill cleared
    cleared_is_fill =
        let size = is_fill.size in
        record {
          size = omega (arith, size, length-append (take 0x100 fill) (replicate middle 0 ++ drop (length data_group) fill), length-front, length-append (replicate middle 0) (drop (length data_group) fill), length-replicate {A = ℕ} middle 0, length-drop (length data_group) fill, group_small, group_large);
          bytes = All-append (λ b. b < 256) (take 0x100 fill) _ (All-take (λ b. b < 256) 0x100 fill is_fill.bytes) (All-append (λ b. b < 256) (replicate middle 0) _ (All-replicate (λ b. b < 256) middle 0 (lit< tt)) (All-drop (λ b. b < 256) (length data_group) fill is_fill.bytes));
        }

    low_cleared : (a : ℕ) → a < 0x100 → get_or cleared a 0 ≡ get_or fill a 0
    low_cleared a lt = get_or_append_left (take 0x100 fill) _ 0 a (omega (arith, lt, length-front)) ∙ get_or-take 0x100 fill a 0 lt

    middle_cleared : (a : ℕ) → 0x100 ≤ a → a < length data_group → get_or cleared a 0 ≡ 0
    middle_cleared a low lt =
        let within : a - 0x100 < middle = omega (arith, low, lt) in
        get_or-append_right (take 0x100 fill) _ 0x100 a 0 length-front low
        ∙ get_or_append_left (replicate middle 0) _ 0 (a - 0x100) (omega (arith, within, length-replicate {A = ℕ} middle 0))
        ∙ get_or-replicate middle (a - 0x100) 0 0 within

    high_cleared : (a : ℕ) → length data_group ≤ a → get_or cleared a 0 ≡ get_or fill a 0
    high_cleared a le =
        let at : length data_group + (a - 0x100 - middle) ≡ a = omega (arith, le, group_large) in
        get_or-append_right (take 0x100 fill) _ 0x100 a 0 length-front (omega (arith, le, group_large))
        ∙ get_or-append_right (replicate middle 0) _ middle (a - 0x100) 0 (length-replicate middle 0) (omega (arith, le, group_large))
        ∙ get_or-drop (length data_group) fill (a - 0x100 - middle) 0
        ∙ ap (λ n. get_or fill n 0) at

    -- above the page the fill is seen
    above_page : (l : List ℕ) (a : ℕ) → 0x100 ≤ a → start_byte l page a ≡ get_or l a 0
    above_page l a le =
        ap (λ t. cond t (get_or page (a - 0x5C) 0) (get_or l a 0)) (and_right (nat_le 0x5C a) (nat_lt a 0x100) (le-ltb a 0x100 le))

    abbrev image_memory : ℕ → ℕ
    image_memory = put_cells (start_byte cleared page) cells

    abbrev loaded_memory : ℕ → ℕ
    loaded_memory = put_cells (start_byte fill page) (enumerate_from 0x100 (drop 0x100 data_group))

    length-cells : length (drop 0x100 data_group) ≡ middle
    length-cells = length-drop 0x100 data_group

    low_same : (a : ℕ) → a < 0x100 → image_memory a ≡ loaded_memory a
    low_same a lt =
        none_there cells a (below_data a lt) (start_byte cleared page)
        ∙ ap (cond (nat_le 0x5C a && nat_lt a 0x100) (get_or page (a - 0x5C) 0)) (low_cleared a lt)
        ∙ sym (put_below (drop 0x100 data_group) 0x100 a (start_byte fill page) lt)

    middle_same : (a : ℕ) → 0x100 ≤ a → a < length data_group → image_memory a ≡ loaded_memory a
    middle_same a low lt =
        let at : 0x100 + (a - 0x100) ≡ a = omega (arith, low) in
        let loaded : loaded_memory a ≡ put_cells (λ b. 0) cells a =
        ap loaded_memory (sym at)
        ∙ put_within (drop 0x100 data_group) 0x100 (a - 0x100) (start_byte fill page) (omega (arith, low, lt, length-cells))
        ∙ get_or-drop 0x100 data_group (a - 0x100) 0
        ∙ ap (λ n. get_or data_group n 0) at
        ∙ data_is a lt
        in
        elim (settled cells a) [
          | inl h ↦ h.1 (start_byte cleared page) ∙ sym (h.1 (λ b. 0)) ∙ sym loaded
          | inr h ↦ h (start_byte cleared page) ∙ above_page cleared a low ∙ middle_cleared a low lt ∙ sym (h (λ b. 0)) ∙ sym loaded
        ]

    high_same : (a : ℕ) → length data_group ≤ a → image_memory a ≡ loaded_memory a
    high_same a le =
        let high : 0x100 ≤ a = omega (arith, le, group_large) in
        none_there cells a (past_end a (omega (arith, le, length-data_group))) (start_byte cleared page)
        ∙ above_page cleared a high
        ∙ high_cleared a le
        ∙ sym (above_page fill a high)
        ∙ sym (put_above (drop 0x100 data_group) 0x100 a (start_byte fill page) (omega (arith, le, length-cells, group_large)))

    pub same_memory : image_memory ≡ loaded_memory
    same_memory = fun_ext (λ a. elim (cases_lt a 0x100) [
      | inl lt ↦ low_same a lt
      | inr le ↦ elim (cases_lt a (length data_group)) [ inl lt ↦ middle_same a le lt | inr past ↦ high_same a past ]
    ])
