-- Data cells as bytes from address 0 up.
use Rattle.std.proofs.Common.{◌≡◌, ℕ, ◌+◌, ◌<◌, ◌≤◌, cond, List, [], ◌∷◌, length, drop, get_or, replicate, set, max, refl, sym, ap, ◌∙◌, inl, inr, arith}
use Rattle.std.specs.Prelude.{slice_index}
use Rattle.std.specs.List.{All, fold}
use Rattle.std.proofs.Math.Path.{fun_ext}
use Rattle.std.proofs.lemmas.Bool.{cases_lt, cases_eq, eq-eqb, ne_eqb}
use Rattle.std.proofs.lemmas.List.{length-replicate, get_or-replicate, get_or_past, get_or-set_same, get_or-set_other}
use Rattle.std.proofs.lemmas.List.Elements.{All-nil, All-cons}
use Rattle.std.proofs.lemmas.List.FromFn.{fill_by_all, length-map-range_with_len, get_or-map-range_with_len}
use Rattle.dialogue.specs.ByteMemory.{put, put_cells}
use Rattle.dialogue.proofs.ByteMemory.{put_cells_more}
use Rattle.cmd_file.specs.Written.{zero_filled, end_with, data_end, data_bytes, command_file_of}
use Rattle.cmd_file.specs.Loaded.{loaded}

pub end_grows : (cells : List (ℕ × ℕ)) (end : ℕ) → end ≤ fold end_with end cells
end_grows [] end = omega arith
end_grows (c ∷ cells) end = let more = end_grows cells (max end (c.0 + 1)) in omega arith

cells_below_from : (cells : List (ℕ × ℕ)) (end : ℕ) → All (λ c. c.0 < fold end_with end cells) cells
cells_below_from [] end = All-nil (λ c. c.0 < end)
cells_below_from (c ∷ cells) end =
    let more = end_grows cells (max end (c.0 + 1)) in
    All-cons (λ d. d.0 < fold end_with (max end (c.0 + 1)) cells) c cells (omega arith) (cells_below_from cells (max end (c.0 + 1)))

pub cells_below : (cells : List (ℕ × ℕ)) → All (λ c. c.0 < data_end cells) cells
cells_below cells = cells_below_from cells 0x100

-- a byte written into a list is a cell put
pub set_is_put : (bytes : List ℕ) (a v : ℕ) → a < length bytes → slice_index (set bytes a v) ≡ put (slice_index bytes) a v
set_is_put bytes a v lt = fun_ext (λ b. elim (cases_eq b a) [
  | inl e ↦ ap (λ k. get_or (set bytes a v) k 0) e ∙ get_or-set_same bytes a v 0 lt ∙ sym (ap (λ t. cond t v (get_or bytes b 0)) (eq-eqb b a e))
  | inr ne ↦ get_or-set_other bytes a b v 0 ne ∙ sym (ap (λ t. cond t v (get_or bytes b 0)) (ne_eqb b a ne))
])

-- zeros are the memory before any cell is put
pub none_put : (cells : List (ℕ × ℕ)) (bytes : List ℕ) (n : ℕ) → bytes ≡ replicate n 0 → put_cells (slice_index bytes) (drop 0 cells) ≡ put_cells (λ a. 0) cells
none_put cells bytes n e = ap (λ m. put_cells m cells) (fun_ext (λ a. ap (λ (l : List ℕ). get_or l a 0) e ∙ zero_there n a))
  where
    zero_there : (n k : ℕ) → get_or {A = ℕ} (replicate n 0) k 0 ≡ 0
    zero_there n k = elim (cases_lt k n) [
      | inl lt ↦ get_or-replicate n k 0 0 lt
      | inr le ↦ get_or_past {X = ℕ} (replicate n 0) k 0 (omega (arith, le, length-replicate {A = ℕ} n 0))
    ]

-- one cell more
pub put_more : (cells : List (ℕ × ℕ)) (i : ℕ) (d : ℕ × ℕ) (bytes more : List ℕ) (memory : ℕ → ℕ) → i < length cells → (get_or cells i d).0 < length bytes → more ≡ set bytes (get_or cells i d).0 (get_or cells i d).1 → put_cells (slice_index bytes) (drop i cells) ≡ memory → put_cells (slice_index more) (drop (i + 1) cells) ≡ memory
put_more cells i d bytes more memory lt within is so_far =
    ap (λ (l : List ℕ). put_cells (slice_index l) (drop (i + 1) cells)) is
    ∙ put_cells_more (slice_index bytes) (slice_index (set bytes (get_or cells i d).0 (get_or cells i d).1)) cells i d lt (set_is_put bytes (get_or cells i d).0 (get_or cells i d).1 within)
    ∙ so_far

-- the bytes of all cells
pub all_put : (cells : List (ℕ × ℕ)) (bytes : List ℕ) → length bytes ≡ data_end cells → slice_index bytes ≡ put_cells (λ a. 0) cells → bytes ≡ data_bytes cells
unfolding data_bytes
all_put cells bytes long is = fill_by_all (put_cells (λ a. 0) cells) bytes (data_end cells) 0 long (λ k lt. ap (λ m. m k) is)

pub length-data_bytes : (cells : List (ℕ × ℕ)) → length (data_bytes cells) ≡ data_end cells
unfolding data_bytes
length-data_bytes cells = length-map-range_with_len (put_cells (λ a. 0) cells) 0 (data_end cells)

-- each byte is what the cells leave over zeros
pub data_byte : (cells : List (ℕ × ℕ)) (a : ℕ) → a < data_end cells → get_or (data_bytes cells) a 0 ≡ put_cells (λ b. 0) cells a
unfolding data_bytes
data_byte cells a lt = get_or-map-range_with_len (put_cells (λ b. 0) cells) 0 (data_end cells) a a 0 lt (omega arith)

-- ---- the data of an image without cells, and of one with a cell at 110H, which comes back

no_cells : length (zero_filled 16 (data_bytes [])) ≡ 256
unfolding data_bytes
no_cells = refl

one_cell : length (zero_filled 16 (data_bytes ((0x110, 5) ∷ []))) ≡ 288
unfolding data_bytes
one_cell = refl

cell_loaded : get_or (loaded (command_file_of (record { code = []; cells = (0x110, 5) ∷ []; labels = [] }))).cells 0x10 (0, 0) ≡ (0x110, 5)
unfolding data_bytes
cell_loaded = refl
