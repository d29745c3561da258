-- Runs of adjacent cells, and the records that are written of them.
use Rattle.std.proofs.Common.{◌≡◌, ℕ, zero, suc, ◌+◌, ◌/◌, ◌%◌, ◌<◌, ◌≤◌, List, [], ◌∷◌, ◌++◌, length, take, drop, get_or, refl, sym, ap, ◌∙◌, subst, arith, append_assoc}
use Rattle.std.specs.List.{enumerate_from, flat_map, sum}
use Rattle.std.specs.Map.{values_of}
use Rattle.std.proofs.lemmas.List.{length-map, length-take-le, length-drop, take-append-drop, take_more, map-append, get_or-drop}
use Rattle.std.proofs.lemmas.List.FromFn.{length-enumerate_from}
use Rattle.hex_file.specs.Records.{Record, checked_bytes, record_bytes}
use Rattle.hex_file.specs.HexFile.{record_cells}
use Rattle.hex_file.specs.Written.{complement_of_sum, first_address, IsRecordOf, BeginsWithRun, AreRuns, none, run, record_line, end_line, IsWritten}

-- ---- bytes from an address on

pub enumerate_push : (a : ℕ) (bytes : List ℕ) (b : ℕ) → enumerate_from a (bytes ++ b ∷ []) ≡ enumerate_from a bytes ++ (a + length bytes, b) ∷ []
enumerate_push a [] b = let e : a ≡ a + 0 = omega arith in ap (λ n. (n, b) ∷ []) e
enumerate_push a (x ∷ bytes) b =
    let e : a + 1 + length bytes ≡ a + suc (length bytes) = omega arith in
    ap (λ cells. (a, x) ∷ cells) (enumerate_push (a + 1) bytes b ∙ ap (λ n. enumerate_from (a + 1) bytes ++ (n, b) ∷ []) e)

values_of-enumerate : (a : ℕ) (bytes : List ℕ) → values_of (enumerate_from a bytes) ≡ bytes
values_of-enumerate a [] = refl
values_of-enumerate a (b ∷ bytes) = ap (λ l. b ∷ l) (values_of-enumerate (a + 1) bytes)

-- ---- the cells from the front on

pub adjacent_first : (cells : List (ℕ × ℕ)) → take 1 cells ≡ enumerate_from (first_address cells) (values_of (take 1 cells))
adjacent_first [] = refl
adjacent_first (c ∷ cells) = refl

adjacent_push : (first : ℕ) (cells : List (ℕ × ℕ)) (c : ℕ × ℕ) → cells ≡ enumerate_from first (values_of cells) → c.0 ≡ first + length cells → cells ++ c ∷ [] ≡ enumerate_from first (values_of (cells ++ c ∷ []))
adjacent_push first cells c so_far next =
    let at : c.0 ≡ first + length (values_of cells) = next ∙ ap (λ n. first + n) (sym (length-map cells (λ (e : ℕ × ℕ). e.1))) in
    ap (λ l. l ++ c ∷ []) so_far
    ∙ ap (λ n. enumerate_from first (values_of cells) ++ (n, c.1) ∷ []) at
    ∙ sym (enumerate_push first (values_of cells) c.1)
    ∙ ap (enumerate_from first) (sym (map-append (λ (e : ℕ × ℕ). e.1) cells (c ∷ [])))

pub adjacent_more : (first : ℕ) (cells : List (ℕ × ℕ)) (i : ℕ) → i < length cells → (get_or cells i (0, 0)).0 ≡ first + i → take i cells ≡ enumerate_from first (values_of (take i cells)) → take (i + 1) cells ≡ enumerate_from first (values_of (take (i + 1) cells))
adjacent_more first cells i lt next so_far =
    subst (λ l. l ≡ enumerate_from first (values_of l)) (sym (take_more cells i (0, 0) lt))
    (adjacent_push first (take i cells) (get_or cells i (0, 0)) so_far (next ∙ ap (λ n. first + n) (sym (length-take-le i cells (omega (arith, lt))))))

-- the cell after the first n, if there is one
pub cell_after : (cells others : List (ℕ × ℕ)) (n at byte : ℕ) → drop n cells ≡ (at, byte) ∷ others → (n < length cells) × ((get_or cells n (0, 0)).0 ≡ at)
cell_after cells others n at byte e =
    let place : n + 0 ≡ n = omega arith in
    (omega (arith, length-drop n cells, ap length e), ap (λ k. (get_or cells k (0, 0)).0) (sym place) ∙ ap (λ c. c.0) (sym (get_or-drop n cells 0 (0, 0)) ∙ ap (λ l. get_or l 0 (0, 0)) e))

-- ---- the bytes of the record

pub first_of : (r : Record) → 0 < length (record_cells r) → first_address (record_cells r) ≡ r.address
first_of r some = of_data r.address r.data some
  where
    of_data : (a : ℕ) (bytes : List ℕ) → 0 < length (enumerate_from a bytes) → first_address (enumerate_from a bytes) ≡ a
    of_data a [] some = absurd (omega (arith, some))
    of_data a (b ∷ bytes) some = refl

abbrev pub head_of : List (ℕ × ℕ) → List ℕ → List ℕ
head_of cells bytes = length cells ∷ (first_address cells / 256 ∷ (first_address cells % 256 ∷ (0 ∷ bytes)))

pub checked_is : (cells : List (ℕ × ℕ)) (r : Record) → 0 < length cells → IsRecordOf cells r → head_of cells (values_of cells) ≡ checked_bytes r
checked_is cells r some is =
    let count : length cells ≡ length r.data = ap length is.cells ∙ length-enumerate_from r.address r.data in
    let bytes : values_of cells ≡ r.data = ap values_of is.cells ∙ values_of-enumerate r.address r.data in
    let first : first_address cells ≡ r.address = ap first_address is.cells ∙ first_of r (subst (λ l. 0 < length l) is.cells some) in
    λ i. count i ∷ (first i / 256 ∷ (first i % 256 ∷ (sym is.kind i ∷ bytes i)))

pub record_is : (cells : List (ℕ × ℕ)) (items : List ℕ) (check total : ℕ) → 0 < length cells → items ≡ head_of cells (values_of cells) → total ≡ sum items % 256 → (check + total) % 256 ≡ 0 → check < 256 → (r : Record) → IsRecordOf cells r → items ++ check ∷ [] ≡ record_bytes r
record_is cells items check total some spelt adds zero_sum small r is =
    let same : items ≡ checked_bytes r = spelt ∙ checked_is cells r some is in
    let complement : check ≡ complement_of_sum items = omega (arith, adds, zero_sum, small) in
    ap (λ b. items ++ b ∷ []) (complement ∙ ap complement_of_sum same ∙ sym is.check) ∙ ap (λ l. l ++ r.check ∷ []) same

-- ---- run by run

abbrev pub WritesOn : List (ℕ × ℕ) → List (ℕ × ℕ) → List ℕ → Type 0
WritesOn cells rest text = (records : List Record) → AreRuns rest records → IsWritten cells (text ++ (flat_map record_line records ++ end_line))

pub writes_first : (cells : List (ℕ × ℕ)) (text : List ℕ) → text ≡ [] → WritesOn cells cells text
writes_first cells text empty = λ records runs. record { records = records; runs = runs; is = ap (λ l. l ++ (flat_map record_line records ++ end_line)) empty }

-- the record of a run
abbrev record_of : List (ℕ × ℕ) → Record
record_of cells = record {
  address = first_address cells;
  kind = 0;
  «data» = values_of cells;
  check = complement_of_sum (length (values_of cells) ∷ (first_address cells / 256 ∷ (first_address cells % 256 ∷ (0 ∷ values_of cells))));
}

first_taken : (n : ℕ) (cells : List (ℕ × ℕ)) → 0 < n → first_address (take n cells) ≡ first_address cells
first_taken zero cells some = absurd (omega (arith, some))
first_taken (suc n) [] some = refl
first_taken (suc n) (c ∷ cells) some = refl

module _ (cells rest : List (ℕ × ℕ)) (n : ℕ) (some : 0 < n) (within : n ≤ length rest) (most : n ≤ 16) (adjacent : take n rest ≡ enumerate_from (first_address rest) (values_of (take n rest)))
    (longest : (byte : ℕ) (others : List (ℕ × ℕ)) → drop n rest ≡ (first_address rest + n, byte) ∷ others → n ≡ 16) where
  taken : length (take n rest) ≡ n
  taken = length-take-le n rest within

  front_record : IsRecordOf (take n rest) (record_of (take n rest))
  front_record = record {
    cells = adjacent ∙ ap (λ a. enumerate_from a (values_of (take n rest))) (sym (first_taken n rest some));
    kind = refl;
    check = refl;
  }

  front_run : BeginsWithRun rest (record_of (take n rest)) (drop n rest)
  front_run = record {
    run = take n rest;
    parts = sym (take-append-drop n rest);
    written = front_record;
    some = omega (arith, taken, some);
    most = omega (arith, taken, most);
    longest = λ byte others e.
        taken ∙ longest byte others (e ∙ (λ i. (first_taken n rest some i + taken i, byte) ∷ others));
  }

  pub writes_more : (text more : List ℕ) → ((r : Record) → IsRecordOf (take n rest) r → more ≡ text ++ record_line r) → WritesOn cells rest text → WritesOn cells (drop n rest) more
  writes_more text more added writes = λ records runs.
      subst (IsWritten cells)
      (ap (λ l. text ++ l) (append_assoc (record_line (record_of (take n rest))) (flat_map record_line records) end_line)
      ∙ sym (append_assoc text (record_line (record_of (take n rest))) (flat_map record_line records ++ end_line))
      ∙ ap (λ l. l ++ (flat_map record_line records ++ end_line)) (sym (added (record_of (take n rest)) front_record)))
      (writes (record_of (take n rest) ∷ records) (run rest (drop n rest) (record_of (take n rest)) records front_run runs))

pub writes_end : (cells rest : List (ℕ × ℕ)) (text : List ℕ) → rest ≡ [] → WritesOn cells rest text → IsWritten cells (text ++ end_line)
writes_end cells rest text empty writes = writes [] (subst (λ l. AreRuns l []) (sym empty) none)
