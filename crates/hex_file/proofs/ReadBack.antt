-- What is written of cells is read as these cells.
use Rattle.std.proofs.Common.{◌≡◌, ℕ, zero, suc, ◌+◌, ◌-◌, ◌/◌, ◌%◌, ◌<◌, ◌≤◌, ◌==◌, Bool, true, not, List, [], ◌∷◌, ◌++◌, length, take, drop, get_or, map, codes, refl, sym, ap, ◌∙◌, subst, arith, append_assoc}
use Rattle.std.specs.List.{All, AllByRecursion, fold, flat_map, enumerate_from, list_all, sum}
use Rattle.std.specs.Map.{keys_of}
use Rattle.std.specs.List.Sorted.{IsStrictlySortedBy}
use Rattle.std.specs.Ordering.{nat_cmp, match_ordering}
use Rattle.std.specs.declared.cmp.Ordering.TheVariants.{Less, Greater}
use Rattle.std.proofs.lemmas.Bool.{and_parts}
use Rattle.std.proofs.lemmas.List.{length-append, append-nil, take_at, drop_at}
use Rattle.std.proofs.Math.Seq.{get_or-append_seam, take-append_seam}
use Rattle.std.proofs.lemmas.List.Elements.{All-head, All-tail, All-take, All-drop}
use Rattle.std.proofs.lemmas.List.FromFn.{length-enumerate_from}
use Rattle.std.proofs.lemmas.List.Sums.{fold-append}
use Rattle.std.proofs.lemmas.Bool.Decides.{nat_tests}
use Rattle.std.proofs.lemmas.Map.Keys.{sorted_head, sorted_tail, sorted_from_strictly_increasing}
use Rattle.hex.specs.Hex.{IsBytes, encode_upper, encode_with, upper_digits}
use Rattle.hex.proofs.HexLemmas.{decode_of-encode_upper}
use Rattle.hex.proofs.OnLiterals.{hex_on_literals}
use Rattle.base.specs.Cut.{without_cr}
use Rattle.hex_file.specs.Records.{Record, checked_bytes, record_bytes, IsDataLine, IsEndLine}
use Rattle.hex_file.specs.Lines.{IsNotLf, AreLines}
use Rattle.hex_file.specs.HexFile.{IsHex, ended, more, record_cells, put_cell, IsHexOf}
use Rattle.hex_file.specs.Written.{BeginsWithRun, AreRuns, none, run, record_line, end_line, IsWritten, AreCells}
use Rattle.hex_file.proofs.Cutting.{no_line, line_before}

-- ---- the lines

abbrev text_of : Record → List ℕ
text_of r = 0x3A ∷ encode_upper (record_bytes r)

abbrev end_text : List ℕ
end_text = codes ":00000001FF"

length_cr : (line : List ℕ) → length (line ++ 13 ∷ []) - 1 ≡ length line
length_cr line = omega (arith, length-append line (13 ∷ []))

cr_dropped : (line : List ℕ) → without_cr (line ++ 13 ∷ []) ≡ line
cr_dropped line = rw (length_cr line, get_or-append_seam line 13 [] 0) (take-append_seam line (13 ∷ []))

-- no byte is LF
is_plain : ℕ → Bool
is_plain b = not (b == 10)

not_lf : (b : ℕ) → is_plain b ≡ true → IsNotLf b
unfolding is_plain
not_lf b h e = cc (rw e at h)

all_plain : (bytes : List ℕ) → list_all is_plain bytes ≡ true → AllByRecursion IsNotLf bytes
all_plain [] h = tt
all_plain (b ∷ bytes) h = let parts = and_parts (is_plain b) (list_all is_plain bytes) h in (not_lf b parts.0, all_plain bytes parts.1)

plain_at : (bytes : List ℕ) (i : ℕ) → AllByRecursion IsNotLf bytes → IsNotLf (get_or bytes i 0)
plain_at [] i h = λ e. omega (arith, e)
plain_at (b ∷ bytes) zero h = h.0
plain_at (b ∷ bytes) (suc i) h = plain_at bytes i h.1

digit_plain : (d : ℕ) → IsNotLf (get_or upper_digits d 0)
unfolding is_plain
digit_plain d = plain_at upper_digits d (all_plain upper_digits refl)

digits_plain : (bytes : List ℕ) → AllByRecursion IsNotLf (encode_upper bytes ++ 13 ∷ [])
unfolding encode_with
digits_plain [] = (λ e. omega (arith, e), tt)
digits_plain (b ∷ bytes) = (digit_plain (b / 16), (digit_plain (b % 16), digits_plain bytes))

line_written : (r : Record) (rest : List ℕ) (lines : List (List ℕ)) → AreLines rest lines → AreLines (record_line r ++ rest) (text_of r ∷ lines)
line_written r rest lines h =
    let digits = encode_upper (record_bytes r) in
    subst (λ t. AreLines (0x3A ∷ t) (text_of r ∷ lines)) (append_assoc digits (13 ∷ []) (10 ∷ rest) ∙ sym (append_assoc digits (13 ∷ (10 ∷ [])) rest))
    (subst (λ l. AreLines ((0x3A ∷ (digits ++ 13 ∷ [])) ++ 10 ∷ rest) (l ∷ lines)) (cr_dropped (text_of r))
    (line_before (0x3A ∷ (digits ++ 13 ∷ [])) rest lines (λ e. omega (arith, e), digits_plain (record_bytes r)) h))

end_written : AreLines end_line (end_text ∷ [])
unfolding is_plain
end_written = line_before (end_text ++ 13 ∷ []) [] [] (all_plain (end_text ++ 13 ∷ []) refl) no_line

lines_written : (records : List Record) → AreLines (flat_map record_line records ++ end_line) (map text_of records ++ end_text ∷ [])
lines_written [] = end_written
lines_written (r ∷ records) =
    subst (λ t. AreLines t (text_of r ∷ (map text_of records ++ end_text ∷ []))) (sym (append_assoc (record_line r) (flat_map record_line records) end_line))
    (line_written r (flat_map record_line records ++ end_line) (map text_of records ++ end_text ∷ []) (lines_written records))

-- ---- the records

bytes_push : (bytes : List ℕ) (b : ℕ) → IsBytes bytes → b < 256 → IsBytes (bytes ++ b ∷ [])
bytes_push [] b h small zero = small
bytes_push [] b h small (suc i) = omega arith
bytes_push (x ∷ bytes) b h small zero = h 0
bytes_push (x ∷ bytes) b h small (suc i) = bytes_push bytes b (λ k. h (suc k)) small i

bytes_small : (r : Record) → length r.data < 256 → r.address < 0x10000 → r.kind < 256 → IsBytes r.data → r.check < 256 → IsBytes (record_bytes r)
bytes_small r count address kind bytes check zero = count
bytes_small r count address kind bytes check (suc zero) = omega (arith, address)
bytes_small r count address kind bytes check (suc (suc zero)) = omega arith
bytes_small r count address kind bytes check (suc (suc (suc zero))) = kind
bytes_small r count address kind bytes check (suc (suc (suc (suc i)))) = bytes_push r.data r.check bytes check i

data_small : (a : ℕ) (bytes : List ℕ) → All (λ c. c.1 < 256) (enumerate_from a bytes) → IsBytes bytes
data_small a [] h i = omega arith
data_small a (b ∷ bytes) h zero = All-head (λ c. c.1 < 256) (a, b) (enumerate_from (a + 1) bytes) h
data_small a (b ∷ bytes) h (suc i) = data_small (a + 1) bytes (All-tail (λ c. c.1 < 256) (a, b) (enumerate_from (a + 1) bytes) h) i

ends_below : (a : ℕ) (bytes : List ℕ) → 1 ≤ length bytes → All (λ c. c.0 < 0x10000) (enumerate_from a bytes) → a + length bytes ≤ 0x10000
ends_below a [] some h = absurd (omega (arith, some))
ends_below a (b ∷ []) some h = let first = All-head (λ c. c.0 < 0x10000) (a, b) [] h in omega (arith, first)
ends_below a (b ∷ c ∷ bytes) some h =
    let rest = ends_below (a + 1) (c ∷ bytes) (omega arith) (All-tail (λ c. c.0 < 0x10000) (a, b) (enumerate_from (a + 1) (c ∷ bytes)) h) in
    omega (arith, rest)

sum_push : (bytes : List ℕ) (b : ℕ) → sum (bytes ++ b ∷ []) ≡ sum bytes + b
sum_push bytes b = fold-append (λ a x. a + x) 0 bytes (b ∷ [])

record_written : (cells rest : List (ℕ × ℕ)) (r : Record) → BeginsWithRun cells r rest → All (λ c. c.0 < 0x10000) cells → All (λ c. c.1 < 256) cells → IsDataLine (text_of r) r
record_written cells rest r h addresses bytes =
    let front : (P : ℕ × ℕ → Type 0) → All P cells → All P (record_cells r) = λ P all.
    subst (All P) (ap (take (length h.run)) h.parts ∙ take_at h.run rest (length h.run) refl ∙ h.written.cells) (All-take P (length h.run) cells all) in
    let count : length h.run ≡ length r.data = ap length h.written.cells ∙ length-enumerate_from r.address r.data in
    let some = h.some in
    let most = h.most in
    let kind = h.written.kind in
    let below = ends_below r.address r.data (omega (arith, count, some)) (front (λ c. c.0 < 0x10000) addresses) in
    let check = h.written.check in
    let small : IsBytes (record_bytes r) =
    bytes_small r (omega (arith, count, most)) (omega (arith, below, count, some)) (omega (arith, kind)) (data_small r.address r.data (front (λ c. c.1 < 256) bytes)) (omega (arith, check)) in
    record {
      spells = record { digits = encode_upper (record_bytes r); marked = refl; decoded = decode_of-encode_upper (record_bytes r) small; sums_to_zero = omega (arith, sum_push (checked_bytes r) r.check, check) };
      has_data = record { kind = kind; some = omega (arith, count, some); below = below };
    }

end_read : IsEndLine end_text (record { address = 0; kind = 1; «data» = []; check = 255 })
unfolding hex_on_literals
end_read = record { spells = record { digits = codes "00000001FF"; marked = refl; decoded = refl; sums_to_zero = refl }; ends = record { none = refl; kind = omega arith } }

hex_written : (cells : List (ℕ × ℕ)) (records : List Record) → AreRuns cells records → All (λ c. c.0 < 0x10000) cells → All (λ c. c.1 < 256) cells → IsHex (map text_of records ++ end_text ∷ []) records
hex_written cells [] none addresses bytes = ended end_text [] (record { address = 0; kind = 1; «data» = []; check = 255 }) end_read
hex_written cells (r ∷ records) (run _ rest _ _ h runs) addresses bytes =
    let after : (P : ℕ × ℕ → Type 0) → All P cells → All P rest = λ P all.
    subst (All P) (ap (drop (length h.run)) h.parts ∙ drop_at h.run rest (length h.run) refl) (All-drop P (length h.run) cells all) in
    more (text_of r) (map text_of records ++ end_text ∷ []) r records (record_written cells rest r h addresses bytes)
    (hex_written rest records runs (after (λ c. c.0 < 0x10000) addresses) (after (λ c. c.1 < 256) bytes))

-- ---- the cells

cells_written : (cells : List (ℕ × ℕ)) (records : List Record) → AreRuns cells records → flat_map record_cells records ≡ cells
cells_written cells [] none = refl
cells_written cells (r ∷ records) (run _ rest _ _ h runs) =
    ap (λ l. record_cells r ++ l) (cells_written rest records runs) ∙ ap (λ l. l ++ rest) (sym h.written.cells) ∙ sym h.parts

less_at : (k : ℕ) (cells : List (ℕ × ℕ)) (c : ℕ × ℕ) (rest : List (ℕ × ℕ)) → AllByRecursion (λ y. nat_cmp k y ≡ Less) (keys_of (cells ++ c ∷ rest)) → nat_cmp k c.0 ≡ Less
less_at k [] c rest h = h.0
less_at k (e ∷ cells) c rest h = less_at k cells c rest h.1

flipped : (a b : ℕ) → nat_cmp a b ≡ Less → nat_cmp b a ≡ Greater
flipped a b h = grind (arith, nat_tests)

put_last : (cells : List (ℕ × ℕ)) (c : ℕ × ℕ) (rest : List (ℕ × ℕ)) → IsStrictlySortedBy nat_cmp (keys_of (cells ++ c ∷ rest)) → put_cell cells c ≡ cells ++ c ∷ []
put_last [] c rest h = refl
put_last (e ∷ cells) c rest h =
    let keys = keys_of (cells ++ c ∷ rest) in
    ap (λ r. match_ordering r (c ∷ (e ∷ cells)) ((e.0, c.1) ∷ cells) (e ∷ put_cell cells c)) (flipped e.0 c.0 (less_at e.0 cells c rest (sorted_head nat_cmp e.0 keys h)))
    ∙ ap (λ cs. e ∷ cs) (put_last cells c rest (sorted_tail nat_cmp e.0 keys h))

-- cells that ascend stay as they are
stay_after : (done cells : List (ℕ × ℕ)) → IsStrictlySortedBy nat_cmp (keys_of (done ++ cells)) → fold put_cell done cells ≡ done ++ cells
stay_after done [] h = sym (append-nil done)
stay_after done (c ∷ cells) h =
    let regrouped = append_assoc done (c ∷ []) cells in
    ap (λ ds. fold put_cell ds cells) (put_last done c cells h)
    ∙ stay_after (done ++ c ∷ []) cells (subst (λ cs. IsStrictlySortedBy nat_cmp (keys_of cs)) (sym regrouped) h)
    ∙ regrouped

pub read_back : (cells : List (ℕ × ℕ)) (bytes : List ℕ) → AreCells cells → IsWritten cells bytes → IsHexOf bytes cells
read_back cells bytes h is = record {
  lines = map text_of is.records ++ end_text ∷ [];
  records = is.records;
  cut = subst (λ t. AreLines t (map text_of is.records ++ end_text ∷ [])) (sym is.is) (lines_written is.records);
  hex = hex_written cells is.records is.runs h.addresses h.bytes;
  cells_are = sym (ap (fold put_cell []) (cells_written cells is.records is.runs) ∙ stay_after [] cells (sorted_from_strictly_increasing (keys_of cells) h.ascend));
}
