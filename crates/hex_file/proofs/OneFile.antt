-- Cells have one file that is written of them.
use Rattle.std.proofs.Common.{◌≡◌, ℕ, suc, ◌+◌, ◌<◌, List, [], ◌∷◌, ◌++◌, length, take, drop, get_or, drop-cons, refl, sym, ap, ◌∙◌, subst, inl, inr, arith}
use Rattle.std.specs.List.{flat_map}
use Rattle.std.proofs.lemmas.Bool.{cases_order}
use Rattle.std.proofs.lemmas.List.{length-append, take_at, drop_at, get_or_append_left}
use Rattle.std.proofs.lemmas.List.FromFn.{length-enumerate_from, get_or-enumerate_from}
use Rattle.hex_file.specs.Records.{Record, checked_bytes}
use Rattle.hex_file.specs.Written.{complement_of_sum, first_address, IsRecordOf, BeginsWithRun, AreRuns, none, run, record_line, end_line, IsWritten}
use Rattle.hex_file.proofs.RecordBytes.{one_record}
use Rattle.hex_file.proofs.Running.{first_of, checked_is}

first_cell : (cells rest : List (ℕ × ℕ)) → 0 < length cells → first_address (cells ++ rest) ≡ first_address cells
first_cell [] rest some = absurd (omega (arith, some))
first_cell (c ∷ cells) rest some = refl

first_in : (cells rest : List (ℕ × ℕ)) (r : Record) → BeginsWithRun cells r rest → first_address cells ≡ r.address
first_in cells rest r h =
    ap first_address h.parts ∙ first_cell h.run rest h.some ∙ ap first_address h.written.cells ∙ first_of r (subst (λ l. 0 < length l) h.written.cells h.some)

-- a run that ends before another could go on
not_shorter : (cells rest others : List (ℕ × ℕ)) (r s : Record) (h : BeginsWithRun cells r rest) (k : BeginsWithRun cells s others) → length h.run < length k.run → ⊥
not_shorter cells rest others r s h k lt =
    let n = length h.run in
    let count : length k.run ≡ length s.data = ap length k.written.cells ∙ length-enumerate_from s.address s.data in
    let within : length h.run < length cells = omega (arith, lt, ap length k.parts, length-append k.run others) in
    let cell : get_or cells (length h.run) (0, 0) ≡ (r.address + length h.run, get_or s.data (length h.run) 0) =
    ap (λ l. get_or l (length h.run) (0, 0)) k.parts
    ∙ get_or_append_left k.run others (0, 0) (length h.run) lt
    ∙ ap (λ l. get_or l (length h.run) (0, 0)) k.written.cells
    ∙ get_or-enumerate_from s.address s.data (length h.run) (0, 0) (omega (arith, lt, count))
    ∙ ap (λ a. (a + length h.run, get_or s.data (length h.run) 0)) (sym (first_in cells others s k) ∙ first_in cells rest r h) in
    let follows : rest ≡ (r.address + length h.run, get_or s.data (length h.run) 0) ∷ drop (suc (length h.run)) cells =
    sym (ap (drop (length h.run)) h.parts ∙ drop_at h.run rest (length h.run) refl) ∙ drop-cons cells (length h.run) (0, 0) within ∙ ap (λ c. c ∷ drop (suc (length h.run)) cells) cell in
    let full = h.longest (get_or s.data (length h.run) 0) (drop (suc (length h.run)) cells) follows in
    let most = k.most in
    omega (arith, full, most, lt)

same_length : (cells rest others : List (ℕ × ℕ)) (r s : Record) (h : BeginsWithRun cells r rest) (k : BeginsWithRun cells s others) → length h.run ≡ length k.run
same_length cells rest others r s h k = elim (cases_order (length h.run) (length k.run)) [
  | inl same ↦ same
  | inr (inl lt) ↦ absurd (not_shorter cells rest others r s h k lt)
  | inr (inr lt) ↦ absurd (not_shorter cells others rest s r k h lt)
]

same_rest : (cells rest others : List (ℕ × ℕ)) (r s : Record) → BeginsWithRun cells r rest → BeginsWithRun cells s others → rest ≡ others
same_rest cells rest others r s h k =
    sym (ap (drop (length h.run)) h.parts ∙ drop_at h.run rest (length h.run) refl)
    ∙ ap (drop (length h.run)) k.parts ∙ drop_at k.run others (length h.run) (sym (same_length cells rest others r s h k))

same_record : (cells rest others : List (ℕ × ℕ)) (r s : Record) → BeginsWithRun cells r rest → BeginsWithRun cells s others → r ≡ s
same_record cells rest others r s h k =
    let runs : h.run ≡ k.run =
    sym (ap (take (length h.run)) h.parts ∙ take_at h.run rest (length h.run) refl)
    ∙ ap (take (length h.run)) k.parts ∙ take_at k.run others (length h.run) (sym (same_length cells rest others r s h k)) in
    let bytes : checked_bytes r ≡ checked_bytes s = sym (checked_is h.run r h.some h.written) ∙ checked_is h.run s h.some (subst (λ l. IsRecordOf l s) (sym runs) k.written) in
    let check : r.check ≡ s.check = h.written.check ∙ ap complement_of_sum bytes ∙ sym k.written.check in
    one_record r s (ap (λ l. l ++ r.check ∷ []) bytes ∙ ap (λ b. checked_bytes s ++ b ∷ []) check)

some_cells : (rest : List (ℕ × ℕ)) (r : Record) → BeginsWithRun [] r rest → ⊥
some_cells rest r h = let some = h.some in omega (arith, some, ap length h.parts, length-append h.run rest)

same_records : (cells : List (ℕ × ℕ)) (records others : List Record) → AreRuns cells records → AreRuns cells others → records ≡ others
same_records cells [] [] none none = refl
same_records cells [] (s ∷ others) none (run _ rest _ _ k runs) = absurd (some_cells rest s k)
same_records cells (r ∷ records) [] (run _ rest _ _ h runs) none = absurd (some_cells rest r h)
same_records cells (r ∷ records) (s ∷ others) (run _ rest _ _ h runs) (run _ after _ _ k also) =
    ap (λ q. q ∷ records) (same_record cells rest after r s h k)
    ∙ ap (λ qs. s ∷ qs) (same_records after records others (subst (λ cs. AreRuns cs records) (same_rest cells rest after r s h k) runs) also)

pub one_file : (cells : List (ℕ × ℕ)) (bytes others : List ℕ) → IsWritten cells bytes → IsWritten cells others → bytes ≡ others
one_file cells bytes others h k =
    h.is ∙ ap (λ records. flat_map record_line records ++ end_line) (same_records cells h.records k.records h.runs k.runs) ∙ sym k.is
