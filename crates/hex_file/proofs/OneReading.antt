-- A file has one reading: one list of records, or one line that fits nowhere, and not both.
use Rattle.std.proofs.Common.{◌≡◌, ℕ, suc, List, [], ◌∷◌, ◌++◌, length, refl, sym, ap, ◌∙◌, subst, arith}
use Rattle.std.specs.List.{AllByRecursion}
use Rattle.hex_file.specs.declared.fault.HexFault.TheVariants.{Bad}
use Rattle.hex_file.specs.Records.{Record, IsDataLine, IsEndLine}
use Rattle.hex_file.specs.HexFile.{IsHex, ended, more, cells_of, IsHexOf, HasData, BeginsWithMisfit, IsHexFaultOf}
use Rattle.hex_file.proofs.Cutting.{one_way}
use Rattle.hex_file.proofs.RecordBytes.{one_spelt}

-- a line has data or ends the file
apart : (line : List ℕ) (r s : Record) → IsDataLine line r → IsEndLine line s → ⊥
apart line r s h k =
    let some = h.has_data.some in
    let none = ap length k.ends.none in
    let same = ap (λ (q : Record). length q.data) (one_spelt line r s h.spells k.spells) in
    omega (arith, some, none, same)

one_records : (lines : List (List ℕ)) (records others : List Record) → IsHex lines records → IsHex lines others → records ≡ others
one_records [] records others h k = elim h [ ]
one_records (line ∷ lines) [] [] h k = refl
one_records (line ∷ lines) [] (s ∷ others) (ended _ _ r h) (more _ _ _ _ k rest) = absurd (apart line s r k h)
one_records (line ∷ lines) (r ∷ records) [] (more _ _ _ _ h rest) (ended _ _ s k) = absurd (apart line r s h k)
one_records (line ∷ lines) (r ∷ records) (s ∷ others) (more _ _ _ _ h rest) (more _ _ _ _ k also) =
    ap (λ q. q ∷ records) (one_spelt line r s h.spells k.spells) ∙ ap (λ qs. s ∷ qs) (one_records lines records others rest also)

pub one_list : (bytes : List ℕ) (cells others : List (ℕ × ℕ)) → IsHexOf bytes cells → IsHexOf bytes others → cells ≡ others
one_list bytes cells others h k =
    let same : h.lines ≡ k.lines = one_way bytes h.lines k.lines h.cut k.cut in
    h.cells_are ∙ ap cells_of (one_records k.lines h.records k.records (subst (λ lines. IsHex lines h.records) same h.hex) k.hex) ∙ sym k.cells_are

-- ---- faults

no_misfit : (line : List ℕ) (after : List (List ℕ)) (first : List (List ℕ)) → first ≡ line ∷ after → HasData line → BeginsWithMisfit first → ⊥
no_misfit line after first e h misfit = (subst BeginsWithMisfit e misfit h.0).0 h.1

same_count : (before others after rest : List (List ℕ)) → before ++ after ≡ others ++ rest → AllByRecursion HasData before → AllByRecursion HasData others → BeginsWithMisfit after → BeginsWithMisfit rest → length before ≡ length others
same_count [] [] after rest e h k m n = refl
same_count [] (line ∷ others) after rest e h k m n = absurd (no_misfit line (others ++ rest) after e k.0 m)
same_count (line ∷ before) [] after rest e h k m n = absurd (no_misfit line (before ++ after) rest (sym e) h.0 n)
same_count (line ∷ before) (other ∷ others) after rest e h k m n = ap suc (same_count before others after rest (cc) h.1 k.1 m n)

pub one_fault : (bytes : List ℕ) (j k : ℕ) → IsHexFaultOf bytes (Bad j) → IsHexFaultOf bytes (Bad k) → j ≡ k
one_fault bytes j k h i =
    let first = h.2 in
    let second = i.2 in
    let same : h.0 ≡ i.0 = one_way bytes h.0 i.0 h.1 i.1 in
    let count : length first.before ≡ length second.before = same_count first.before second.before first.after second.after (sym first.whole ∙ same ∙ second.whole) first.data_lines second.data_lines first.misfit second.misfit in
    let a = first.number in
    let b = second.number in
    omega (arith, a, b, count)

-- ---- not both

has_no_misfit : (before after : List (List ℕ)) (records : List Record) → AllByRecursion HasData before → BeginsWithMisfit after → IsHex (before ++ after) records → ⊥
has_no_misfit [] [] records h m is = elim is [ ]
has_no_misfit [] (line ∷ after) [] h m (ended _ _ r k) = (m r).1 k
has_no_misfit [] (line ∷ after) (r ∷ records) h m (more _ _ _ _ k rest) = (m r).0 k
has_no_misfit (line ∷ before) after [] h m (ended _ _ r k) = apart line h.0.0 r h.0.1 k
has_no_misfit (line ∷ before) after (r ∷ records) h m (more _ _ _ _ k rest) = has_no_misfit before after records h.1 m rest

pub not_both : (bytes : List ℕ) (cells : List (ℕ × ℕ)) (n : ℕ) → IsHexOf bytes cells → IsHexFaultOf bytes (Bad n) → ⊥
not_both bytes cells n h k =
    let first = k.2 in
    has_no_misfit first.before first.after h.records first.data_lines first.misfit
    (subst (λ lines. IsHex lines h.records) (one_way bytes h.lines k.0 h.cut k.1 ∙ first.whole) h.hex)
