-- A file read line by line: what the rest gives, put to what was found so far, is what the whole gives.
use Rattle.std.proofs.Common.{◌≡◌, ℕ, suc, ◌+◌, ◌<◌, List, [], ◌∷◌, ◌++◌, length, take, get_or, refl, sym, ap, ◌∙◌, subst, arith}
use Rattle.std.specs.List.{fold, flat_map, enumerate_from}
use Rattle.std.specs.Ordering.{nat_cmp}
use Rattle.std.specs.BTreeMap.{insert_entry}
use Rattle.std.proofs.lemmas.List.{length-take-le, take_more}
use Rattle.std.proofs.lemmas.List.Sums.{fold-append}
use Rattle.hex_file.specs.declared.fault.HexFault.TheVariants.{Bad}
use Rattle.hex_file.specs.Records.{Record, HasRecord, IsData, IsEnd}
use Rattle.hex_file.specs.Lines.{AreLines, FirstLine}
use Rattle.hex_file.specs.HexFile.{IsHex, ended, more, record_cells, put_cell, IsHexOf, BeginsWithMisfit, FirstMisfit, IsHexFaultOf}
use Rattle.hex_file.proofs.Cutting.{no_line, some_way}
use Rattle.hex_file.proofs.RecordBytes.{one_spelt}
use Rattle.hex_file.proofs.Running.{enumerate_push}

-- ---- the cells of a record, one by one

enumerate_more : (a : ℕ) (bytes : List ℕ) (i : ℕ) → i < length bytes → enumerate_from a (take (i + 1) bytes) ≡ enumerate_from a (take i bytes) ++ (a + i, get_or bytes i 0) ∷ []
enumerate_more a bytes i lt =
    ap (enumerate_from a) (take_more bytes i 0 lt)
    ∙ enumerate_push a (take i bytes) (get_or bytes i 0)
    ∙ ap (λ n. enumerate_from a (take i bytes) ++ (a + n, get_or bytes i 0) ∷ []) (length-take-le i bytes (omega (arith, lt)))

pub put_more : (before now next : List (ℕ × ℕ)) (a i : ℕ) (bytes : List ℕ) → i < length bytes → now ≡ fold put_cell before (enumerate_from a (take i bytes)) → next ≡ insert_entry nat_cmp now (a + i) (get_or bytes i 0) → next ≡ fold put_cell before (enumerate_from a (take (i + 1) bytes))
put_more before now next a i bytes lt so_far put =
    put
    ∙ ap (λ cells. put_cell cells (a + i, get_or bytes i 0)) so_far
    ∙ sym (fold-append put_cell before (enumerate_from a (take i bytes)) ((a + i, get_or bytes i 0) ∷ []))
    ∙ ap (fold put_cell before) (sym (enumerate_more a bytes i lt))

-- ---- what the rest gives

abbrev pub Reads : List ℕ → List ℕ → List (ℕ × ℕ) → Type 0
Reads bytes rest cells = (lines : List (List ℕ)) (records : List Record) → AreLines rest lines → IsHex lines records → IsHexOf bytes (fold put_cell cells (flat_map record_cells records))

abbrev pub Fails : List ℕ → List ℕ → ℕ → Type 0
Fails bytes rest number = (lines : List (List ℕ)) (n : ℕ) → AreLines rest lines → FirstMisfit lines (suc n) → IsHexFaultOf bytes (Bad (number + n))

pub reads_first : (bytes : List ℕ) (cells : List (ℕ × ℕ)) → cells ≡ [] → Reads bytes bytes cells
reads_first bytes cells none = λ lines records cut hex.
    record { lines = lines; records = records; cut = cut; hex = hex; cells_are = ap (λ cs. fold put_cell cs (flat_map record_cells records)) none }

pub fails_first : (bytes : List ℕ) → Fails bytes bytes 1
fails_first bytes = λ lines n cut misfit. let e : suc n ≡ 1 + n = omega arith in (lines, cut, subst (FirstMisfit lines) e misfit)

-- a data line more

pub reads_more : (bytes rest line after : List ℕ) (cells next : List (ℕ × ℕ)) (r : Record) → FirstLine rest line after → HasRecord line r → IsData r → next ≡ fold put_cell cells (record_cells r) → Reads bytes rest cells → Reads bytes after next
reads_more bytes rest line after cells next r first spells has_data put reads = λ lines records cut hex.
    subst (IsHexOf bytes)
    (fold-append put_cell cells (record_cells r) (flat_map record_cells records) ∙ ap (λ cs. fold put_cell cs (flat_map record_cells records)) (sym put))
    (reads (line ∷ lines) (r ∷ records) (first.goes_on lines cut) (more line lines r records (record { spells = spells; has_data = has_data }) hex))

pub fails_more : (bytes rest line after : List ℕ) (number : ℕ) (r : Record) → FirstLine rest line after → HasRecord line r → IsData r → Fails bytes rest number → Fails bytes after (number + 1)
fails_more bytes rest line after number r first spells has_data fails = λ lines n cut misfit.
    let e : number + suc n ≡ number + 1 + n = omega arith in
    let count : suc (suc n) ≡ suc (length misfit.before) + 1 = let number = misfit.number in omega (arith, number) in
    subst (λ m. IsHexFaultOf bytes (Bad m)) e
    (fails (line ∷ lines) (suc n) (first.goes_on lines cut) (record {
      before = line ∷ misfit.before;
      after = misfit.after;
      whole = ap (λ ls. line ∷ ls) misfit.whole;
      data_lines = ((r, record { spells = spells; has_data = has_data }), misfit.data_lines);
      number = count;
      misfit = misfit.misfit;
    }))

-- an end line

pub reads_end : (bytes rest line after : List ℕ) (cells : List (ℕ × ℕ)) (r : Record) → FirstLine rest line after → HasRecord line r → IsEnd r → Reads bytes rest cells → IsHexOf bytes cells
reads_end bytes rest line after cells r first spells ends reads =
    let following = some_way after in
    reads (line ∷ following.0) [] (first.goes_on following.0 following.1) (ended line following.0 r (record { spells = spells; ends = ends }))

-- a line that fits nowhere, or no line

fails_here : (bytes rest : List ℕ) (number : ℕ) (lines : List (List ℕ)) → AreLines rest lines → BeginsWithMisfit lines → Fails bytes rest number → IsHexFaultOf bytes (Bad number)
fails_here bytes rest number lines cut misfit fails =
    let e : number + 0 ≡ number = omega arith in
    subst (λ m. IsHexFaultOf bytes (Bad m)) e
    (fails lines 0 cut (record { before = []; after = lines; whole = refl; data_lines = tt; number = refl; misfit = misfit }))

pub fails_spelling : (bytes rest line after : List ℕ) (number : ℕ) → FirstLine rest line after → ((r : Record) → HasRecord line r → ⊥) → Fails bytes rest number → IsHexFaultOf bytes (Bad number)
fails_spelling bytes rest line after number first none fails =
    let following = some_way after in
    fails_here bytes rest number (line ∷ following.0) (first.goes_on following.0 following.1) (λ r. (λ h. none r h.spells, λ h. none r h.spells)) fails

pub fails_kind : (bytes rest line after : List ℕ) (number : ℕ) (r : Record) → FirstLine rest line after → HasRecord line r → (IsData r → ⊥) → (IsEnd r → ⊥) → Fails bytes rest number → IsHexFaultOf bytes (Bad number)
fails_kind bytes rest line after number r first spells no_data no_end fails =
    let following = some_way after in
    fails_here bytes rest number (line ∷ following.0) (first.goes_on following.0 following.1)
    (λ s. (λ h. no_data (subst IsData (one_spelt line s r h.spells spells) h.has_data), λ h. no_end (subst IsEnd (one_spelt line s r h.spells spells) h.ends))) fails

pub fails_ended : (bytes rest : List ℕ) (number : ℕ) → rest ≡ [] → Fails bytes rest number → IsHexFaultOf bytes (Bad number)
fails_ended bytes rest number none fails = fails_here bytes rest number [] (subst (λ t. AreLines t []) (sym none) no_line) tt fails
