-- Disk files as a whole.
use Rattle.std.proofs.Common.{◌≡◌, ℕ, zero, suc, ◌+◌, ◌*◌, ◌<◌, ◌≤◌, ◌^◌, List, [], ◌∷◌, ◌++◌, length, take, drop, refl, sym, ap, ◌∙◌, subst, arith, append_assoc}
use Rattle.std.specs.Prelude.{Option, Some, None, Result, Ok, Err, MatchResult, IsErrAnd}
use Rattle.std.proofs.lemmas.List.{append-nil, length-append, length-take-le, length-drop, take-append-drop, take-take, take_at}
use Rattle.std.proofs.lemmas.List.Elements.{All-nil}
use Rattle.std.proofs.lemmas.List.Sums.{sum_by-cons}
use Rattle.base.proofs.Fronts.{member_goes_on}
use Rattle.bdos_small.specs.Spelled.{BreaksAt}
use Rattle.bdos_small.proofs.Going.{name_parts, highest_lawful}
use Rattle.bdos_small.specs.declared.reading.Stop.{Stop}
use Rattle.bdos_small.specs.declared.reading.Stop.TheVariants.{At, Memory}
use Rattle.bdos_small.specs.Stored.{Stored}
use Rattle.bdos_small.specs.Disks.{AreFilesAfter, records_in, IsDisk}
use Rattle.bdos_small.specs.DiskFile.{disk_mark, word_bytes, all_records, file_bytes, files_bytes, disk_file, IsBadAt}
use Rattle.bdos_small.specs.Reading.{AreFiles, StopsBy, stop_after}
use Rattle.bdos_small.proofs.Files.{count_of}
use Rattle.bdos_small.proofs.Parts.{same_front, first_breaks, second_breaks}
use Rattle.bdos_small.proofs.Languages.{length-all_records, same_records, word_only, top_files, length-top_files, none-top_files, top_files-after}

-- stops behind other bytes
pub stops_behind : (P Q : ℕ → Type 0) (n : ℕ) (s : Stop) → StopsBy P s → ((k : ℕ) → P k → Q (n + k)) → StopsBy Q (stop_after n s)
stops_behind P Q n (At k) h f = f k h
stops_behind P Q n Memory h f = tt

pub stops_weaker : (P Q : ℕ → Type 0) (s : Stop) → StopsBy P s → ((k : ℕ) → P k → Q k) → StopsBy Q s
stops_weaker P Q (At k) h f = f k h
stops_weaker P Q Memory h f = tt

-- want of memory stops a reading
pub memory_stops : {T : Type 0} (P : T → Type 0) (Q : ℕ → Type 0) (r : Result T Stop) → IsErrAnd r (λ stop. stop ≡ Memory) → MatchResult r P (StopsBy Q)
memory_stops P Q (Ok x) h = absurd h
memory_stops P Q (Err stop) h = subst (StopsBy Q) (sym h) tt

-- how long a disk file is
length-files_bytes : (last : Option (List ℕ)) (fs : List Stored) → AreFilesAfter last fs → length (files_bytes fs) ≡ 13 * length fs + 128 * records_in fs
length-files_bytes last [] h = refl
length-files_bytes last (f ∷ fs) h =
    let name : length f.name ≡ 11 = (name_parts f.name h.0.name).0 in
    let sum = sum_by-cons count_of f fs in
    let rest = length-files_bytes (Some f.name) fs h.2 in
    let one = length-append (file_bytes f) (files_bytes fs) in
    let two = length-append f.name (word_bytes (length f.records) ++ all_records f.records) in
    let three = length-all_records f.records h.0.records in
    omega arith

length-disk_file : (d : List Stored) → IsDisk d → length (disk_file d) ≤ 2000000
length-disk_file d h =
    let files = length-files_bytes None d h.files in
    let few : length d ≤ 64 = h.few in
    let small : records_in d ≤ 8000 = h.small in
    let whole = length-append disk_mark (word_bytes (length d) ++ files_bytes d) in
    omega arith

pub bad_small : (bytes : List ℕ) (k : ℕ) → IsBadAt bytes k → k < 2 ^ 32
bad_small bytes k h =
    let far = h.so_far in
    let whole = length-disk_file far.1.0 far.1.1 in
    let is = ap length far.1.2 in
    let front = length-take-le k bytes h.within in
    let begins = ap length far.2.1 in
    let parts = length-append (take k bytes) far.2.0 in
    omega arith

-- where the bytes break as the disk file of no disk
bad_from : (bytes : List ℕ) (k : ℕ) → BreaksAt IsDisk disk_file bytes k → IsBadAt bytes k
bad_from bytes k h = record {
  within = h.within;
  so_far = (disk_file h.so_far.0, (h.so_far.0, h.so_far.1, refl), h.so_far.2);
  no_further = λ lt whole is begins. h.no_further lt is.0 is.1 (begins.0, sym is.2 ∙ begins.1);
  early = λ _ is. h.none is.0 is.1 ([], is.2 ∙ sym (append-nil (disk_file is.0)));
}

-- the number of files, and the files
abbrev counted : List Stored → List ℕ
counted d = word_bytes (length d) ++ files_bytes d

abbrev IsMark : Unit {0} → Type 0
IsMark _ = Unit {0}

abbrev mark_bytes : Unit {0} → List ℕ
mark_bytes _ = disk_mark

abbrev IsMarked : Unit {0} → List Stored → Type 0
IsMarked _ d = IsDisk d

abbrev IsCount : ℕ → Type 0
IsCount n = n ≤ 64

abbrev IsCounted : ℕ → List Stored → Type 0
IsCounted n d = AreFiles None n 8000 d

mark_parts : (v : List Stored) → IsDisk v → (a : Unit {0}) × (b : List Stored) × IsMark a × IsMarked a b × (disk_file v ≡ mark_bytes a ++ counted b)
mark_parts v is = (tt, v, tt, is, refl)

mark_join : (a : Unit {0}) (b : List Stored) → IsMark a → IsMarked a b → (v : List Stored) × IsDisk v × (disk_file v ≡ mark_bytes a ++ counted b)
mark_join a b m is = (b, is, refl)

empty_disk : IsDisk []
empty_disk = record { files = tt; few = omega arith; small = omega arith }

pub bad_mark : (bytes : List ℕ) (k : ℕ) → BreaksAt {V = Unit {0}} (λ _. Unit {0}) (λ _. disk_mark) bytes k → IsBadAt bytes k
bad_mark bytes k h = bad_from bytes k (first_breaks IsMark mark_bytes IsMarked counted IsDisk disk_file mark_parts mark_join (λ a m. ([], empty_disk)) bytes k h)

behind_mark : (bytes rest : List ℕ) → bytes ≡ disk_mark ++ rest → (k : ℕ) → BreaksAt IsDisk counted rest k → IsBadAt bytes (8 + k)
behind_mark bytes rest e k h = bad_from bytes (8 + k) (second_breaks IsMark mark_bytes IsMarked counted IsDisk disk_file mark_parts mark_join tt tt (λ c m. (refl, λ _. refl)) bytes rest e k h)

count_parts : (v : List Stored) → IsDisk v → (a : ℕ) × (b : List Stored) × IsCount a × IsCounted a b × (counted v ≡ word_bytes a ++ files_bytes b)
count_parts v is = (length v, v, is.few, record { files = is.files; count_is = refl; small = is.small }, refl)

count_join : (a : ℕ) (b : List Stored) → IsCount a → IsCounted a b → (v : List Stored) × IsDisk v × (counted v ≡ word_bytes a ++ files_bytes b)
count_join a b le h =
    let count : length b ≡ a = h.count_is in
    (b, record { files = h.files; few = subst (λ n. n ≤ 64) (sym count) le; small = h.small }, ap (λ n. word_bytes n ++ files_bytes b) count)

some_files : (n : ℕ) → n ≤ 64 → AreFiles None n 8000 (top_files n)
some_files zero le = record { files = tt; count_is = refl; small = omega arith }
some_files (suc n) le = record {
  files = (record { name = highest_lawful n (omega (arith, le)); records = All-nil _ }, refl, top_files-after n (omega (arith, le)));
  count_is = length-top_files (suc n);
  small = omega (arith, none-top_files (suc n));
}

pub bad_count : (bytes rest : List ℕ) → bytes ≡ disk_mark ++ rest → (k : ℕ) → BreaksAt (λ n. n ≤ 64) word_bytes rest k → IsBadAt bytes (8 + k)
bad_count bytes rest e k h =
    behind_mark bytes rest e k (first_breaks IsCount word_bytes IsCounted files_bytes IsDisk counted count_parts count_join (λ n le. (top_files n, some_files n le)) rest k h)

pub bad_files : (bytes rest : List ℕ) (n : ℕ) → n ≤ 64 → bytes ≡ disk_mark ++ (word_bytes n ++ rest) → (k : ℕ) → BreaksAt (AreFiles None n 8000) files_bytes rest k → IsBadAt bytes (10 + k)
bad_files bytes rest n le e k h =
    let same : 8 + (2 + k) ≡ 10 + k = omega arith in
    subst (IsBadAt bytes) same
    (behind_mark bytes (word_bytes n ++ rest) e (2 + k) (second_breaks IsCount word_bytes IsCounted files_bytes IsDisk counted count_parts count_join n le (λ c h. word_only 64 n c) (word_bytes n ++ rest) rest refl k h))

-- a disk is told by its file
files_only : (last past : Option (List ℕ)) (fs gs : List Stored) (r s : List ℕ) → AreFilesAfter last fs → AreFilesAfter past gs → length fs ≡ length gs → files_bytes fs ++ r ≡ files_bytes gs ++ s → (fs ≡ gs) × (r ≡ s)
files_only last past [] [] r s h g n e = (refl, e)
files_only last past [] (y ∷ gs) r s h g n e = absurd (omega (arith, n))
files_only last past (f ∷ fs) [] r s h g n e = absurd (omega (arith, n))
files_only last past (f ∷ fs) (y ∷ gs) r s h g n e =
    let opened : (x : Stored) (xs : List Stored) (t : List ℕ) → files_bytes (x ∷ xs) ++ t ≡ x.name ++ (word_bytes (length x.records) ++ (all_records x.records ++ (files_bytes xs ++ t))) = λ x xs t.
    append_assoc (file_bytes x) (files_bytes xs) t
    ∙ append_assoc x.name (word_bytes (length x.records) ++ all_records x.records) (files_bytes xs ++ t)
    ∙ ap (λ l. x.name ++ l) (append_assoc (word_bytes (length x.records)) (all_records x.records) (files_bytes xs ++ t)) in
    let names : length f.name ≡ length y.name = (name_parts f.name h.0.name).0 ∙ sym (name_parts y.name g.0.name).0 in
    let name = same_front f.name y.name _ _ (sym (opened f fs r) ∙ e ∙ opened y gs s) names in
    let count = same_front (word_bytes (length f.records)) (word_bytes (length y.records)) _ _ name.1 refl in
    let as_many : length f.records ≡ length y.records = (word_only 0 (length y.records) (length f.records)).1 count.0 in
    let long : length (all_records f.records) ≡ length (all_records y.records) = omega (arith, length-all_records f.records h.0.records, length-all_records y.records g.0.records, as_many) in
    let records = same_front (all_records f.records) (all_records y.records) _ _ count.1 long in
    let same = same_records f.records y.records h.0.records g.0.records as_many records.0 in
    let rest = files_only (Some f.name) (Some y.name) fs gs r s h.2 g.2 (omega (arith, n)) records.1 in
    let P : List ℕ → List (List ℕ) → Stored = λ x xs. record { name = x; records = xs } in
    (ap (λ x. P x f.records ∷ fs) name.0 ∙ ap (λ xs. P y.name xs ∷ fs) same ∙ ap (λ l. y ∷ l) rest.0, rest.1)

pub disk_only : (d c : List Stored) (r s : List ℕ) → IsDisk d → IsDisk c → disk_file d ++ r ≡ disk_file c ++ s → (d ≡ c) × (r ≡ s)
disk_only d c r s h g e =
    let opened : (x : List Stored) (t : List ℕ) → disk_file x ++ t ≡ disk_mark ++ (word_bytes (length x) ++ (files_bytes x ++ t)) = λ x t.
    append_assoc disk_mark (word_bytes (length x) ++ files_bytes x) t ∙ ap (λ l. disk_mark ++ l) (append_assoc (word_bytes (length x)) (files_bytes x) t) in
    let marks = same_front disk_mark disk_mark _ _ (sym (opened d r) ∙ e ∙ opened c s) refl in
    let count = same_front (word_bytes (length d)) (word_bytes (length c)) _ _ marks.1 refl in
    files_only None None d c r s h.files g.files ((word_only 0 (length c) (length d)).1 count.0) count.1

-- bytes behind a disk file
pub bad_behind : (bytes rest : List ℕ) (d : List Stored) → IsDisk d → bytes ≡ disk_file d ++ rest → length (disk_file d) < length bytes → IsBadAt bytes (length (disk_file d))
bad_behind bytes rest d is e lt =
    let n = length (disk_file d) in
    let front : take n bytes ≡ disk_file d = ap (take n) e ∙ take_at (disk_file d) rest n refl in
    record {
      within = omega (arith, lt);
      so_far = (disk_file d, (d, is, refl), ([], sym (append-nil (disk_file d)) ∙ ap (λ l. l ++ []) (sym front)));
      no_further = λ _ whole is_file begins.
          let c = is_file.0 in
          let more : bytes ≡ take (n + 1) bytes ++ drop (n + 1) bytes = sym (take-append-drop (n + 1) bytes) in
          let long : length (take (n + 1) bytes) ≡ n + 1 = length-take-le (n + 1) bytes (omega (arith, lt)) in
          let split : take (n + 1) bytes ≡ disk_file d ++ drop n (take (n + 1) bytes) = sym (take-append-drop n (take (n + 1) bytes)) ∙ ap (λ l. l ++ drop n (take (n + 1) bytes)) (take-take n (n + 1) bytes (omega arith) ∙ front) in
          let same = disk_only c d [] (drop n (take (n + 1) bytes) ++ begins.0) is_file.1 is (append-nil (disk_file c) ∙ sym is_file.2 ∙ begins.1 ∙ ap (λ l. l ++ begins.0) split ∙ append_assoc (disk_file d) (drop n (take (n + 1) bytes)) begins.0) in
          let none : 0 ≡ length (drop n (take (n + 1) bytes)) + length begins.0 = ap length same.1 ∙ length-append (drop n (take (n + 1) bytes)) begins.0 in
          absurd (omega (arith, none, length-drop n (take (n + 1) bytes), long));
      early = λ at. absurd (omega (arith, lt, at));
    }

-- the disk of bytes that were read to the end of its files
pub whole_disk : (bytes rest : List ℕ) (d : List Stored) (n : ℕ) → n ≤ 64 → AreFiles None n 8000 d → bytes ≡ disk_mark ++ (word_bytes n ++ (files_bytes d ++ rest)) → IsDisk d × (bytes ≡ disk_file d ++ rest)
whole_disk bytes rest d n le h e =
    let count : length d ≡ n = h.count_is in (
      record { files = h.files; few = subst (λ m. m ≤ 64) (sym count) le; small = h.small },
      e
          ∙ ap (λ m. disk_mark ++ (word_bytes m ++ (files_bytes d ++ rest))) (sym count)
          ∙ ap (λ l. disk_mark ++ l) (sym (append_assoc (word_bytes (length d)) (files_bytes d) rest))
          ∙ sym (append_assoc disk_mark (word_bytes (length d) ++ files_bytes d) rest),
    )

-- the file of a disk is that of no other, and is not refused
pub told_by_file : (d c : List Stored) → IsDisk d → IsDisk c → disk_file d ≡ disk_file c → d ≡ c
told_by_file d c h g e = (disk_only d c [] [] h g (ap (λ l. l ++ []) e)).0

pub never_bad : (d : List Stored) (k : ℕ) → IsDisk d → IsBadAt (disk_file d) k → ⊥
never_bad d k is h = member_goes_on (disk_file d) k (d, is, refl) h
