-- Files in ascending order of their names, and what becomes of them.
use Rattle.std.proofs.Common.{◌≡◌, ℕ, zero, suc, ◌+◌, ◌<◌, ◌≤◌, Bool, true, false, not, cond, List, [], ◌∷◌, ◌++◌, length, set, get_or, replicate, refl, sym, ap, ◌∙◌, inl, inr, ◌⊎◌, subst, arith, nat_lt, ◌==◌}
use Rattle.std.specs.Prelude.{Option, Some, None, IsSome, is_some, insert, remove}
use Rattle.std.specs.List.{All, filter, find, list_all, sum_by, position, position_or_len}
use Rattle.std.specs.Str.{bytes_eq}
use Rattle.std.proofs.lemmas.Bool.{both_ways, false≢true, ltb-true, ltb-false, eqb-true, and_parts}
use Rattle.std.proofs.lemmas.List.Folds.{find_at}
use Rattle.std.proofs.lemmas.List.Elements.{All-set, All-append, All-replicate}
use Rattle.std.proofs.lemmas.List.Filters.{length-filter_both, sum_by-filter_both}
use Rattle.std.proofs.lemmas.List.Sums.{sum_by-cons, sum_by-insert, sum_by-remove, sum_by-set}
use Rattle.std.proofs.lemmas.List.{length-set, length-append, length-replicate}
use Rattle.std.proofs.lemmas.List.Edits.{length-insert, length-remove}
use Rattle.std.proofs.lemmas.Option.{slice_get-get_or, slice_get_past}
use Rattle.std.proofs.lemmas.Slice.Eq.{bytes_eq-Decides}
use Rattle.bdos_small.specs.Names.{is_name_byte, is_file_name, is_before, is_after}
use Rattle.bdos_small.proofs.Order.{before_trans, before_back, before_cases, before_differs_back, after_later}
use Rattle.bdos_small.specs.Stored.{Stored, zero_record}
use Rattle.bdos_small.specs.Disks.{IsStoredFile, AreFilesAfter, records_in, IsDisk, has_name, file_named, with_file, without_file, with_records, growth, written_at}

abbrev pub count_of : Stored → ℕ
count_of f = length f.records

-- what comes after a name comes after an earlier one
pub files_later : (last : Option (List ℕ)) (name : List ℕ) (fs : List Stored) → is_after last name ≡ true → AreFilesAfter (Some name) fs → AreFilesAfter last fs
files_later last name [] e h = tt
files_later last name (f ∷ fs) e h = (h.0, after_later last name f.name e h.1, h.2)

-- a part of the files
filter_by : (p : Stored → Bool) (last : Option (List ℕ)) (f : Stored) (fs : List Stored) → AreFilesAfter last (f ∷ fs) → AreFilesAfter (Some f.name) (filter p fs) → (b : Bool) → AreFilesAfter last (cond b (f ∷ filter p fs) (filter p fs))
filter_by p last f fs h rest true = (h.0, h.1, rest)
filter_by p last f fs h rest false = files_later last f.name (filter p fs) h.1 rest

pub files-filter : (p : Stored → Bool) (last : Option (List ℕ)) (fs : List Stored) → AreFilesAfter last fs → AreFilesAfter last (filter p fs)
files-filter p last [] h = tt
files-filter p last (f ∷ fs) h = filter_by p last f fs h (files-filter p (Some f.name) fs h.2) (p f)

pub disk-filter : (p : Stored → Bool) (d : List Stored) → IsDisk d → IsDisk (filter p d)
disk-filter p d h =
    let few : length d ≤ 64 = h.few in
    let small : sum_by count_of d ≤ 8000 = h.small in
    let lengths = length-filter_both p (λ f. not (p f)) (λ _. refl) d in
    let sums = sum_by-filter_both p (λ f. not (p f)) (λ _. refl) count_of d in
    record {
      files = files-filter p None d h.files;
      few = omega arith;
      small = omega arith;
    }

-- the files that come after a name all do
abbrev pub before : List ℕ → Stored → Bool
before name g = is_before g.name name

abbrev after : List ℕ → Stored → Bool
after name g = is_before name g.name

none_before : (name m : List ℕ) (fs : List Stored) → is_before name m ≡ true → AreFilesAfter (Some m) fs → filter (before name) fs ≡ []
none_before name m [] e h = refl
none_before name m (f ∷ fs) e h =
    let later = before_trans name m f.name e h.1 in
    ap (λ b. cond b (f ∷ filter (before name) fs) (filter (before name) fs)) (before_back name f.name later)
    ∙ none_before name f.name fs later h.2

all_after : (name m : List ℕ) (fs : List Stored) → is_before name m ≡ true → AreFilesAfter (Some m) fs → filter (after name) fs ≡ fs
all_after name m [] e h = refl
all_after name m (f ∷ fs) e h =
    let later = before_trans name m f.name e h.1 in
    ap (λ b. cond b (f ∷ filter (after name) fs) (filter (after name) fs)) later
    ∙ ap (λ l. f ∷ l) (all_after name f.name fs later h.2)

-- the first of the files comes before a new one, or after it
module _ (n g : Stored) (fs : List Stored) where
  first_before : is_before g.name n.name ≡ true → with_file n (g ∷ fs) ≡ g ∷ with_file n fs
  first_before e =
      ap (λ b. cond b (g ∷ filter (before n.name) fs) (filter (before n.name) fs) ++ n ∷ cond (is_before n.name g.name) (g ∷ filter (after n.name) fs) (filter (after n.name) fs)) e
      ∙ ap (λ b. (g ∷ filter (before n.name) fs) ++ n ∷ cond b (g ∷ filter (after n.name) fs) (filter (after n.name) fs)) (before_back g.name n.name e)

  first_after : is_before n.name g.name ≡ true → AreFilesAfter (Some g.name) fs → with_file n (g ∷ fs) ≡ n ∷ (g ∷ fs)
  first_after e h =
      ap (λ b. cond b (g ∷ filter (before n.name) fs) (filter (before n.name) fs) ++ n ∷ cond (is_before n.name g.name) (g ∷ filter (after n.name) fs) (filter (after n.name) fs)) (before_back n.name g.name e)
      ∙ ap (λ b. filter (before n.name) fs ++ n ∷ cond b (g ∷ filter (after n.name) fs) (filter (after n.name) fs)) e
      ∙ ap (λ l. l ++ n ∷ (g ∷ filter (after n.name) fs)) (none_before n.name g.name fs e h)
      ∙ ap (λ l. n ∷ (g ∷ l)) (all_after n.name g.name fs e h)

  count_before : is_before g.name n.name ≡ true → length (filter (before n.name) (g ∷ fs)) ≡ suc (length (filter (before n.name) fs))
  count_before e = ap (λ b. length (cond b (g ∷ filter (before n.name) fs) (filter (before n.name) fs))) e

  count_after : is_before n.name g.name ≡ true → AreFilesAfter (Some g.name) fs → length (filter (before n.name) (g ∷ fs)) ≡ 0
  count_after e h =
      ap (λ b. length (cond b (g ∷ filter (before n.name) fs) (filter (before n.name) fs))) (before_back n.name g.name e)
      ∙ ap length (none_before n.name g.name fs e h)

-- that no file has a name, of the first file and of the others
not_named : (name : List ℕ) (g : Stored) (fs : List Stored) → file_named name (g ∷ fs) ≡ None → (bytes_eq g.name name ≡ false) × (file_named name fs ≡ None)
not_named name g fs e = by_test (bytes_eq g.name name) e
  where
    by_test : (b : Bool) → cond b (Some g) (file_named name fs) ≡ None → (b ≡ false) × (file_named name fs ≡ None)
    by_test true e = cc
    by_test false e = (refl, e)

others : (name : List ℕ) (g : Stored) → bytes_eq g.name name ≡ false → g.name ≡ name → ⊥
others name g e same = both_ways (bytes_eq g.name name) e ((bytes_eq-Decides g.name name).1 same)

-- a new file in its place
insert_by : (n g : Stored) (fs : List Stored) → AreFilesAfter (Some g.name) fs → file_named n.name (g ∷ fs) ≡ None → insert fs (length (filter (before n.name) fs)) n ≡ with_file n fs → (is_before g.name n.name ≡ true) ⊎ ((g.name ≡ n.name) ⊎ (is_before n.name g.name ≡ true)) → insert (g ∷ fs) (length (filter (before n.name) (g ∷ fs))) n ≡ with_file n (g ∷ fs)
insert_by n g fs h free rest (inl e) =
    ap (λ k. insert (g ∷ fs) k n) (count_before n g fs e) ∙ ap (λ l. g ∷ l) rest ∙ sym (first_before n g fs e)
insert_by n g fs h free rest (inr (inl same)) = absurd (others n.name g (not_named n.name g fs free).0 same)
insert_by n g fs h free rest (inr (inr e)) = ap (λ k. insert (g ∷ fs) k n) (count_after n g fs e h) ∙ sym (first_after n g fs e h)

pub with_file-insert : (n : Stored) (last : Option (List ℕ)) (fs : List Stored) → AreFilesAfter last fs → file_named n.name fs ≡ None → insert fs (length (filter (before n.name) fs)) n ≡ with_file n fs
with_file-insert n last [] h free = refl
with_file-insert n last (g ∷ fs) h free =
    insert_by n g fs h.2 free (with_file-insert n (Some g.name) fs h.2 (not_named n.name g fs free).1) (before_cases g.name n.name)

files_by : (n g : Stored) (last : Option (List ℕ)) (fs : List Stored) → IsStoredFile n → is_after last n.name ≡ true → AreFilesAfter last (g ∷ fs) → file_named n.name (g ∷ fs) ≡ None → (is_before g.name n.name ≡ true → AreFilesAfter (Some g.name) (with_file n fs)) → (is_before g.name n.name ≡ true) ⊎ ((g.name ≡ n.name) ⊎ (is_before n.name g.name ≡ true)) → AreFilesAfter last (with_file n (g ∷ fs))
files_by n g last fs new here h free rest (inl e) = subst (AreFilesAfter last) (sym (first_before n g fs e)) (h.0, h.1, rest e)
files_by n g last fs new here h free rest (inr (inl same)) = absurd (others n.name g (not_named n.name g fs free).0 same)
files_by n g last fs new here h free rest (inr (inr e)) = subst (AreFilesAfter last) (sym (first_after n g fs e h.2)) (new, here, (h.0, e, h.2))

pub files-with_file : (n : Stored) (last : Option (List ℕ)) (fs : List Stored) → IsStoredFile n → is_after last n.name ≡ true → AreFilesAfter last fs → file_named n.name fs ≡ None → AreFilesAfter last (with_file n fs)
files-with_file n last [] new here h free = (new, here, tt)
files-with_file n last (g ∷ fs) new here h free =
    files_by n g last fs new here h free (λ e. files-with_file n (Some g.name) fs new e h.2 (not_named n.name g fs free).1) (before_cases g.name n.name)

-- the disk with one file more
pub disk-with_file : (n : Stored) (d : List Stored) → IsStoredFile n → IsDisk d → file_named n.name d ≡ None → length d < 64 → records_in d + length n.records ≤ 8000 → IsDisk (with_file n d)
disk-with_file n d new h free room small =
    let k = length (filter (before n.name) d) in
    let same = with_file-insert n None d h.files free in
    let within = length-filter_both (before n.name) (λ f. not (before n.name f)) (λ _. refl) d in
    let longer : length (with_file n d) ≡ length d + 1 = sym (ap length same) ∙ length-insert d k n (omega arith) in
    let more : records_in (with_file n d) ≡ records_in d + length n.records = sym (ap records_in same) ∙ sum_by-insert count_of d k n in
    record {
      files = files-with_file n None d new refl h.files free;
      few = omega arith;
      small = omega arith;
    }

-- the place of the file of a name
module _ (name : List ℕ) where
  abbrev place : List Stored → ℕ
  place fs = position_or_len (has_name name) fs

  pub found_place : (fs : List Stored) (k : ℕ) → position (has_name name) fs ≡ Some k → (k ≡ place fs) × (k < length fs)
  found_place fs k e = by_test (nat_lt (place fs) (length fs)) refl e
    where
      by_test : (b : Bool) → nat_lt (place fs) (length fs) ≡ b → cond b (Some (place fs)) None ≡ Some k → (k ≡ place fs) × (k < length fs)
      by_test true t e = let same : k ≡ place fs = cc in let lt = ltb-true (place fs) (length fs) t in (same, omega arith)
      by_test false t e = cc

  pub no_place : (fs : List Stored) → position (has_name name) fs ≡ None → file_named name fs ≡ None
  no_place fs e = by_test (nat_lt (place fs) (length fs)) refl e
    where
      by_test : (b : Bool) → nat_lt (place fs) (length fs) ≡ b → cond b (Some (place fs)) None ≡ None → file_named name fs ≡ None
      by_test true t e = cc
      by_test false t e = find_at (has_name name) fs ∙ slice_get_past fs (place fs) (ltb-false (place fs) (length fs) t)

  pub unfound : (fs : List Stored) → position (has_name name) fs ≡ None → IsSome (file_named name fs) → ⊥
  unfound fs e some = false≢true (ap is_some (sym (no_place fs e)) ∙ some)

  -- no later file has the name
  all_others : (fs : List Stored) → AreFilesAfter (Some name) fs → without_file name fs ≡ fs
  all_others [] h = refl
  all_others (f ∷ fs) h =
      ap (λ b. cond (not b) (f ∷ without_file name fs) (without_file name fs)) (before_differs_back name f.name h.1)
      ∙ ap (λ l. f ∷ l) (all_others fs (files_later (Some name) f.name fs h.1 h.2))

  all_kept : (records : List (List ℕ)) (fs : List Stored) → AreFilesAfter (Some name) fs → with_records name records fs ≡ fs
  all_kept records [] h = refl
  all_kept records (f ∷ fs) h =
      ap (λ b. cond b (record { name = f.name; records = records }) f ∷ with_records name records fs) (before_differs_back name f.name h.1)
      ∙ ap (λ l. f ∷ l) (all_kept records fs (files_later (Some name) f.name fs h.1 h.2))

  same_name : (f : Stored) → has_name name f ≡ true → f.name ≡ name
  same_name f e = (bytes_eq-Decides f.name name).0 e

  follow : (f : Stored) (fs : List Stored) → has_name name f ≡ true → AreFilesAfter (Some f.name) fs → AreFilesAfter (Some name) fs
  follow f fs e h = subst (λ n. AreFilesAfter (Some n) fs) (same_name f e) h

  remove_by : (last : Option (List ℕ)) (f : Stored) (fs : List Stored) → AreFilesAfter last (f ∷ fs) → (b : Bool) → has_name name f ≡ b → (place fs < length fs → remove fs (place fs) ≡ without_file name fs) → cond (not b) (1 + place fs) 0 < suc (length fs) → remove (f ∷ fs) (cond (not b) (1 + place fs) 0) ≡ cond (not b) (f ∷ without_file name fs) (without_file name fs)
  remove_by last f fs h true e rest lt = sym (all_others fs (follow f fs e h.2))
  remove_by last f fs h false e rest lt =
      let one : 1 + place fs ≡ suc (place fs) = omega arith in
      ap (remove (f ∷ fs)) one ∙ ap (λ l. f ∷ l) (rest (omega arith))

  pub remove-place : (last : Option (List ℕ)) (fs : List Stored) → AreFilesAfter last fs → place fs < length fs → remove fs (place fs) ≡ without_file name fs
  remove-place last [] h lt = refl
  remove-place last (f ∷ fs) h lt = remove_by last f fs h (has_name name f) refl (remove-place (Some f.name) fs h.2) lt

  set_by : (records : List (List ℕ)) (last : Option (List ℕ)) (f d : Stored) (fs : List Stored) → AreFilesAfter last (f ∷ fs) → (b : Bool) → has_name name f ≡ b → (place fs < length fs → set fs (place fs) (record { name = (get_or fs (place fs) d).name; records = records }) ≡ with_records name records fs) → cond (not b) (1 + place fs) 0 < suc (length fs) → set (f ∷ fs) (cond (not b) (1 + place fs) 0) (record { name = (get_or (f ∷ fs) (cond (not b) (1 + place fs) 0) d).name; records = records }) ≡ cond b (record { name = f.name; records = records }) f ∷ with_records name records fs
  set_by records last f d fs h true e rest lt = ap (λ l. record { name = f.name; records = records } ∷ l) (sym (all_kept records fs (follow f fs e h.2)))
  set_by records last f d fs h false e rest lt =
      let one : 1 + place fs ≡ suc (place fs) = omega arith in
      ap (λ k. set (f ∷ fs) k (record { name = (get_or (f ∷ fs) k d).name; records = records })) one ∙ ap (λ l. f ∷ l) (rest (omega arith))

  pub set-place : (records : List (List ℕ)) (last : Option (List ℕ)) (fs : List Stored) (d : Stored) → AreFilesAfter last fs → place fs < length fs → set fs (place fs) (record { name = (get_or fs (place fs) d).name; records = records }) ≡ with_records name records fs
  set-place records last [] d h lt = refl
  set-place records last (f ∷ fs) d h lt = set_by records last f d fs h (has_name name f) refl (set-place records (Some f.name) fs d h.2) lt

  pub file_at_place : (fs : List Stored) (d : Stored) → place fs < length fs → file_named name fs ≡ Some (get_or fs (place fs) d)
  file_at_place fs d lt = find_at (has_name name) fs ∙ slice_get-get_or fs (place fs) d lt

  -- a name that no file has is no part's
  free_by : (p : Stored → Bool) (f : Stored) (fs : List Stored) → file_named name (f ∷ fs) ≡ None → file_named name (filter p fs) ≡ None → (b : Bool) → file_named name (cond b (f ∷ filter p fs) (filter p fs)) ≡ None
  free_by p f fs free rest true = ap (λ b. cond b (Some f) (file_named name (filter p fs))) (not_named name f fs free).0 ∙ rest
  free_by p f fs free rest false = rest

  pub free-filter : (p : Stored → Bool) (fs : List Stored) → file_named name fs ≡ None → file_named name (filter p fs) ≡ None
  free-filter p [] free = refl
  free-filter p (f ∷ fs) free = free_by p f fs free (free-filter p fs (not_named name f fs free).1) (p f)

  -- other records of a file
  named_by : (records : List (List ℕ)) (f : Stored) (b : Bool) → (cond b (record { name = f.name; records = records }) f).name ≡ f.name
  named_by records f true = refl
  named_by records f false = refl

  given_by : (records : List (List ℕ)) (f : Stored) → All (λ r. length r ≡ 128) records → IsStoredFile f → (b : Bool) → IsStoredFile (cond b (record { name = f.name; records = records }) f)
  given_by records f whole is true = record { name = is.name; records = whole }
  given_by records f whole is false = is

  pub files-with_records : (records : List (List ℕ)) (last : Option (List ℕ)) (fs : List Stored) → All (λ r. length r ≡ 128) records → AreFilesAfter last fs → AreFilesAfter last (with_records name records fs)
  files-with_records records last [] whole h = tt
  files-with_records records last (f ∷ fs) whole h =
      let same = sym (named_by records f (has_name name f)) in (
        given_by records f whole h.0 (has_name name f),
        subst (λ n. is_after last n ≡ true) same h.1,
        subst (λ n. AreFilesAfter (Some n) (with_records name records fs)) same (files-with_records records (Some f.name) fs whole h.2),
      )

-- a file among others
pub file-at : (last : Option (List ℕ)) (fs : List Stored) (k : ℕ) (d : Stored) → AreFilesAfter last fs → k < length fs → IsStoredFile (get_or fs k d)
file-at last [] k d h lt = absurd (omega arith)
file-at last (f ∷ fs) zero d h lt = h.0
file-at last (f ∷ fs) (suc k) d h lt = file-at (Some f.name) fs k d h.2 (omega arith)

-- the records after one is written
pub length-written_at : (position : ℕ) (r : List ℕ) (records : List (List ℕ)) → length (written_at position r records) ≡ length records + growth position records
length-written_at position r records =
    let g = growth position records in
    let grown : List (List ℕ) = records ++ replicate g zero_record in
    length-set grown position r ∙ length-append records (replicate g zero_record) ∙ ap (λ n. length records + n) (length-replicate g zero_record)

pub whole-written_at : (position : ℕ) (r : List ℕ) (records : List (List ℕ)) → length r ≡ 128 → All (λ r. length r ≡ 128) records → All (λ r. length r ≡ 128) (written_at position r records)
whole-written_at position r records one whole =
    let g = growth position records in
    All-set (λ r. length r ≡ 128) (records ++ replicate g zero_record) position r one
    (All-append (λ r. length r ≡ 128) records (replicate g zero_record) whole (All-replicate (λ r. length r ≡ 128) g zero_record (length-replicate {A = ℕ} 128 0)))

-- the disk after a file is renamed
pub disk-renamed : (from to : List ℕ) (d : List Stored) (f : Stored) → IsDisk d → is_file_name to ≡ true → file_named to d ≡ None → position_or_len (has_name from) d < length d → f ≡ get_or d (position_or_len (has_name from) d) f → IsDisk (with_file (record { name = to; records = f.records }) (without_file from d))
disk-renamed from to d f h lawful free lt is =
    let k = position_or_len (has_name from) d in
    let n : Stored = record { name = to; records = f.records } in
    let rest = without_file from d in
    let same : remove d k ≡ rest = remove-place from None d h.files lt in
    let shorter : length rest + 1 ≡ length d = ap (λ l. length l + 1) (sym same) ∙ length-remove d k lt in
    let fewer : records_in rest + length f.records ≡ records_in d = ap (λ l. records_in l + length f.records) (sym same) ∙ ap (λ x. records_in (remove d k) + length x.records) is ∙ sum_by-remove count_of d k f lt in
    let few : length d ≤ 64 = h.few in
    let small : records_in d ≤ 8000 = h.small in
    let kept : IsStoredFile f = subst IsStoredFile (sym is) (file-at None d k f h.files lt) in
    disk-with_file n rest (record { name = lawful; records = kept.records }) (disk-filter (λ g. not (has_name from g)) d h) (free-filter to (λ g. not (has_name from g)) d free) (omega arith) (omega arith)

-- the disk after a record is written
pub disk-written : (name : List ℕ) (position : ℕ) (r : List ℕ) (d : List Stored) (f : Stored) → IsDisk d → length r ≡ 128 → position_or_len (has_name name) d < length d → f ≡ get_or d (position_or_len (has_name name) d) f → records_in d + growth position f.records ≤ 8000 → IsDisk (with_records name (written_at position r f.records) d)
disk-written name position r d f h one lt is room =
    let k = position_or_len (has_name name) d in
    let records = written_at position r f.records in
    let kept : IsStoredFile f = subst IsStoredFile (sym is) (file-at None d k f h.files lt) in
    let whole = whole-written_at position r f.records one kept.records in
    let y : Stored = record { name = (get_or d k f).name; records = records } in
    let same : set d k y ≡ with_records name records d = set-place name records None d f h.files lt in
    let long : length records ≡ length f.records + growth position f.records = length-written_at position r f.records in
    let as_many : length (with_records name records d) ≡ length d = ap length (sym same) ∙ length-set d k y in
    let more : records_in (with_records name records d) + length f.records ≡ records_in d + length records = ap (λ l. records_in l + length f.records) (sym same) ∙ ap (λ x. records_in (set d k y) + length x.records) is ∙ sum_by-set count_of d k y f lt in
    let few : length d ≤ 64 = h.few in
    record {
      files = files-with_records name records None d whole h.files;
      few = omega arith;
      small = omega arith;
    }

-- a file that is found among others
found_by : (p : Stored → Bool) (last : Option (List ℕ)) (g f : Stored) (fs : List Stored) → AreFilesAfter last (g ∷ fs) → (find p fs ≡ Some f → IsStoredFile f × (length f.records ≤ records_in fs)) → (b : Bool) → cond b (Some g) (find p fs) ≡ Some f → IsStoredFile f × (length f.records ≤ records_in (g ∷ fs))
found_by p last g f fs h rest true e =
    let same : g ≡ f = cc in
    let sum = sum_by-cons count_of g fs in
    subst (λ x. IsStoredFile x × (length x.records ≤ records_in (g ∷ fs))) same (h.0, omega arith)
found_by p last g f fs h rest false e =
    let found = rest e in
    let sum = sum_by-cons count_of g fs in
    (found.0, omega (arith, found.1))

found_among : (p : Stored → Bool) (last : Option (List ℕ)) (f : Stored) (fs : List Stored) → AreFilesAfter last fs → find p fs ≡ Some f → IsStoredFile f × (length f.records ≤ records_in fs)
found_among p last f [] h e = cc
found_among p last f (g ∷ fs) h e = found_by p last g f fs h (found_among p (Some g.name) f fs h.2) (p g) e

-- what is known of a file of a disk
pub record IsKept (f : Stored) : Type 0 where
  pub name : length f.name ≡ 11
  pub whole : All (λ r. length r ≡ 128) f.records
  pub few : length f.records ≤ 8000

pub found_on_disk : (p : Stored → Bool) (d : List Stored) (f : Stored) → IsDisk d → find p d ≡ Some f → IsKept f
found_on_disk p d f h e =
    let found = found_among p None f d h.files e in
    let small : records_in d ≤ 8000 = h.small in
    record {
      name = eqb-true (length f.name) 11 (and_parts (length f.name == 11) (list_all is_name_byte f.name) found.0.name).0;
      whole = found.0.records;
      few = omega (arith, found.1);
    }
