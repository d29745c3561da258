-- The replies of the functions of files fit.
use Rattle.std.proofs.Common.{◌≡◌, ℕ, ◌+◌, ◌*◌, ◌≤◌, ◌==◌, ◌&&◌, nat_lt, nat_le, Bool, true, false, cond, List, [], ◌∷◌, length, take, drop, replicate, refl, sym, ap, ◌∙◌, arith}
use Rattle.std.specs.Prelude.{Option, Some, None, OnSome, slice_get, slice_index}
use Rattle.std.proofs.lemmas.Bool.{eqb-true}
use Rattle.std.proofs.lemmas.List.{length-append, length-map, length-take, length-drop}
use Rattle.std.proofs.lemmas.Option.{slice_get_within, get_or_from_slice_get}
use Rattle.dialogue.specs.declared.request.Request.{Request}
use Rattle.dialogue.specs.Table.{row_of}
use Rattle.dialogue.specs.Fits.{fits}
use Rattle.dialogue.specs.Lawful.{IsLawfulRequest}
use Rattle.bdos_small.specs.Names.{is_after, low_seven, name_in_block}
use Rattle.bdos_small.specs.Stored.{Stored}
use Rattle.bdos_small.specs.Disks.{IsDisk, records_in, has_match, file_named, has_name, first_matching, next_matching, any_matching, growth, written_at, with_file, without_file, with_records, without_matching}
use Rattle.bdos_small.proofs.Files.{IsKept, found_on_disk}
use Rattle.bdos_small.specs.declared.directory.Search.{Search}
use Rattle.bdos_small.specs.Fcb.{records_from, position_of, drive_in, extent_in, position_in, random_position, fields_at, opened_fcb, directory_entry, random_bytes}
use Rattle.bdos_small.specs.Calls.{block_read, fcb_of, telling, reply_writing, writing_both, done, not_found}
use Rattle.bdos_small.specs.Files.{Changed, records_of, has_extent, opened, open_file, close_file, gives, search_first, search_next, delete_file, is_free, make_file, renamed, rename_file, record_read, file_read, read_at, read_sequential, read_random, file_written, write_at, write_sequential, write_random, file_size, set_random_record}
use Rattle.bdos_small.proofs.Fitting.{writes_by, telling_fits, writing_fits, both_fit}

-- how long what is written is
opened_len : (drive : ℕ) (name : List ℕ) (ex count : ℕ) → length name ≡ 11 → length (opened_fcb drive name ex count) ≡ 32
opened_len drive name ex count e =
    let rest : List ℕ = ex ∷ (0 ∷ (0 ∷ (records_from (128 * ex) count ∷ replicate 16 0))) in
    let all = length-append name rest in
    omega (arith, all, e)

entry_len : (name : List ℕ) (count : ℕ) → length name ≡ 11 → length (directory_entry name count) ≡ 128
entry_len name count e = omega (arith, length-append (opened_fcb 0 name 0 count) (replicate 96 0xE5), opened_len 0 name 0 count e)

name_len : (block : List ℕ) → 12 ≤ length block → length (name_in_block block) ≡ 11
name_len block le = omega (arith, length-map (take 11 (drop 1 block)) low_seven, length-take 11 (drop 1 block), length-drop 1 block)

-- replies of each function, by what they write
module _ (q : Request) (l : IsLawfulRequest q) where
  told_15 : q.shape.function ≡ 15 → (n : ℕ) → nat_lt n 256 ≡ true → fits q (telling n) ≡ true
  unfolding row_of
  told_15 is n e = telling_fits q l 15 is refl n e

  wrote_15 : q.shape.function ≡ 15 → (bytes : List ℕ) → length bytes ≡ 32 → fits q (reply_writing q 0 bytes) ≡ true
  unfolding row_of
  wrote_15 is bytes e = writing_fits q l 15 is refl 0 bytes refl (ap (λ n. writes_by (row_of 15) (n ∷ [])) e)

  open_by : q.shape.function ≡ 15 → (o : Option Stored) → ((f : Stored) → o ≡ Some f → IsKept f) → fits q (opened q o) ≡ true
  open_by is None kept = told_15 is 0xFF refl
  open_by is (Some f) kept = by_extent (has_extent (extent_in (fcb_of q)) f)
    where
      by_extent : (b : Bool) → fits q (cond b (reply_writing q 0 (opened_fcb (drive_in (fcb_of q)) f.name (extent_in (fcb_of q)) (length f.records))) not_found) ≡ true
      by_extent true = wrote_15 is (opened_fcb (drive_in (fcb_of q)) f.name (extent_in (fcb_of q)) (length f.records)) (opened_len (drive_in (fcb_of q)) f.name (extent_in (fcb_of q)) (length f.records) (kept f refl).name)
      by_extent false = told_15 is 0xFF refl

  pub open_fits : q.shape.function ≡ 15 → (d : List Stored) → IsDisk d → fits q (open_file d q) ≡ true
  open_fits is d h = open_by is (first_matching (name_in_block (fcb_of q)) d) (λ f e. found_on_disk (λ f. has_match (name_in_block (fcb_of q)) f && is_after None f.name) d f h e)

  told_16 : q.shape.function ≡ 16 → (n : ℕ) → nat_lt n 256 ≡ true → fits q (telling n) ≡ true
  unfolding row_of
  told_16 is n e = telling_fits q l 16 is refl n e

  pub close_fits : q.shape.function ≡ 16 → (d : List Stored) → fits q (close_file d q) ≡ true
  close_fits is d = by_match (any_matching (name_in_block (fcb_of q)) d)
    where
      by_match : (b : Bool) → fits q (cond b done not_found) ≡ true
      by_match true = told_16 is 0 refl
      by_match false = told_16 is 0xFF refl

  told_17 : q.shape.function ≡ 17 → (n : ℕ) → nat_lt n 256 ≡ true → fits q (telling n) ≡ true
  unfolding row_of
  told_17 is n e = telling_fits q l 17 is refl n e

  wrote_17 : q.shape.function ≡ 17 → (bytes : List ℕ) → length bytes ≡ 128 → fits q (reply_writing q 0 bytes) ≡ true
  unfolding row_of
  wrote_17 is bytes e = writing_fits q l 17 is refl 0 bytes refl (ap (λ n. writes_by (row_of 17) (n ∷ [])) e)

  first_by : q.shape.function ≡ 17 → (pattern : List ℕ) (o : Option Stored) → ((f : Stored) → o ≡ Some f → IsKept f) → fits q (gives q pattern o).reply ≡ true
  first_by is pattern None kept = told_17 is 0xFF refl
  first_by is pattern (Some f) kept = wrote_17 is (directory_entry f.name (length f.records)) (entry_len f.name (length f.records) (kept f refl).name)

  pub first_fits : q.shape.function ≡ 17 → (d : List Stored) → IsDisk d → fits q (search_first d q).reply ≡ true
  first_fits is d h = first_by is (name_in_block (fcb_of q)) (first_matching (name_in_block (fcb_of q)) d) (λ f e. found_on_disk (λ f. has_match (name_in_block (fcb_of q)) f && is_after None f.name) d f h e)

  told_18 : q.shape.function ≡ 18 → (n : ℕ) → nat_lt n 256 ≡ true → fits q (telling n) ≡ true
  unfolding row_of
  told_18 is n e = telling_fits q l 18 is refl n e

  wrote_18 : q.shape.function ≡ 18 → (bytes : List ℕ) → length bytes ≡ 128 → fits q (reply_writing q 0 bytes) ≡ true
  unfolding row_of
  wrote_18 is bytes e = writing_fits q l 18 is refl 0 bytes refl (ap (λ n. writes_by (row_of 18) (n ∷ [])) e)

  next_by : q.shape.function ≡ 18 → (pattern : List ℕ) (o : Option Stored) → ((f : Stored) → o ≡ Some f → IsKept f) → fits q (gives q pattern o).reply ≡ true
  next_by is pattern None kept = told_18 is 0xFF refl
  next_by is pattern (Some f) kept = wrote_18 is (directory_entry f.name (length f.records)) (entry_len f.name (length f.records) (kept f refl).name)

  pub next_fits : q.shape.function ≡ 18 → (d : List Stored) (s : Option Search) → OnSome s (IsDisk d) → fits q (search_next d s q).reply ≡ true
  next_fits is d None h = told_18 is 0xFF refl
  next_fits is d (Some s) h = next_by is s.pattern (next_matching s.pattern s.last d) (λ f e. found_on_disk (λ f. has_match s.pattern f && is_after s.last f.name) d f h e)

  told_19 : q.shape.function ≡ 19 → (n : ℕ) → nat_lt n 256 ≡ true → fits q (telling n) ≡ true
  unfolding row_of
  told_19 is n e = telling_fits q l 19 is refl n e

  pub delete_fits : q.shape.function ≡ 19 → (d : List Stored) → fits q (delete_file d q).reply ≡ true
  delete_fits is d = by_match (any_matching (name_in_block (fcb_of q)) d)
    where
      by_match : (b : Bool) → fits q (cond {A = Changed} b (record { reply = done; disk = without_matching (name_in_block (fcb_of q)) d }) (record { reply = not_found; disk = d })).reply ≡ true
      by_match true = told_19 is 0 refl
      by_match false = told_19 is 0xFF refl

  -- reading
  told_20 : q.shape.function ≡ 20 → (n : ℕ) → nat_lt n 256 ≡ true → fits q (telling n) ≡ true
  unfolding row_of
  told_20 is n e = telling_fits q l 20 is refl n e

  wrote_20 : q.shape.function ≡ 20 → (bytes others : List ℕ) → length bytes ≡ 21 → length others ≡ 128 → fits q (writing_both q 0 bytes others) ≡ true
  unfolding row_of
  wrote_20 is bytes others e f = both_fit q l 20 is refl 0 bytes others refl (ap (λ n. writes_by (row_of 20) (n ∷ (length others ∷ []))) e ∙ ap (λ n. writes_by (row_of 20) (21 ∷ (n ∷ []))) f)

  told_33 : q.shape.function ≡ 33 → (n : ℕ) → nat_lt n 256 ≡ true → fits q (telling n) ≡ true
  unfolding row_of
  told_33 is n e = telling_fits q l 33 is refl n e

  wrote_33 : q.shape.function ≡ 33 → (bytes others : List ℕ) → length bytes ≡ 21 → length others ≡ 128 → fits q (writing_both q 0 bytes others) ≡ true
  unfolding row_of
  wrote_33 is bytes others e f = both_fit q l 33 is refl 0 bytes others refl (ap (λ n. writes_by (row_of 33) (n ∷ (length others ∷ []))) e ∙ ap (λ n. writes_by (row_of 33) (21 ∷ (n ∷ []))) f)

  -- a record of a file of the disk
  read_by : (position after : ℕ) (o : Option Stored) → ((f : Stored) → o ≡ Some f → IsKept f) → ((n : ℕ) → nat_lt n 256 ≡ true → fits q (telling n) ≡ true) → ((bytes others : List ℕ) → length bytes ≡ 21 → length others ≡ 128 → fits q (writing_both q 0 bytes others) ≡ true) → fits q (file_read q position after o) ≡ true
  read_by position after None kept told wrote = told 1 refl
  read_by position after (Some f) kept told wrote = by_record (slice_get f.records position) refl
    where
      by_record : (r : Option (List ℕ)) → slice_get f.records position ≡ r → fits q (record_read q (length f.records) after r) ≡ true
      by_record None e = told 1 refl
      by_record (Some r) e =
          let long = (kept f refl).whole position r (slice_get_within f.records position r e) in
          wrote (fields_at after (length f.records)) r refl (ap length (sym (get_or_from_slice_get f.records position r r e)) ∙ long)

  kept_named : (d : List Stored) → IsDisk d → (f : Stored) → file_named (name_in_block (fcb_of q)) d ≡ Some f → IsKept f
  kept_named d h f e = found_on_disk (has_name (name_in_block (fcb_of q))) d f h e

  pub read_fits : q.shape.function ≡ 20 → (d : List Stored) → IsDisk d → fits q (read_sequential d q) ≡ true
  read_fits is d h = read_by (position_in (fcb_of q)) (position_in (fcb_of q) + 1) (file_named (name_in_block (fcb_of q)) d) (kept_named d h) (told_20 is) (wrote_20 is)

  pub read_random_fits : q.shape.function ≡ 33 → (d : List Stored) → (slice_index (block_read 1 q) 2 ≡ 0 → IsDisk d) → fits q (read_random d q) ≡ true
  read_random_fits is d h = by_third (slice_index (block_read 1 q) 2 == 0) refl
    where
      by_third : (b : Bool) → (slice_index (block_read 1 q) 2 == 0) ≡ b → fits q (cond b (read_at d q (random_position (block_read 1 q)) (random_position (block_read 1 q))) (telling 6)) ≡ true
      by_third true e = read_by (random_position (block_read 1 q)) (random_position (block_read 1 q)) (file_named (name_in_block (fcb_of q)) d) (kept_named d (h (eqb-true (slice_index (block_read 1 q) 2) 0 e))) (told_33 is) (wrote_33 is)
      by_third false e = told_33 is 6 refl

  -- writing
  told_21 : q.shape.function ≡ 21 → (n : ℕ) → nat_lt n 256 ≡ true → fits q (telling n) ≡ true
  unfolding row_of
  told_21 is n e = telling_fits q l 21 is refl n e

  wrote_21 : q.shape.function ≡ 21 → (bytes : List ℕ) → length bytes ≡ 21 → fits q (reply_writing q 0 bytes) ≡ true
  unfolding row_of
  wrote_21 is bytes e = writing_fits q l 21 is refl 0 bytes refl (ap (λ n. writes_by (row_of 21) (n ∷ [])) e)

  told_34 : q.shape.function ≡ 34 → (n : ℕ) → nat_lt n 256 ≡ true → fits q (telling n) ≡ true
  unfolding row_of
  told_34 is n e = telling_fits q l 34 is refl n e

  wrote_34 : q.shape.function ≡ 34 → (bytes : List ℕ) → length bytes ≡ 21 → fits q (reply_writing q 0 bytes) ≡ true
  unfolding row_of
  wrote_34 is bytes e = writing_fits q l 34 is refl 0 bytes refl (ap (λ n. writes_by (row_of 34) (n ∷ [])) e)

  write_by : (d : List Stored) (position after : ℕ) (r : List ℕ) (o : Option Stored) → ((n : ℕ) → nat_lt n 256 ≡ true → fits q (telling n) ≡ true) → ((bytes : List ℕ) → length bytes ≡ 21 → fits q (reply_writing q 0 bytes) ≡ true) → fits q (file_written d q position after r o).reply ≡ true
  write_by d position after r None told wrote = told 2 refl
  write_by d position after r (Some f) told wrote = by_room (nat_le (records_in d + growth position f.records) 8000)
    where
      by_room : (b : Bool) → fits q (cond {A = Changed} b (record { reply = reply_writing q 0 (fields_at after (length (written_at position r f.records))); disk = with_records (name_in_block (fcb_of q)) (written_at position r f.records) d }) (record { reply = telling 2; disk = d })).reply ≡ true
      by_room true = wrote (fields_at after (length (written_at position r f.records))) refl
      by_room false = told 2 refl

  pub write_fits : q.shape.function ≡ 21 → (d : List Stored) → fits q (write_sequential d q).reply ≡ true
  write_fits is d = write_by d (position_in (fcb_of q)) (position_in (fcb_of q) + 1) (block_read 1 q) (file_named (name_in_block (fcb_of q)) d) (told_21 is) (wrote_21 is)

  pub write_random_fits : q.shape.function ≡ 34 → (d : List Stored) → fits q (write_random d q).reply ≡ true
  write_random_fits is d = by_third (slice_index (block_read 1 q) 2 == 0)
    where
      by_third : (b : Bool) → fits q (cond b (write_at d q (random_position (block_read 1 q)) (random_position (block_read 1 q)) (block_read 2 q)) (record { reply = telling 6; disk = d })).reply ≡ true
      by_third true = write_by d (random_position (block_read 1 q)) (random_position (block_read 1 q)) (block_read 2 q) (file_named (name_in_block (fcb_of q)) d) (told_34 is) (wrote_34 is)
      by_third false = told_34 is 6 refl

  -- making and renaming
  told_22 : q.shape.function ≡ 22 → (n : ℕ) → nat_lt n 256 ≡ true → fits q (telling n) ≡ true
  unfolding row_of
  told_22 is n e = telling_fits q l 22 is refl n e

  wrote_22 : q.shape.function ≡ 22 → (bytes : List ℕ) → length bytes ≡ 32 → fits q (reply_writing q 0 bytes) ≡ true
  unfolding row_of
  wrote_22 is bytes e = writing_fits q l 22 is refl 0 bytes refl (ap (λ n. writes_by (row_of 22) (n ∷ [])) e)

  pub make_fits : q.shape.function ≡ 22 → 12 ≤ length (fcb_of q) → (d : List Stored) → fits q (make_file d q).reply ≡ true
  make_fits is long d = by_room (is_free (name_in_block (fcb_of q)) d && nat_lt (length d) 64)
    where
      by_room : (b : Bool) → fits q (cond {A = Changed} b (record { reply = reply_writing q 0 (opened_fcb (drive_in (fcb_of q)) (name_in_block (fcb_of q)) (extent_in (fcb_of q)) 0); disk = with_file (record { name = name_in_block (fcb_of q); records = [] }) d }) (record { reply = not_found; disk = d })).reply ≡ true
      by_room true = wrote_22 is (opened_fcb (drive_in (fcb_of q)) (name_in_block (fcb_of q)) (extent_in (fcb_of q)) 0) (opened_len (drive_in (fcb_of q)) (name_in_block (fcb_of q)) (extent_in (fcb_of q)) 0 (name_len (fcb_of q) long))
      by_room false = told_22 is 0xFF refl

  told_23 : q.shape.function ≡ 23 → (n : ℕ) → nat_lt n 256 ≡ true → fits q (telling n) ≡ true
  unfolding row_of
  told_23 is n e = telling_fits q l 23 is refl n e

  rename_by : q.shape.function ≡ 23 → (d : List Stored) (from to : List ℕ) (o : Option Stored) → fits q (renamed d from to o).reply ≡ true
  rename_by is d from to None = told_23 is 0xFF refl
  rename_by is d from to (Some f) = by_room (is_free to d)
    where
      by_room : (b : Bool) → fits q (cond {A = Changed} b (record { reply = done; disk = with_file (record { name = to; records = f.records }) (without_file from d) }) (record { reply = not_found; disk = d })).reply ≡ true
      by_room true = told_23 is 0 refl
      by_room false = told_23 is 0xFF refl

  pub rename_fits : q.shape.function ≡ 23 → (d : List Stored) → fits q (rename_file d q).reply ≡ true
  rename_fits is d = rename_by is d (name_in_block (fcb_of q)) (name_in_block (block_read 1 q)) (file_named (name_in_block (fcb_of q)) d)

  -- sizes and positions
  pub size_fits : q.shape.function ≡ 35 → (d : List Stored) → fits q (file_size d q) ≡ true
  unfolding row_of
  size_fits is d = writing_fits q l 35 is refl 0 (random_bytes (records_of (file_named (name_in_block (fcb_of q)) d))) refl refl

  pub set_random_fits : q.shape.function ≡ 36 → fits q (set_random_record q) ≡ true
  unfolding row_of
  set_random_fits is = writing_fits q l 36 is refl 0 (random_bytes (position_of (slice_index (block_read 0 q) 0) (slice_index (block_read 1 q) 0) (slice_index (block_read 2 q) 0))) refl refl
