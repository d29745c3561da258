-- The functions of files, one by one (CP/M 2.2 Operating System Manual, section 5.3, "BDOS Functions"), over a disk with all files
-- of one user. A directory has one entry for a file, however long the file is, and nothing is lost where a file is not
-- closed: these are this project's choices, as are the bytes that the manual leaves open.
use Rattle.std.specs.Prelude.{ℕ, ◌+◌, ◌*◌, ◌==◌, ◌&&◌, ◌||◌, nat_le, nat_lt, Bool, cond, List, [], length, Option, Some, None, is_none, slice_get, slice_index}
use Rattle.dialogue.specs.declared.request.Request.{Request}
use Rattle.dialogue.specs.declared.request.Reply.{Reply}
use Rattle.bdos_small.specs.Names.{is_file_name, name_in_block}
use Rattle.bdos_small.specs.Stored.{Stored}
use Rattle.bdos_small.specs.Disks.{records_in, file_named, first_matching, next_matching, any_matching, without_matching, with_file, without_file, with_records, growth, written_at}
use Rattle.bdos_small.specs.declared.directory.Search.{Search}
use Rattle.bdos_small.specs.Fcb.{drive_in, extent_in, position_of, position_in, random_position, fields_at, opened_fcb, directory_entry, random_bytes}
use Rattle.bdos_small.specs.Calls.{block_read, fcb_of, telling, reply_writing, writing_both, done, not_found}

-- 15, open file: the first file whose name matches and no later one, where it has a record in the extent, or the extent is 0
abbrev pub has_extent : ℕ → Stored → Bool
has_extent ex f = (ex == 0) || nat_lt (128 * ex) (length f.records)

abbrev pub opened : Request → Option Stored → Reply
opened q None = not_found
opened q (Some f) =
    let ex = extent_in (fcb_of q) in
    cond (has_extent ex f) (reply_writing q 0 (opened_fcb (drive_in (fcb_of q)) f.name ex (length f.records))) not_found

abbrev pub open_file : List Stored → Request → Reply
open_file d q = opened q (first_matching (name_in_block (fcb_of q)) d)

-- 16, close file: whether a file's name matches
abbrev pub close_file : List Stored → Request → Reply
close_file d q = cond (any_matching (name_in_block (fcb_of q)) d) done not_found

-- what a search answers, and how it goes on (its pattern, and the last name that it gave); after the last match it has ended
pub record Searched : Type 0 where
  pub reply : Reply
  pub search : Option Search

abbrev pub gives : Request → List ℕ → Option Stored → Searched
gives q pattern None = record { reply = not_found; search = None }
gives q pattern (Some f) = record {
  reply = reply_writing q 0 (directory_entry f.name (length f.records));
  search = Some (record { pattern = pattern; last = Some f.name });
}

-- 17, search for first: the first file whose name matches
abbrev pub search_first : List Stored → Request → Searched
search_first d q =
    let pattern = name_in_block (fcb_of q) in
    gives q pattern (first_matching pattern d)

-- 18, search for next: the first file whose name matches the pattern of the last 17 and comes after the last name given
abbrev pub search_next : List Stored → Option Search → Request → Searched
search_next d None q = record { reply = not_found; search = None }
search_next d (Some s) q = gives q s.pattern (next_matching s.pattern s.last d)

-- what is answered, and the disk after it
pub record Changed : Type 0 where
  pub reply : Reply
  pub disk : List Stored

-- 19, delete file: all files whose names match
abbrev pub delete_file : List Stored → Request → Changed
delete_file d q =
    let pattern = name_in_block (fcb_of q) in
    cond (any_matching pattern d)
    (record { reply = done; disk = without_matching pattern d })
    (record { reply = not_found; disk = d })

-- a name that a new file may have on a disk
abbrev pub is_free : List ℕ → List Stored → Bool
is_free name d = is_file_name name && is_none (file_named name d)

-- 22, make file: a new file without records, where the disk has room for a file
abbrev pub make_file : List Stored → Request → Changed
make_file d q =
    let name = name_in_block (fcb_of q) in
    cond (is_free name d && nat_lt (length d) 64)
    (record {
      reply = reply_writing q 0 (opened_fcb (drive_in (fcb_of q)) name (extent_in (fcb_of q)) 0);
      disk = with_file (record { name = name; records = [] }) d;
    })
    (record { reply = not_found; disk = d })

-- 23, rename file: the file of the first name has the second, which is in the call's second block
abbrev pub renamed : List Stored → List ℕ → List ℕ → Option Stored → Changed
renamed d from to None = record { reply = not_found; disk = d }
renamed d from to (Some f) =
    cond (is_free to d)
    (record { reply = done; disk = with_file (record { name = to; records = f.records }) (without_file from d) })
    (record { reply = not_found; disk = d })

abbrev pub rename_file : List Stored → Request → Changed
rename_file d q =
    let from = name_in_block (fcb_of q) in
    renamed d from (name_in_block (block_read 1 q)) (file_named from d)

-- reading the record at a position: it goes to the DMA address, and the FCB then tells the position `after`. 1 is answered
-- where there is no such file or no such record
abbrev pub record_read : Request → ℕ → ℕ → Option (List ℕ) → Reply
record_read q count after None = telling 1
record_read q count after (Some r) = writing_both q 0 (fields_at after count) r

abbrev pub file_read : Request → ℕ → ℕ → Option Stored → Reply
file_read q position after None = telling 1
file_read q position after (Some f) = record_read q (length f.records) after (slice_get f.records position)

abbrev pub read_at : List Stored → Request → ℕ → ℕ → Reply
read_at d q position after = file_read q position after (file_named (name_in_block (fcb_of q)) d)

-- 20, read sequential: at the FCB's position, which then goes on by one
abbrev pub read_sequential : List Stored → Request → Reply
read_sequential d q =
    let position = position_in (fcb_of q) in
    read_at d q position (position + 1)

-- 33, read random: at the random position; 6 is answered where it has a third byte
abbrev pub read_random : List Stored → Request → Reply
read_random d q =
    let random = block_read 1 q in
    cond (slice_index random 2 == 0) (read_at d q (random_position random) (random_position random)) (telling 6)

-- writing the record at a position: the FCB then tells the position `after`. 2 is answered where there is no such file, or the disk
-- would have more than 8,000 records
abbrev pub file_written : List Stored → Request → ℕ → ℕ → List ℕ → Option Stored → Changed
file_written d q position after r None = record { reply = telling 2; disk = d }
file_written d q position after r (Some f) =
    let records = written_at position r f.records in
    cond (nat_le (records_in d + growth position f.records) 8000)
    (record { reply = reply_writing q 0 (fields_at after (length records)); disk = with_records (name_in_block (fcb_of q)) records d })
    (record { reply = telling 2; disk = d })

abbrev pub write_at : List Stored → Request → ℕ → ℕ → List ℕ → Changed
write_at d q position after r = file_written d q position after r (file_named (name_in_block (fcb_of q)) d)

-- 21, write sequential: at the FCB's position, which then goes on by one; the record is the call's second block
abbrev pub write_sequential : List Stored → Request → Changed
write_sequential d q =
    let position = position_in (fcb_of q) in
    write_at d q position (position + 1) (block_read 1 q)

-- 34, write random: at the random position; the record is the call's third block
abbrev pub write_random : List Stored → Request → Changed
write_random d q =
    let random = block_read 1 q in
    cond (slice_index random 2 == 0)
    (write_at d q (random_position random) (random_position random) (block_read 2 q))
    (record { reply = telling 6; disk = d })

-- 35, compute file size: the number of records; no file has none
abbrev pub records_of : Option Stored → ℕ
records_of None = 0
records_of (Some f) = length f.records

abbrev pub file_size : List Stored → Request → Reply
file_size d q = reply_writing q 0 (random_bytes (records_of (file_named (name_in_block (fcb_of q)) d)))

-- 36, set random record: the position that bytes 12, 14 and 32 tell, which are the call's blocks
abbrev pub set_random_record : Request → Reply
set_random_record q =
    reply_writing q 0 (random_bytes (position_of (slice_index (block_read 0 q) 0) (slice_index (block_read 1 q) 0) (slice_index (block_read 2 q) 0)))
