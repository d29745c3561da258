-- What a call that changes the disk comes to.
use Rattle.std.proofs.Common.{◌≡◌, refl, ◌∙◌, ◌&&◌, ℕ, ◌+◌, ◌<◌, ◌≤◌, List, [], length, nat_le, nat_lt, Some, true, false, sym, ap}
use Rattle.std.proofs.lemmas.Bool.{and_from, and_parts, lt-ltb, le-ltb, le-leb, lt-leb, cond-true, cond-false, false≢true}
use Rattle.std.proofs.Common.{Bor}
use Rattle.std.specs.Option.{option_copied}
use Rattle.std.specs.Prelude.{Option, None, is_none, is_some, IfSome}
use Rattle.dialogue.specs.declared.request.Request.{Request}
use Rattle.dialogue.specs.declared.request.Reply.{Reply}
use Rattle.bdos_small.specs.Stored.{Stored}
use Rattle.bdos_small.specs.Names.{is_file_name, name_in_block}
use Rattle.bdos_small.specs.Disks.{file_named, with_file, without_file, with_records, written_at, growth, records_in}
use Rattle.bdos_small.specs.Fcb.{drive_in, extent_in, fields_at, opened_fcb}
use Rattle.bdos_small.specs.Calls.{block_read, fcb_of, telling, reply_writing, done, not_found}
use Rattle.bdos_small.specs.Files.{Changed, is_free, make_file, renamed, rename_file, file_written, write_at}

changed : (y z : Reply) (d e : List Stored) → y ≡ z → d ≡ e → ◌≡◌ {A = Changed} (record { reply = y; disk = d }) (record { reply = z; disk = e })
changed y z d e p q = λ i. record { reply = p i; disk = q i }

no_file : (o : Option Stored) → is_none o ≡ true → o ≡ None
no_file None e = refl
no_file (Some f) e = cc

-- a new file may have a name
pub free_is : (name : List ℕ) (d : List Stored) → is_free name d ≡ true → (is_file_name name ≡ true) × (file_named name d ≡ None)
free_is name d free =
    let each = and_parts (is_file_name name) (is_none (file_named name d)) free in
    (each.0, no_file (file_named name d) each.1)

-- a file was made
pub made : (d : List Stored) (q : Request) (y : Reply) (new : List Stored) → is_free (name_in_block (fcb_of q)) d ≡ true → length d < 64
    → y ≡ reply_writing q 0 (opened_fcb (drive_in (fcb_of q)) (name_in_block (fcb_of q)) (extent_in (fcb_of q)) 0) → new ≡ with_file (record { name = name_in_block (fcb_of q); records = [] }) d
    → ◌≡◌ {A = Changed} (record { reply = y; disk = new }) (make_file d q)
made d q y new free room e f =
    changed y _ new _ e f ∙ sym (cond-true (is_free (name_in_block (fcb_of q)) d && nat_lt (length d) 64) _ _ (and_from (is_free (name_in_block (fcb_of q)) d) (nat_lt (length d) 64) free (lt-ltb (length d) 64 room)))

-- none was made: the name is not free, or the disk has no room for a file
pub not_free : (d : List Stored) (q : Request) (y : Reply) → is_free (name_in_block (fcb_of q)) d ≡ false → y ≡ not_found → ◌≡◌ {A = Changed} (record { reply = y; disk = d }) (make_file d q)
not_free d q y taken e =
    changed y _ d d e refl ∙ sym (cond-false (is_free (name_in_block (fcb_of q)) d && nat_lt (length d) 64) _ _ (ap (λ b. b && nat_lt (length d) 64) taken))

pub full : (d : List Stored) (q : Request) (y : Reply) → is_free (name_in_block (fcb_of q)) d ≡ true → 64 ≤ length d → y ≡ not_found → ◌≡◌ {A = Changed} (record { reply = y; disk = d }) (make_file d q)
full d q y free many e =
    changed y _ d d e refl ∙ sym (cond-false (is_free (name_in_block (fcb_of q)) d && nat_lt (length d) 64) _ _ (ap (λ b. b && nat_lt (length d) 64) free ∙ le-ltb (length d) 64 many))

-- a file was renamed; or none was: no file has the first name, or the second is not free
pub none_copied : {A : Type 0} (o : Option (Bor A)) → is_some o ≡ false → option_copied o ≡ None
none_copied None e = refl
none_copied (Some x) e = absurd (false≢true (sym e))

pub no_first : (d : List Stored) (q : Request) (y : Reply) → file_named (name_in_block (fcb_of q)) d ≡ None → y ≡ not_found → ◌≡◌ {A = Changed} (record { reply = y; disk = d }) (rename_file d q)
no_first d q y none e =
    changed y _ d d e refl ∙ sym (ap (renamed d (name_in_block (fcb_of q)) (name_in_block (block_read 1 q))) none)

second_taken : (d : List Stored) (from to : List ℕ) (o : Option Stored) (y : Reply) → is_free to d ≡ false → y ≡ not_found → ◌≡◌ {A = Changed} (record { reply = y; disk = d }) (renamed d from to o)
second_taken d from to None y taken e = changed y _ d d e refl
second_taken d from to (Some f) y taken e = changed y _ d d e refl ∙ sym (cond-false (is_free to d) _ _ taken)

pub no_second : (d : List Stored) (q : Request) (y : Reply) → is_free (name_in_block (block_read 1 q)) d ≡ false → y ≡ not_found → ◌≡◌ {A = Changed} (record { reply = y; disk = d }) (rename_file d q)
no_second d q y taken e =
    let from = name_in_block (fcb_of q) in
    second_taken d from (name_in_block (block_read 1 q)) (file_named from d) y taken e

pub some_copied : {A : Type 0} (o : Option (Bor A)) → is_some o ≡ true → is_some (option_copied o) ≡ true
some_copied None e = e
some_copied (Some x) e = e

pub renamed_by : (d : List Stored) (from to : List ℕ) (o : Option Stored) (y : Reply) (new : List Stored) → is_some o ≡ true → is_free to d ≡ true → y ≡ done
    → IfSome o (λ f. new ≡ with_file (record { name = to; records = f.records }) (without_file from d)) → ◌≡◌ {A = Changed} (record { reply = y; disk = new }) (renamed d from to o)
renamed_by d from to None y new some free e h = absurd (false≢true some)
renamed_by d from to (Some f) y new some free e h = changed y _ new _ e h ∙ sym (cond-true (is_free to d) _ _ free)

-- a record was written
pub written : (d : List Stored) (q : Request) (position after : ℕ) (r : List ℕ) (f : Stored) (y : Reply) (new : List Stored) → Some f ≡ file_named (name_in_block (fcb_of q)) d → records_in d + growth position f.records ≤ 8000
    → y ≡ reply_writing q 0 (fields_at after (length (written_at position r f.records))) → new ≡ with_records (name_in_block (fcb_of q)) (written_at position r f.records) d
    → ◌≡◌ {A = Changed} (record { reply = y; disk = new }) (write_at d q position after r)
written d q position after r f y new named room e g =
    changed y _ new _ e g
    ∙ (sym (cond-true (nat_le (records_in d + growth position f.records) 8000) _ _ (le-leb (records_in d + growth position f.records) 8000 room))
    ∙ ap (file_written d q position after r) named)

-- none was written: there is no file, or the disk has no room
pub unwritten_file : (d : List Stored) (q : Request) (position after : ℕ) (r : List ℕ) (y : Reply) → None ≡ file_named (name_in_block (fcb_of q)) d → y ≡ telling 2 → ◌≡◌ {A = Changed} (record { reply = y; disk = d }) (write_at d q position after r)
unwritten_file d q position after r y none e = changed y _ d d e refl ∙ ap (file_written d q position after r) none

pub unwritten : (d : List Stored) (q : Request) (position after : ℕ) (r : List ℕ) (f : Stored) (y : Reply) → Some f ≡ file_named (name_in_block (fcb_of q)) d → 8000 < records_in d + growth position f.records → y ≡ telling 2 → ◌≡◌ {A = Changed} (record { reply = y; disk = d }) (write_at d q position after r)
unwritten d q position after r f y named over e =
    changed y _ d d e refl
    ∙ (sym (cond-false (nat_le (records_in d + growth position f.records) 8000) _ _ (lt-leb (records_in d + growth position f.records) 8000 over))
    ∙ ap (file_written d q position after r) named)
