use Rattle.std.proofs.Common.{◌≡◌, ◌<◌, ◌+◌, ◌≤◌, [], None, Some, sym, ap, ◌∙◌, subst, length, List, get_or, arith}
use Rattle.std.specs.Prelude.{IsSome, IfSome, slice_get, slice_set}
use Rattle.std.specs.List.{position, position_or_len}
use Rattle.std.proofs.lemmas.List.{get_or_default}
use Rattle.std.proofs.lemmas.Option.{slice_get-get_or}
use Rattle.bdos_small.specs.Stored.{Stored}
use Rattle.bdos_small.specs.Disks.{IsDisk, records_in, file_named, has_name, with_records, growth, written_at}
use Rattle.bdos_small.proofs.Files.{found_place, unfound, file_at_place, set-place, disk-written}
use Rattle.bdos_small.proofs.disk.Disk.write_record.Goals as goal

-- what stands where no file does
no_file : Stored
no_file = record { name = []; records = [] }

at : (c : goal.In_ok-put_record) → (c.in-Some.place ≡ position_or_len (has_name c.args.name.now) c.self.inside.files.items) × (c.in-Some.place < length c.self.inside.files.items)
at c =
    found_place c.args.name.now c.self.inside.files.items c.in-Some.place
    (sym (ap (position (has_name c.args.name.now)) c.deref.ensures.value) ∙ sym c.in-Some.ensures)

within : (c : goal.In_ok-put_record) → position_or_len (has_name c.args.name.now) c.self.inside.files.items < length c.self.inside.files.items
within c = omega (arith, (at c).0, (at c).1)

-- the file at the place
file : goal.In_ok-put_record → Stored
file c = get_or c.self.inside.files.items (position_or_len (has_name c.args.name.now) c.self.inside.files.items) no_file

named : (c : goal.In_ok-put_record) → file_named c.args.name.now c.self.inside.files.items ≡ Some (file c)
unfolding file
named c = file_at_place c.args.name.now c.self.inside.files.items no_file (within c)

written : (c : goal.In_ok-put_record) → c.put_record.new.files.items ≡ with_records c.args.name.now (written_at c.args.position c.args.bytes.now (file c).records) c.self.inside.files.items
unfolding file
written c =
    let d = c.self.inside.files.items in
    let name = c.args.name.now in
    let k = position_or_len (has_name name) d in
    let f = get_or d k no_file in
    let records = written_at c.args.position c.args.bytes.now f.records in
    let found : slice_get d c.in-Some.place ≡ Some f = ap (slice_get d) (at c).0 ∙ slice_get-get_or d k no_file (within c) in
    subst (λ o. IfSome o (λ f. c.put_record.new.files.items ≡ slice_set d c.in-Some.place (record { name = f.name; records = written_at c.args.position c.of.result f.records }))) found c.in_ok-put_record.ensures.ok
    ∙ ap (λ r. slice_set d c.in-Some.place (record { name = f.name; records = written_at c.args.position r f.records })) c.of.ensures
    ∙ ap (λ p. slice_set d p (record { name = f.name; records = records })) (at c).0
    ∙ set-place name records None d no_file c.self.invariant.files (within c)

pub returns-in_ok-put_record-clause-ok : goal.returns-in_ok-put_record-clause-ok
returns-in_ok-put_record-clause-ok c =
    let name = c.args.name.now in
    let P : List Stored → Type 0 = λ l. IfSome (file_named name l) (λ f. c.put_record.new.files.items ≡ with_records name (written_at c.args.position c.args.bytes.now f.records) l) in
    subst P c.self.view_is (subst (λ o. IfSome o (λ f. c.put_record.new.files.items ≡ with_records name (written_at c.args.position c.args.bytes.now f.records) c.self.inside.files.items)) (sym (named c)) (written c))

room : (c : goal.In_ok-put_record) → records_in c.self.inside.files.items + growth c.args.position (file c).records ≤ 8000
room c =
    let P : List Stored → Type 0 = λ l. IfSome (file_named c.args.name.now l) (λ f. records_in l + growth c.args.position f.records ≤ 8000) in
    let all : P c.self.inside.files.items = subst P (sym c.self.view_is) c.requires.room in
    subst (λ o. IfSome o (λ f. records_in c.self.inside.files.items + growth c.args.position f.records ≤ 8000)) (named c) all

pub invariant_of-self : goal.invariant_of-self
unfolding file
invariant_of-self c =
    let d = c.self.inside.files.items in
    let is : file c ≡ get_or d (position_or_len (has_name c.args.name.now) d) (file c) = get_or_default d (position_or_len (has_name c.args.name.now) d) no_file (file c) (within c) in
    subst IsDisk (sym (written c)) (disk-written c.args.name.now c.args.position c.args.bytes.now d (file c) c.self.invariant c.requires.whole (within c) is (room c))

pub returns-in_default-clause-ok : goal.returns-in_default-clause-ok
returns-in_default-clause-ok c =
    let name = c.args.name.now in
    let d = c.self.inside.files.items in
    let none : position (has_name name) d ≡ None = sym (ap (position (has_name name)) c.deref.ensures.value) ∙ sym c.in_default.ensures in
    absurd (unfound name d none (subst (λ (l : List Stored). IsSome (file_named name l)) (sym c.self.view_is) c.requires.found))
