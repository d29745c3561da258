use Rattle.std.proofs.Common.{◌≡◌, ◌<◌, None, Some, sym, ap, ◌∙◌, subst, length, insert, remove, List, not, get_or, arith}
use Rattle.std.specs.Prelude.{IsSome, IfSome}
use Rattle.std.specs.List.{filter, position, position_or_len}
use Rattle.bdos_small.specs.Stored.{Stored}
use Rattle.bdos_small.specs.Disks.{IsDisk, file_named, has_name, with_file, without_file}
use Rattle.bdos_small.proofs.Files.{before, with_file-insert, found_place, unfound, file_at_place, remove-place, files-filter, free-filter, disk-renamed}
use Rattle.bdos_small.proofs.disk.Disk.rename.Goals as goal

at : (c : goal.After-put_file) → position (has_name c.args.from.now) c.self.inside.files.items ≡ Some c.in-Some.place
at c = sym (ap (position (has_name c.args.from.now)) (c.deref.ensures.value ∙ c.in_ok-reserve.ensures.items)) ∙ sym c.in-Some.ensures

free : (c : goal.After-put_file) → file_named c.args.to c.self.inside.files.items ≡ None
free c = ap (file_named c.args.to) c.self.view_is ∙ c.requires.free

-- the file that is removed stands at the place
removed : (c : goal.After-put_file) → c.remove-file.result ≡ get_or c.self.inside.files.items (position_or_len (has_name c.args.from.now) c.self.inside.files.items) c.remove-file.result
removed c =
    let d = c.self.inside.files.items in
    c.remove-file.ensures.value
    ∙ ap (λ (l : List Stored). get_or l c.in-Some.place c.remove-file.result) c.in_ok-reserve.ensures.items
    ∙ ap (λ k. get_or d k c.remove-file.result) (found_place c.args.from.now d c.in-Some.place (at c)).0

rest : (c : goal.After-put_file) → c.remove-file.new.self.items ≡ without_file c.args.from.now c.self.inside.files.items
rest c =
    let from = c.args.from.now in
    let d = c.self.inside.files.items in
    let found = found_place from d c.in-Some.place (at c) in
    let within : position_or_len (has_name from) d < length d = omega (arith, found.0, found.1) in
    c.remove-file.ensures.items
    ∙ ap (λ (l : List Stored). remove l c.in-Some.place) c.in_ok-reserve.ensures.items
    ∙ ap (remove d) found.0
    ∙ remove-place from None d c.self.invariant.files within

renamed : (c : goal.After-put_file) → c.put_file.new.files.items ≡ with_file (record { name = c.args.to; records = c.remove-file.result.records }) (without_file c.args.from.now c.self.inside.files.items)
renamed c =
    let from = c.args.from.now in
    let d = c.self.inside.files.items in
    let n : Stored = record { name = c.args.to; records = c.remove-file.result.records } in
    c.put_file.ensures
    ∙ ap (λ (f : Stored). insert c.remove-file.new.self.items (length (filter (before c.args.to) c.remove-file.new.self.items)) (record { name = c.args.to; records = f.records })) c.file.view_is
    ∙ ap (λ l. insert l (length (filter (before c.args.to) l)) n) (rest c)
    ∙ with_file-insert n None (without_file from d) (files-filter (λ f. not (has_name from f)) None d c.self.invariant.files) (free-filter c.args.to (λ f. not (has_name from f)) d (free c))

pub invariant_of-self-in-Some : goal.invariant_of-self-in-Some
invariant_of-self-in-Some c =
    let from = c.args.from.now in
    let d = c.self.inside.files.items in
    let found = found_place from d c.in-Some.place (at c) in
    let within : position_or_len (has_name from) d < length d = omega (arith, found.0, found.1) in
    subst IsDisk (sym (renamed c)) (disk-renamed from c.args.to d c.remove-file.result c.self.invariant c.requires.lawful (free c) within (removed c))

pub returns-in-Some-clause-ok : goal.returns-in-Some-clause-ok
returns-in-Some-clause-ok c =
    let from = c.args.from.now in
    let to = c.args.to in
    let d = c.self.inside.files.items in
    let r = c.remove-file.result in
    let found = found_place from d c.in-Some.place (at c) in
    let within : position_or_len (has_name from) d < length d = omega (arith, found.0, found.1) in
    let named : file_named from d ≡ Some r = file_at_place from d r within ∙ ap (λ f. Some f) (sym (removed c)) in
    let P : List Stored → Type 0 = λ l. IfSome (file_named from l) (λ f. c.put_file.new.files.items ≡ with_file (record { name = to; records = f.records }) (without_file from l)) in
    subst P c.self.view_is (subst (λ o. IfSome o (λ f. c.put_file.new.files.items ≡ with_file (record { name = to; records = f.records }) (without_file from d))) (sym named) (renamed c))

pub returns-in_default-clause-ok : goal.returns-in_default-clause-ok
returns-in_default-clause-ok c =
    let from = c.args.from.now in
    let d = c.self.inside.files.items in
    let none : position (has_name from) d ≡ None = sym (ap (position (has_name from)) (c.deref.ensures.value ∙ c.in_ok-reserve.ensures.items)) ∙ sym c.in_default.ensures in
    absurd (unfound from d none (subst (λ (l : List Stored). IsSome (file_named from l)) (sym c.self.view_is) c.requires.found))
