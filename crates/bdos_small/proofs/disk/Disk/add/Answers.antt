use Rattle.std.proofs.Common.{◌≡◌, ◌<◌, ◌≤◌, [], None, sym, ap, ◌∙◌, subst, length, insert, List, ℕ, arith}
use Rattle.std.specs.List.{filter}
use Rattle.std.proofs.lemmas.List.Elements.{All-nil}
use Rattle.bdos_small.specs.Stored.{Stored}
use Rattle.bdos_small.specs.Disks.{IsDisk, records_in, file_named, with_file}
use Rattle.bdos_small.proofs.Files.{before, with_file-insert, disk-with_file}
use Rattle.bdos_small.proofs.disk.Disk.add.Goals as goal

free : (c : goal.After-put_file) → file_named c.args.name c.self.inside.files.items ≡ None
free c = ap (file_named c.args.name) c.self.view_is ∙ c.requires.free

added : (c : goal.After-put_file) → c.put_file.new.files.items ≡ with_file (record { name = c.args.name; records = [] }) c.self.inside.files.items
added c =
    let n : Stored = record { name = c.args.name; records = [] } in
    c.put_file.ensures
    ∙ ap (λ (l : List (List ℕ)). insert c.reserve.new.self.items (length (filter (before c.args.name) c.reserve.new.self.items)) (record { name = c.args.name; records = l })) c.new.ensures.items
    ∙ ap (λ l. insert l (length (filter (before c.args.name) l)) n) c.in_ok-reserve.ensures.items
    ∙ with_file-insert n None c.self.inside.files.items c.self.invariant.files (free c)

pub returns-clause-ok : goal.returns-clause-ok
returns-clause-ok c = added c ∙ ap (with_file (record { name = c.args.name; records = [] })) c.self.view_is

pub invariant_of-self-2 : goal.invariant_of-self-2
invariant_of-self-2 c =
    let d = c.self.inside.files.items in
    let room : length d < 64 = subst (λ (l : List Stored). length l < 64) (sym c.self.view_is) c.requires.room in
    let small : records_in d ≤ 8000 = c.self.invariant.small in
    subst IsDisk (sym (added c)) (disk-with_file (record { name = c.args.name; records = [] }) d (record { name = c.requires.lawful; records = All-nil _ }) c.self.invariant (free c) room (omega arith))
