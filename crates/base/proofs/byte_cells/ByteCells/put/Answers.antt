use Rattle.std.proofs.Common.{◌≡◌, ℕ, ◌+◌, ◌<◌, ◌≤◌, ◌∙◌, length, Option, Some, Vec, Global, ap, subst, sym, arith}
use Rattle.std.specs.BTreeMap.{insert_entry}
use Rattle.std.specs.Ordering.{nat_cmp}
use Rattle.std.specs.Vec.{vec_len, with_item}
use Rattle.base.specs.Addressed.{byte_cells_from}
use Rattle.base.proofs.Addressed.{put_in, more_room}
use Rattle.base.proofs.byte_cells.ByteCells.put.Goals.{then-len-place+in_ok-resize, else-len-place}
use Rattle.base.proofs.byte_cells.ByteCells.put.Goals as goal

-- a place is one of those that there are, by what a vector says of its length
fits : (v : Vec (Option ℕ) Global) (len place : ℕ) → len ≡ vec_len v → place < len → place < length v.items
fits v len place is lt = omega (arith, is, lt, v.ok)

beyond : (v : Vec (Option ℕ) Global) (len place : ℕ) → len ≡ vec_len v → len ≤ place → length v.items ≤ place
beyond v len place is le = omega (arith, is, le, v.ok)

pub returns-clause-put : goal.returns-clause-put
returns-clause-put c =
    let place = c.from-place.result in
    let step : byte_cells_from 0 (with_item c.if-len-place.self-inside.bytes place (Some c.args.byte)).items ≡ insert_entry nat_cmp c.args.self.now place c.args.byte = elim c.if-len-place.branch [
      | then-len-place+in_ok-resize w ↦
          let old = c.self.inside.bytes in
          let room = w.resize.new.self in
          let same = more_room place (vec_len old) old.items room.items (beyond old c.len.result place c.len.ensures w.if-len-place.true) w.in_ok-resize.ensures.items in
          subst (λ v. byte_cells_from 0 (with_item v place (Some c.args.byte)).items ≡ insert_entry nat_cmp c.args.self.now place c.args.byte) (sym (ap (λ b. b.bytes) w.self-inside-is))
          (put_in room.items c.args.self.now place c.args.byte (fits room (place + 1) place (sym w.in_ok-resize.ensures.len) (omega arith)) (same ∙ c.self.view_is))
      | else-len-place w ↦
          subst (λ v. byte_cells_from 0 (with_item v place (Some c.args.byte)).items ≡ insert_entry nat_cmp c.args.self.now place c.args.byte) (sym (ap (λ b. b.bytes) w.self-inside-is))
          (put_in c.self.inside.bytes.items c.args.self.now place c.args.byte (fits c.self.inside.bytes c.len.result place c.len.ensures w.if-len-place.false) c.self.view_is)
    ] in
    step ∙ ap (λ a. insert_entry nat_cmp c.args.self.now a c.args.byte) c.from-place.ensures
