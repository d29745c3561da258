use Rattle.std.proofs.Common.{◌≡◌, ℕ, ◌+◌, ◌-◌, ◌<◌, ◌≤◌, ◌^◌, None, Some, [], ◌∷◌, ◌++◌, List, length, drop, sym, ap, ◌∙◌, subst, arith}
use Rattle.std.specs.Prelude.{if◌then◌else◌}
use Rattle.std.proofs.lemmas.List.{take_rest, length-drop}
use Rattle.bdos_small.specs.Spelled.{BreaksAt}
use Rattle.bdos_small.specs.DiskFile.{files_bytes}
use Rattle.bdos_small.specs.Reading.{AreFiles, IsNextFile, StopsBy}
use Rattle.bdos_small.proofs.Steps.{StillReading, none_read, few_after, still_breaks, still_next, all_read}
use Rattle.bdos_small.proofs.Whole.{stops_behind, stops_weaker, memory_stops}
use Rattle.bdos_small.proofs.reading.read_files.Goals as goal

pub returns-in-Err : goal.returns-in-Err
returns-in-Err c =
    let count = c.args.count in
    let bytes = c.args.bytes.now in
    let files = c.loop-index.files.items in
    let last = c.loop-index.last in
    let room = c.loop-index.room in
    let at = c.loop-index.at in
    let index = c.loop-index.index in
    let here = subst (λ l. StopsBy (BreaksAt (AreFiles last (count - 1 - index + 1) room) files_bytes l) c.in-Err.stop) (take_rest bytes at) c.in-Err.ensures in
    subst (StopsBy (BreaksAt (AreFiles None count 8000) files_bytes bytes)) (sym c.after.ensures)
    (stops_behind (BreaksAt (AreFiles last (count - 1 - index + 1) room) files_bytes (drop at bytes)) (BreaksAt (AreFiles None count 8000) files_bytes bytes) at c.in-Err.stop here
    (still_breaks count c.requires bytes files last room at index c.loop-index.invariant c.loop-index-test.true))

pub returns-in_err-map_err : goal.returns-in_err-map_err
returns-in_err-map_err c = memory_stops _ _ c.from_residual.result c.from_residual.ensures.1

pub loop-index-preserved : goal.loop-index-preserved
loop-index-preserved c =
    let count = c.args.count in
    let bytes = c.args.bytes.now in
    let files = c.loop-index.files.items in
    let last = c.loop-index.last in
    let room = c.loop-index.room in
    let at = c.loop-index.at in
    let index = c.loop-index.index in
    let f = c.in-Ok.next.0 in
    let used = c.in-Ok.next.1 in
    let here = subst (λ l. IsNextFile last (count - 1 - index) room l f used) (take_rest bytes at) c.in-Ok.ensures in
    let next = still_next count c.requires bytes files last room at index c.loop-index.invariant c.loop-index-test.true f used here in
    let items : c.push.new.self.items ≡ files ++ f ∷ [] = c.push.ensures.items ∙ ap (λ b. if b then (files ++ f ∷ []) else files) (sym c.in_ok-map_err.ensures.variant) in
    subst (λ l. StillReading count bytes l (Some c.name.result) (room - length c.records.result.now) (at + used) (index + 1)) (sym items)
    (subst (λ n. StillReading count bytes (files ++ f ∷ []) (Some n) (room - length c.records.result.now) (at + used) (index + 1)) (sym c.name.ensures)
    (subst (λ (rs : List (List ℕ)). StillReading count bytes (files ++ f ∷ []) (Some f.name) (room - length rs) (at + used) (index + 1)) (sym c.records.ensures) next))

pub read_file-requires-clause-named : goal.read_file-requires-clause-named
read_file-requires-clause-named c = c.loop-index.invariant.can c.loop-index-test.true

pub returns : goal.returns
returns c =
    all_read c.args.count c.args.bytes.now c.loop-index.files.items c.loop-index.last c.loop-index.room c.loop-index.at c.loop-index.index c.loop-index.invariant c.loop-index-test.false

pub loop-index-init : goal.loop-index-init
loop-index-init c = subst (λ l. StillReading c.args.count c.args.bytes.now l None 8000 0 0) (sym c.new-files.ensures.items) (none_read c.args.count c.args.bytes.now)

pub read_file-requires-clause-few : goal.read_file-requires-clause-few
read_file-requires-clause-few c = few_after c.args.count c.loop-index.index c.requires c.loop-index-test.true

pub read_file-requires-clause-small : goal.read_file-requires-clause-small
read_file-requires-clause-small c = c.loop-index.invariant.small

pub overflow_sub-room : goal.overflow_sub-room
overflow_sub-room c = subst (λ (rs : List (List ℕ)). length rs ≤ c.loop-index.room) (sym c.records.ensures) c.in-Ok.ensures.small

pub after-requires : goal.after-requires
after-requires c =
    let bytes = c.args.bytes.now in
    let at = c.loop-index.at in
    let after = c.args.count - 1 - c.loop-index.index in
    let Is = AreFiles c.loop-index.last (after + 1) c.loop-index.room in
    let here = subst (λ l. StopsBy (BreaksAt Is files_bytes l) c.in-Err.stop) (take_rest bytes at) c.in-Err.ensures in
    stops_weaker (BreaksAt Is files_bytes (drop at bytes)) (λ k. at + k < 2 ^ 64) c.in-Err.stop here (λ k b. omega (arith, b.within, length-drop at bytes, c.loop-index.invariant.within))
