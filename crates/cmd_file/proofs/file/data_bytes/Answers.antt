use Rattle.std.proofs.Common.{◌≡◌, ◌<◌, length, get_or, set, sym, ap, ◌∙◌, arith}
use Rattle.std.specs.Prelude.{slice_index, slice_set}
use Rattle.std.proofs.lemmas.List.{length-replicate, length-set, drop_all}
use Rattle.dialogue.specs.ByteMemory.{put_cells}
use Rattle.cmd_file.proofs.Cells.{cells_below, none_put, put_more, all_put}
use Rattle.cmd_file.proofs.file.data_bytes.Goals as goal

pub loop-address-init : goal.loop-address-init
loop-address-init c =
    let zeros = c.in_ok-data.ensures.items_if_clones_equal (λ y h. h) in
    let size = c.data_end.ensures.value in
    record {
      long = ap length zeros ∙ length-replicate c.data_end.result 0 ∙ size;
      rest = none_put c.args.cells.now c.in_ok-data.data.items c.data_end.result zeros;
    }

pub index_mut-requires : goal.index_mut-requires
index_mut-requires c =
    let below = cells_below c.args.cells.now c.loop-address.address-index (0, 0) c.loop-address-test.true in
    let at = c.from.ensures in
    let long = c.loop-address.invariant.long in
    omega (arith, below, at, long, c.loop-address.data.ok)

pub loop-address-preserved : goal.loop-address-preserved
loop-address-preserved c =
    let cells = c.args.cells.now in
    let i = c.loop-address.address-index in
    let below = cells_below cells i (0, 0) c.loop-address-test.true in
    let at = c.from.ensures in
    let long = c.loop-address.invariant.long in
    let within : c.from.result < length c.loop-address.data.items = omega (arith, below, at, long) in
    let more : slice_set c.loop-address.data.items c.from.result (get_or cells i (0, 0)).1 ≡ set c.loop-address.data.items (get_or cells i (0, 0)).0 (get_or cells i (0, 0)).1 = ap (λ a. set c.loop-address.data.items a (get_or cells i (0, 0)).1) at in
    record {
      long = length-set c.loop-address.data.items c.from.result (get_or cells i (0, 0)).1 ∙ long;
      rest = put_more cells i (0, 0) c.loop-address.data.items (slice_set c.loop-address.data.items c.from.result (get_or cells i (0, 0)).1) (put_cells (λ a. 0) cells) c.loop-address-test.true (omega (arith, below, long)) more c.loop-address.invariant.rest;
    }

pub returns-clause-bytes : goal.returns-clause-bytes
returns-clause-bytes c =
    let cells = c.args.cells.now in
    let bytes = c.loop-address.data.items in
    all_put cells bytes c.loop-address.invariant.long
    (ap (put_cells (slice_index bytes)) (sym (drop_all c.loop-address.address-index cells c.loop-address-test.false)) ∙ c.loop-address.invariant.rest)
