use Rattle.std.proofs.Common.{◌∙◌, sym, ap, map, arith}
use Rattle.std.proofs.lemmas.List.{get_or-map, length-map, take_all}
use Rattle.std.proofs.lemmas.List.Sums.{sum_by_more}
use Rattle.asm80_types.specs.Tree.{operand_of}
use Rattle.asm80_source_def.specs.Walk.{bytes_of_item}
use Rattle.asm80_first_walk.proofs.size.size_of_bytes.Goals as goal

pub loop-arg-preserved : goal.loop-arg-preserved
loop-arg-preserved c =
    let xs = map operand_of c.args.args.now in
    let x = operand_of c.arg-item.result in
    let more = sum_by_more bytes_of_item xs c.loop-arg.arg-index x (omega (arith, length-map c.args.args.now operand_of)) in
    let read = ap bytes_of_item (get_or-map operand_of c.args.args.now c.loop-arg.arg-index c.arg-item.result x c.loop-arg-test.true ∙ ap operand_of (sym c.arg-item.is)) in
    omega (arith, more, read, c.loop-arg.invariant, c.size_of_item-size.ensures)

pub returns : goal.returns
returns c =
    let all = take_all c.loop-arg.arg-index (map operand_of c.args.args.now) (omega (arith, length-map c.args.args.now operand_of)) in
    rw all at c.loop-arg.invariant
