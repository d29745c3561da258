use Rattle.std.proofs.Common.{◌<◌, List, [], length, get_or, false, None, sym, subst, arith}
use Rattle.asm80_first_walk.specs.declared.walked.Taken.{Taken}
use Rattle.std.proofs.lemmas.Result.{err_from_is_err_and}
use Rattle.asm80_source_def.specs.Names.{Name}
use Rattle.asm80_values.specs.declared.item.Item.{Item}
use Rattle.asm80_values.proofs.second_walk.items_of_taken.Goals as goal
use Rattle.asm80_values.proofs.Along.{Along, along_start}
use Rattle.asm80_values.proofs.AlongIndex.{index_within, index_step, index_fault, index_end}

pub loop-row-init : goal.loop-row-init
loop-row-init c =
    let Named : List Name → Type 0 = λ ns. Along c.args.statements.now c.args.taken.now ns [] in
    let Found : List Item → Type 0 = λ is. Along c.args.statements.now c.args.taken.now c.args.names.now is in
    subst Found (sym c.new-items.ensures.items) (subst Named (sym c.requires.names) (along_start c.args.statements.now c.args.taken.now c.requires.taken c.requires.accepted))

pub bounds-statements-row : goal.bounds-statements-row
bounds-statements-row c = index_within c.args.statements.now _ c.loop-row.row-index _ c.loop-row.names c.loop-row.items.items c.loop-row-test.true c.loop-row.invariant

pub returns-in_err-add_item : goal.returns-in_err-add_item
returns-in_err-add_item c =
    let p = err_from_is_err_and c.from_residual.result c.from_residual.ensures.1 in
    rw (p.1, p.2)
    (index_fault c.args.statements.now _ c.loop-row.row-index _ c.index-statements-row.result c.loop-row-test.true c.index-statements-row.is c.loop-row.names c.loop-row.items.items c.loop-row.invariant c.args.starts.now c.requires.starts c.in_err-add_item.field-0.0 c.add_item.new.names c.add_item.new.items.items c.in_err-add_item.ensures)

pub loop-row-preserved : goal.loop-row-preserved
loop-row-preserved c =
    index_step c.args.statements.now _ c.loop-row.row-index _ c.index-statements-row.result c.loop-row-test.true c.index-statements-row.is c.loop-row.names c.loop-row.items.items c.loop-row.invariant c.args.starts.now c.requires.starts c.add_item.new.names c.add_item.new.items.items c.in_ok-add_item.ensures

pub returns : goal.returns
returns c = index_end c.args.statements.now _ c.loop-row.row-index _ _ (omega arith) c.loop-row.invariant

pub offset_bounds-statements-row : goal.offset_bounds-statements-row
offset_bounds-statements-row c =
    let none : Taken = record { statement = 0; at = 0; operation = None; meaning = record { value = None; is_place = false } } in
    let within : (get_or c.args.taken.now c.loop-row.row-index none).statement < length c.args.statements.now = index_within c.args.statements.now c.args.taken.now c.loop-row.row-index none c.loop-row.names c.loop-row.items.items c.loop-row-test.true c.loop-row.invariant in
    omega arith
