use Rattle.std.proofs.Common.{◌∙◌, ◌+◌, ◌-◌, ◌*◌, take, drop, sym, ap, subst}
use Rattle.std.specs.Prelude.{is_some}
use Rattle.sym_block_def.specs.Block80.{instrs_from}
use Rattle.sym_block_def.specs.Walk86.{Surroundings, walk86}
use Rattle.sym_run.specs.Ends.{WalksTo}
use Rattle.sym_run.proofs.Steps.{surroundings_are, walks_from, begin_missing, room_for_walk}
use Rattle.sym_run.proofs.walk.run_text.Goals as goal

pub returns : goal.returns
returns c =
    let p = c.args.program.now in
    let text = c.args.text.now in
    let first = c.args.first in
    let count = c.args.count in
    let later = take (count - 1) (drop 1 c.addresses-after.result.0) in
    let after = c.addresses-after.result.1 in
    let goes_on = c.is_some.result in
    let w : Surroundings = record { text = text; later = later; after = after; goes_on = goes_on } in
    walks_from p text c.args.keep first count w c.args.terms.now c.begin.new.terms c.walk_label.new.terms c.begin.new.run c.walk_label.new.run c.walk_label.result
    (surroundings_are p text first (instrs_from p first count) later after goes_on c.addresses-after.ensures.later c.addresses-after.ensures.after (c.is_some.ensures ∙ ap is_some c.instr_at.ensures.value))
    c.in_ok-begin.ensures
    c.walk_label.ensures

pub returns-in_err-begin : goal.returns-in_err-begin
returns-in_err-begin c =
    let tree = walk86 c.args.program.now c.args.text.now c.args.keep c.args.first c.args.count in
    subst (WalksTo c.args.terms.now c.begin.new.terms c.begin.new.run (240 * c.args.count + 32) tree) (sym c.from_residual.ensures)
    (begin_missing c.args.terms.now c.begin.new.terms c.begin.new.run _ tree c.args.count c.in_err-begin.ensures)

pub walk_label-requires-clause-room : goal.walk_label-requires-clause-room
walk_label-requires-clause-room c = room_for_walk _ c.args.count c.in_ok-begin.ensures.gives.few c.requires.block.few
