use Rattle.sym_block_def.specs.Block80.{block80}
use Rattle.sym_block_def.specs.Walk86.{walk86}
use Rattle.cases_symrun.proofs.Given.{is_run}
use Rattle.cases_symrun.proofs.running.run_both.Goals as goal

pub returns : goal.returns
returns c =
    let p = c.args.program.now in
    let x = block80 p c.args.leader c.args.count in
    is_run c.run86.result c.run86.new.self (walk86 p c.args.text.now c.run80.new.self.keep c.args.leader c.args.count) x c.run86.ensures.stands
    (c.run86.ensures.still x c.in_ok-run80.ensures.stands)
