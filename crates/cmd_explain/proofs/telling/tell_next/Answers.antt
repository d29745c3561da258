use Rattle.std.proofs.Common.{◌∙◌, Some, List, sym, ap, subst}
use Rattle.asm86_line_types.specs.declared.line.Stmt86.{Stmt86}
use Rattle.flow.specs.Blocks.{block_at}
use Rattle.sym_block_def.specs.BlockMatch.{block_reason}
use Rattle.simulation_def.specs.Needed.{needed_by}
use Rattle.simulation_def.proofs.Blocks.{may_run}
use Rattle.block_explain.specs.Explained.{IsSaid}
use Rattle.cmd_explain.specs.Explained.{BlockTold}
use Rattle.cmd_explain.specs.Telling.{Tells}
use Rattle.cmd_explain.proofs.Leaders.{block_found, first_starts, last_starts, same_count}
use Rattle.cmd_explain.proofs.telling.tell_next.Goals as goal

pub tell_block-requires : goal.tell_block-requires
tell_block-requires c =
    let p = c.args.sides.now.program.now in
    let count = c.unwrap_or-count.result in
    let cut = c.blocks_cut_the_program.ensures p c.top-top.ensures.program in
    let own = block_found p c.args.sides.now.graph.now.program cut c.requires.program c.args.leader c.requires.leader c.block.result count c.block.ensures c.unwrap_or-count.ensures in
    record {
      block = may_run p c.args.leader count cut own.1;
      starts = first_starts p c.args.leader count cut own.1;
      ends = last_starts p c.args.leader count cut own.1;
      text = c.requires.text;
    }

pub returns-in-None-clause-reason : goal.returns-in-None-clause-reason
returns-in-None-clause-reason c = λ n count needs e.
    let p = c.args.sides.now.program.now in
    let k = needed_by p n in
    let said = subst (IsSaid p c.args.sides.now.text.now k c.args.leader count) c.in-None.is (c.in_ok-explain_block.ensures n count needs e) in
    sym said ∙ ap (λ (xs : List Stmt86). block_reason p xs k c.args.leader count) c.requires.text

pub returns-in_ok-tell_block-in-Some-clause-reason : goal.returns-in_ok-tell_block-in-Some-clause-reason
returns-in_ok-tell_block-in-Some-clause-reason c = λ n count needs e.
    let p = c.args.sides.now.program.now in
    let k = needed_by p n in
    let said = subst (IsSaid p c.args.sides.now.text.now k c.args.leader count) c.in-Some.is (c.in_ok-explain_block.ensures n count needs e) in
    sym said.0 ∙ ap (λ (xs : List Stmt86). block_reason p xs k c.args.leader count) c.requires.text

pub returns-in_ok-tell_block-in-Some-clause-told : goal.returns-in_ok-tell_block-in-Some-clause-told
returns-in_ok-tell_block-in-Some-clause-told c = λ n count needs e.
    let p = c.args.sides.now.program.now in
    let lines = c.args.sides.now.lines.now in
    let k = needed_by p n in
    let said = subst (IsSaid p c.args.sides.now.text.now k c.args.leader count) c.in-Some.is (c.in_ok-explain_block.ensures n count needs e) in
    let own = block_found p c.args.sides.now.graph.now.program (c.blocks_cut_the_program.ensures p c.top-top.ensures.program) c.requires.program c.args.leader c.requires.leader c.block.result c.unwrap_or-count.result c.block.ensures c.unwrap_or-count.ensures in
    let same = same_count (block_at p c.args.leader) count c.unwrap_or-count.result e own.0 in
    subst (λ m. Tells (BlockTold p lines k c.args.leader m c.in-Some.said.reason) c.args.told.now.items c.tell_block.new.told.items) (sym same)
    (c.in_ok-tell_block-in-Some.ensures k (subst (λ m. IsSaid p c.args.sides.now.text.now k c.args.leader m (Some c.in-Some.said)) same said))
