use Rattle.std.proofs.Common.{◌∙◌, ℕ, ◌+◌, get_or, sym, ap, subst}
use Rattle.asm86_line_types.specs.Image.{statements}
use Rattle.flow.specs.Blocks.{leaders}
use Rattle.flow.proofs.Indexed.{IsBlockAt, block_at_index, all_passed}
use Rattle.simulation_def.specs.Needed.{needed_by}
use Rattle.cmd_explain.specs.Explained.{ToldIfAny}
use Rattle.cmd_explain.specs.Telling.{Tells, first_of}
use Rattle.cmd_explain.proofs.Blocks.{IsFirstSoFar, one_told, all_told, first_step, first_is}
use Rattle.cmd_explain.proofs.telling.tell_each.Goals as goal
use Rattle.cmd_explain.proofs.telling.tell_each.Goals.{After-first_of-first}

-- the block of the leader
block : (c : After-first_of-first) → (count : ℕ) × IsBlockAt c.args.sides.now.program.now c.loop-leader.leader-index (get_or c.leaders-leader-items.result.now c.loop-leader.leader-index 0) count
block c =
    block_at_index c.args.sides.now.program.now c.leaders-leader-items.result.now c.loop-leader.leader-index 0 (c.leaders-leader-items.ensures ∙ ap leaders c.requires.program) c.loop-leader-test.true

pub loop-leader-preserved : goal.loop-leader-preserved
loop-leader-preserved c =
    let p = c.args.sides.now.program.now in
    let lines = c.args.sides.now.lines.now in
    let i = c.loop-leader.leader-index in
    let leader = get_or c.leaders-leader-items.result.now i 0 in
    let b = block c in
    let found = (c.blocks_cut_the_program.ensures p c.top-top.ensures.program).found leader b.0 b.1.block in
    record {
      first = λ n needs.
          let k = needed_by p n in
          subst (λ o. IsFirstSoFar p (statements lines) k o (i + 1)) (sym (c.first_of-first.ensures ∙ ap (first_of c.loop-leader.first leader) (c.in_ok-reason.ensures.reason n b.0 needs found)))
          (first_step p (statements lines) k c.loop-leader.first i leader b.0 b.1 (c.loop-leader.invariant.first n needs));
      told = λ n needs.
          let k = needed_by p n in
          one_told p lines k c.args.told.now.items c.loop-leader.told.items c.tell_next.new.told.items i leader b.0 b.1 (c.loop-leader.invariant.told n needs)
          (subst (λ o. Tells (ToldIfAny p lines k leader b.0 o) c.loop-leader.told.items c.tell_next.new.told.items) (c.in_ok-reason.ensures.reason n b.0 needs found) (c.in_ok-reason.ensures.told n b.0 needs found));
    }

pub returns-clause-reason : goal.returns-clause-reason
returns-clause-reason c = λ n needs.
    let p = c.args.sides.now.program.now in
    first_is p (statements c.args.sides.now.lines.now) (needed_by p n) c.loop-leader.first c.loop-leader.leader-index (all_passed p c.leaders-leader-items.result.now c.loop-leader.leader-index (c.leaders-leader-items.ensures ∙ ap leaders c.requires.program) c.loop-leader-test.false) (c.loop-leader.invariant.first n needs)

pub returns-clause-told : goal.returns-clause-told
returns-clause-told c = λ n needs.
    let p = c.args.sides.now.program.now in
    all_told p c.args.sides.now.lines.now (needed_by p n) c.args.told.now.items c.loop-leader.told.items c.loop-leader.leader-index (all_passed p c.leaders-leader-items.result.now c.loop-leader.leader-index (c.leaders-leader-items.ensures ∙ ap leaders c.requires.program) c.loop-leader-test.false) (c.loop-leader.invariant.told n needs)
