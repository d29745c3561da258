use Rattle.std.proofs.Common.{◌≡◌, ◌∙◌, [], get_or, refl, sym, ap}
use Rattle.std.specs.Prelude.{drop}
use Rattle.flow.specs.Blocks.{blocks, leaders}
use Rattle.simulation_def.specs.Matches.{blocks_reason}
use Rattle.simulation_def.specs.Needed.{needed_by}
use Rattle.block_check.specs.declared.block.Verdict.TheVariants.{Shown}
use Rattle.text_check.specs.Findings.{HoldsBlock}
use Rattle.flow.proofs.Indexed.{block_at_index, all_passed}
use Rattle.std.proofs.lemmas.List.{drop_all}
use Rattle.text_check.proofs.Walking.{all_left, shown_on, not_shown, last_on, last_left, held}
use Rattle.text_check.proofs.validation.first_not_shown.Goals as goal

pub returns-in-NotShown-clause-reason : goal.returns-in-NotShown-clause-reason
returns-in-NotShown-clause-reason c = λ n h.
    let p = c.args.program.now in
    let ls = c.leaders-leader-items.result.now in
    let i = c.loop-leader.leader-index in
    let b = block_at_index p ls i 0 (c.leaders-leader-items.ensures ∙ ap leaders c.requires.program) c.loop-leader-test.true in
    let cut = c.blocks_cut_the_program.ensures p c.top-top.ensures.program in
    not_shown p c.args.text.now (needed_by p n) i (get_or ls i 0) b.0 b.1 c.in-NotShown.reason
    (c.in-NotShown.ensures.verdict n b.0 h (cut.found (get_or ls i 0) b.0 b.1.block)) (c.loop-leader.invariant.reasons n h)

pub loop-leader-preserved : goal.loop-leader-preserved
loop-leader-preserved c =
    let p = c.args.program.now in
    let ls = c.leaders-leader-items.result.now in
    let i = c.loop-leader.leader-index in
    let b = block_at_index p ls i 0 (c.leaders-leader-items.ensures ∙ ap leaders c.requires.program) c.loop-leader-test.true in
    let cut = c.blocks_cut_the_program.ensures p c.top-top.ensures.program in
    let s : Shown ≡ c.check.result = sym c.in_default.is in
    record {
      reasons = λ n h. shown_on p c.args.text.now (needed_by p n) i (get_or ls i 0) b.0 b.1 (s ∙ c.check.ensures.verdict n b.0 h (cut.found (get_or ls i 0) b.0 b.1.block)) (c.loop-leader.invariant.reasons n h);
      last = λ n x h e. last_on p i (get_or ls i 0) b.0 x (HoldsBlock p c.args.text.now n c.loop-leader.work x) (HoldsBlock p c.args.text.now n c.check.new.work) b.1 (c.loop-leader.invariant.last n x h e)
          (held c.check.result (HoldsBlock p c.args.text.now n c.check.new.work (get_or ls i 0, b.0)) s (c.check.ensures.outcomes n b.0 h (cut.found (get_or ls i 0) b.0 b.1.block)));
    }

pub returns-clause-work : goal.returns-clause-work
returns-clause-work c = λ n b h e.
    let p = c.args.program.now in
    last_left p c.loop-leader.leader-index b (HoldsBlock p c.args.text.now n c.loop-leader.work b)
    (all_passed p c.leaders-leader-items.result.now c.loop-leader.leader-index (c.leaders-leader-items.ensures ∙ ap leaders c.requires.program) c.loop-leader-test.false) (c.loop-leader.invariant.last n b h e)

pub check-requires-clause-leader : goal.check-requires-clause-leader
check-requires-clause-leader c =
    let p = c.args.program.now in
    let ls = c.leaders-leader-items.result.now in
    let i = c.loop-leader.leader-index in
    let b = block_at_index p ls i 0 (c.leaders-leader-items.ensures ∙ ap leaders c.requires.program) c.loop-leader-test.true in
    (c.blocks_cut_the_program.ensures p c.top-top.ensures.program).has_leader (get_or ls i 0) b.0 b.1.block

pub returns-clause-reason : goal.returns-clause-reason
returns-clause-reason c = λ n h.
    let p = c.args.program.now in
    let passed : drop c.loop-leader.leader-index (blocks p) ≡ [] = drop_all c.loop-leader.leader-index (blocks p)
    (all_passed p c.leaders-leader-items.result.now c.loop-leader.leader-index (c.leaders-leader-items.ensures ∙ ap leaders c.requires.program) c.loop-leader-test.false) in
    ap (blocks_reason p c.args.text.now (needed_by p n)) (sym passed) ∙ c.loop-leader.invariant.reasons n h

pub loop-leader-init : goal.loop-leader-init
loop-leader-init c = record {
  reasons = λ n h. refl;
  last = λ n b h e. all_left (blocks c.args.program.now) b (HoldsBlock c.args.program.now c.args.text.now n c.args.work.now b) e;
}

pub check-requires-clause-solved : goal.check-requires-clause-solved
check-requires-clause-solved c = c.requires.solved

pub check-requires-clause-program : goal.check-requires-clause-program
check-requires-clause-program c = c.requires.program

pub returns-in-NotShown-clause-work : goal.returns-in-NotShown-clause-work
returns-in-NotShown-clause-work c = tt
