use Rattle.std.proofs.Common.{◌≡◌, ℕ, Some, Ok, ap, sym, subst, ◌∙◌}
use Rattle.std.proofs.lemmas.Option.{same_Some}
use Rattle.asm80_types.specs.Program.{Program}
use Rattle.flow.specs.Blocks.{block_at}
use Rattle.flow.specs.Solving.{Needs, AreAllNeeds}
use Rattle.sym_block_def.specs.Block80.{MayRun, block80}
use Rattle.sym_block_def.specs.Walk86.{walk86}
use Rattle.sym_block_def.specs.BlockMatch.{block_reason}
use Rattle.simulation_def.specs.Needed.{needed_by}
use Rattle.block_check.specs.Kept.{KeepsNeeds}
use Rattle.block_check.specs.Comparing.{HoldsOutcomes, AreCompared, AfterShown, verdict_of}
use Rattle.block_check.proofs.Needed.{leader_block, needed_keeps}
use Rattle.block_check.proofs.block.check.Goals as goal

pub check_kept-requires-clause-block : goal.check_kept-requires-clause-block
check_kept-requires-clause-block c =
    let p = c.args.program.now in
    let b = leader_block p c.args.leader (c.blocks_cut_the_program.ensures p c.top-top.ensures.program) c.requires.leader in
    let at : block_at c.args.graph.now.program c.args.leader ≡ block_at p c.args.leader = ap (λ (q : Program). block_at q c.args.leader) c.requires.program in
    let same : b.0 ≡ c.in-Some.count = same_Some b.0 c.in-Some.count (sym b.1 ∙ sym at ∙ sym c.in-Some.ensures) in
    subst (λ n. MayRun p c.args.leader n) same b.2

pub unreachable-requires : goal.unreachable-requires
unreachable-requires c =
    let p = c.args.program.now in
    let b = leader_block p c.args.leader (c.blocks_cut_the_program.ensures p c.top-top.ensures.program) c.requires.leader in
    let at : block_at c.args.graph.now.program c.args.leader ≡ block_at p c.args.leader = ap (λ (q : Program). block_at q c.args.leader) c.requires.program in
    let found : block_at p c.args.leader ≡ Some b.0 = b.1 in
    let here = c.in-None.ensures in
    cc

pub returns : goal.returns
returns c =
    let p = c.args.program.now in
    let is = λ (count : ℕ) (e : block_at p c.args.leader ≡ Some count). same_Some c.in-Some.count count (c.in-Some.ensures ∙ ap (λ (q : Program). block_at q c.args.leader) c.requires.program ∙ e) in
    let keeps = λ (n : Needs) (needs : AreAllNeeds p n). subst (λ q. KeepsNeeds q (needed_by p n)) (sym c.requires.program) (needed_keeps p n needs) in
    record {
      verdict = λ n count needs e.
          subst (λ m. c.check_kept.result ≡ verdict_of (block_reason p c.args.text.now (needed_by p n) c.args.leader m)) (is count e)
          (c.check_kept.ensures.verdict (needed_by p n) (keeps n needs));
      outcomes = λ n count needs e.
          let k = needed_by p n in
          subst (λ m. AfterShown c.check_kept.result (HoldsOutcomes c.check_kept.new.work (block80 p c.args.leader m) (walk86 p c.args.text.now (k.at c.args.leader) c.args.leader m))) (is count e)
          (c.check_kept.ensures.outcomes k (keeps n needs));
      ready = c.check_kept.ensures.ready;
      compared = λ n count y needs e walked.
          let k = needed_by p n in
          subst (λ m. walk86 p c.args.text.now (k.at c.args.leader) c.args.leader m ≡ Ok y → AreCompared c.check_kept.new.work (block80 p c.args.leader m) y) (is count e)
          (c.check_kept.ensures.compared k y (keeps n needs)) walked;
    }
