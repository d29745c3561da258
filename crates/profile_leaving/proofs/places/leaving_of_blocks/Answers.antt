use Rattle.std.proofs.Common.{◌≡◌, ◌∙◌, ℕ, ◌≤◌, [], length, get_or, refl, sym, ap, subst, arith}
use Rattle.std.specs.List.{cons_option}
use Rattle.std.proofs.lemmas.List.{length-map}
use Rattle.std.proofs.lemmas.Result.{IfOk-from_err}
use Rattle.flow.specs.Blocks.{blocks, leaders}
use Rattle.profile_leaving.proofs.Walking.{IsFound, next_block, found_more, none_found, all_found}
use Rattle.profile_leaving.proofs.places.leaving_of_blocks.Goals as goal
use Rattle.profile_leaving.proofs.places.leaving_of_blocks.Goals.{in-Some+in_ok-push, in_default}

pub place_of-requires : goal.place_of-requires
place_of-requires c =
    let n = next_block c.args.program.now c.args.graph.now.program (c.blocks_cut_the_program.ensures c.args.program.now c.top-top.ensures.program) c.leaders-leader-items.result.now c.loop-leader.leader-index c.block.result c.unwrap_or-count.result c.requires c.leaders-leader-items.ensures c.loop-leader-test.true c.block.ensures c.unwrap_or-count.ensures in
    record { straight = n.straight; some = n.some; few = n.few }

pub loop-leader-preserved : goal.loop-leader-preserved
loop-leader-preserved c =
    let p = c.args.program.now in
    let i = c.loop-leader.leader-index in
    let ls = c.leaders-leader-items.result.now in
    let before = c.loop-leader.places.items in
    let count = c.unwrap_or-count.result in
    let next = next_block p c.args.graph.now.program (c.blocks_cut_the_program.ensures p c.top-top.ensures.program) ls i c.block.result count c.requires c.leaders-leader-items.ensures c.loop-leader-test.true c.block.ensures c.unwrap_or-count.ensures in
    elim c.match-place_of.branch [
      | in-Some+in_ok-push w ↦ rw (w.places-is, w.in_ok-push.ensures.items) (found_more p i (get_or ls i 0) count before _ next (c.place_of.ensures ∙ ap (λ o. cons_option o []) w.in-Some.is) c.loop-leader.invariant)
      | in_default w ↦ rw w.places-is (none_found p i (get_or ls i 0) count before next (c.place_of.ensures ∙ ap (λ o. cons_option o []) w.in_default.is) c.loop-leader.invariant)
    ]

pub loop-leader-init : goal.loop-leader-init
loop-leader-init c = subst (IsFound c.args.program.now 0) (sym c.new-places.ensures.items) refl

pub returns-in_err-push : goal.returns-in_err-push
returns-in_err-push c = IfOk-from_err c.from_residual.result _ c.from_residual.ensures.0

pub returns : goal.returns
returns c =
    let p = c.args.program.now in
    let items = c.leaders-leader-items.ensures ∙ ap leaders c.requires in
    let many : length c.leaders-leader-items.result.now ≡ length (blocks p) = ap length items ∙ length-map (blocks p) (λ (b : ℕ × ℕ). b.0) in
    let past : length c.leaders-leader-items.result.now ≤ c.loop-leader.leader-index = c.loop-leader-test.false in
    all_found p c.loop-leader.leader-index c.loop-leader.places.items (omega (arith, many, past)) c.loop-leader.invariant
