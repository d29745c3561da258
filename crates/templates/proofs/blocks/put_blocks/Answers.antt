use Rattle.std.proofs.Common.{◌≡◌, ℕ, ◌+◌, ◌*◌, ◌<◌, ◌≤◌, List, ◌++◌, length, take, drop, refl, sym, ap, subst, ◌∙◌, All, arith, append-nil}
use Rattle.std.proofs.lemmas.List.{length-map, length-take, drop_all}
use Rattle.std.proofs.lemmas.Bool.{and_parts, leb-true}
use Rattle.std.proofs.lemmas.Result.{err_from_is_err_and}
use Rattle.std.specs.Prelude.{◌==◌, ◌^◌, ◌%◌, nat_le, ◌&&◌}
use Rattle.std.proofs.lemmas.List.Elements.{All-drop, All-take}
use Rattle.asm86_line_types.specs.declared.line.Stmt86.{Stmt86}
use Rattle.asm80_types.specs.declared.program.Placed.{Placed}
use Rattle.asm80_types.specs.Program.{Program}
use Rattle.flow.specs.Blocks.{cut_from, extent, blocks, leaders}
use Rattle.flow.specs.Cut.{EndsInMemory}
use Rattle.flow.specs.Solving.{AreAllNeeds}
use Rattle.flow.proofs.Cuts.{flat-cut}
use Rattle.templates.specs.Style.{Style, block_in_style, blocks_of}
use Rattle.templates.specs.Jumps.{style_by}
use Rattle.templates.proofs.Joined.{next_found, put_next}
use Rattle.templates.proofs.blocks.put_blocks.Goals as goal

-- a block of what is left has room, where what is left has
block_fits : (text front rest old : ℕ) → text + 13 * rest ≤ old + 13 * 65022 → front ≤ rest → old < 2 ^ 16 → text + 13 * front < 2 ^ 20
block_fits text front rest old most part small = omega (arith, most, part, small)

front_is_part : (k : ℕ) (front xs : List Placed) → front ≡ take k xs → length front ≤ length xs
front_is_part k front xs e = let same = ap length e ∙ length-take k xs in omega (arith, same)

-- past the last leader no block is left
all_put : (p q : Program) (s : Style) (xs : List ℕ) (i : ℕ) (text whole : List Stmt86) → xs ≡ leaders q → q ≡ p → length xs ≤ i → text ++ blocks_of s (drop i (cut_from p 0 p.instrs)) ≡ whole → text ≡ whole
all_put p q s xs i text whole e same past so_far =
    let cuts = cut_from p 0 p.instrs in
    let count = ap length (e ∙ ap leaders same) ∙ (length-map (blocks p) (λ (b : ℕ × ℕ). b.0) ∙ length-map cuts extent) in
    let none = drop_all i cuts (subst (λ n. n ≤ i) count past) in
    sym (append-nil text) ∙ (ap (λ rest. text ++ blocks_of s rest) (sym none) ∙ so_far)

pub loop-leader-init : goal.loop-leader-init
loop-leader-init c =
    let top = c.args.program.now.top in
    let range = and_parts (top % 0x100 == 0) (nat_le 0x1000 top && nat_le top 0xFF00) c.instrs-rest.ensures.program.top in
    let most : top ≤ 0xFF00 = leb-true top 0xFF00 (and_parts (nat_le 0x1000 top) (nat_le top 0xFF00) range.1).1 in
    record {
      rest = rw c.instrs-rest.ensures.value (sym (flat-cut c.args.program.now 0 c.args.program.now.instrs));
      so_far = λ n all. refl;
      whole = λ k d lt. let laid = c.instrs-rest.ensures.laid k d lt in (laid.good, omega (arith, laid.below, most));
      most = let few = c.instrs-rest.ensures.few in omega (arith, few);
    }

pub split_at-requires : goal.split_at-requires
split_at-requires c =
    (next_found c.args.program.now c.args.graph.now.program c.requires.program (c.blocks_cut_the_program.ensures c.args.program.now c.instrs-rest.ensures.program) c.loop-leader.leader-index c.unwrap_or-count.result c.leaders-leader-items.result.now c.block.result c.loop-leader.rest.now c.leaders-leader-items.ensures c.loop-leader-test.true c.loop-leader.invariant.rest c.unwrap_or-count.ensures c.block.ensures).within

pub loop-leader-preserved : goal.loop-leader-preserved
loop-leader-preserved c =
    let p = c.args.program.now in
    let next = next_found p c.args.graph.now.program c.requires.program (c.blocks_cut_the_program.ensures p c.instrs-rest.ensures.program) c.loop-leader.leader-index c.unwrap_or-count.result c.leaders-leader-items.result.now c.block.result c.loop-leader.rest.now c.leaders-leader-items.ensures c.loop-leader-test.true c.loop-leader.invariant.rest c.unwrap_or-count.ensures c.block.ensures in
    record {
      rest = c.split_at.ensures.back ∙ next.behind;
      so_far = λ n all. put_next (style_by n c.args.jumps.now) (cut_from p 0 p.instrs) c.loop-leader.leader-index c.loop-leader.text c.put_block.new.text _ next.next
          (c.in_ok-put_block.ensures.value n (subst (λ q. AreAllNeeds q n) (sym c.requires.program) all) ∙ ap (λ b. c.loop-leader.text ++ block_in_style (style_by n c.args.jumps.now) b) (c.split_at.ensures.front ∙ next.block)) (c.loop-leader.invariant.so_far n all);
      whole = subst (All EndsInMemory) (sym c.split_at.ensures.back) (All-drop EndsInMemory c.unwrap_or-count.result c.loop-leader.rest.now c.loop-leader.invariant.whole);
      most = let more = c.in_ok-put_block.ensures.most in let front = c.split_at.ensures.front_len in let back = c.split_at.ensures.back_len in let before = c.loop-leader.invariant.most in omega (arith, more, front, back, before);
    }

pub put_block-requires-clause-room : goal.put_block-requires-clause-room
put_block-requires-clause-room c =
    let front = c.split_at.result.0.now in
    let rest = c.loop-leader.rest.now in
    block_fits (length c.loop-leader.text) (length front) (length rest) (length c.args.text.now) c.loop-leader.invariant.most (front_is_part c.unwrap_or-count.result front rest c.split_at.ensures.front) c.requires.room

pub put_block-requires-clause-whole : goal.put_block-requires-clause-whole
put_block-requires-clause-whole c =
    subst (All EndsInMemory) (sym c.split_at.ensures.front) (All-take EndsInMemory c.unwrap_or-count.result c.loop-leader.rest.now c.loop-leader.invariant.whole)

pub returns-clause-value : goal.returns-clause-value
returns-clause-value c = λ n all.
    all_put c.args.program.now c.args.graph.now.program (style_by n c.args.jumps.now) c.leaders-leader-items.result.now c.loop-leader.leader-index c.loop-leader.text _ c.leaders-leader-items.ensures c.requires.program c.loop-leader-test.false (c.loop-leader.invariant.so_far n all)

no_more : (text rest most : ℕ) → text + 13 * rest ≤ most → text ≤ most
no_more text rest most h = omega (arith, h)

pub returns-clause-most : goal.returns-clause-most
returns-clause-most c = no_more (length c.loop-leader.text) (length c.loop-leader.rest.now) (length c.args.text.now + 13 * 65022) c.loop-leader.invariant.most

pub put_block-requires-clause-solved : goal.put_block-requires-clause-solved
put_block-requires-clause-solved c = c.requires.solved

pub returns-in_err-put_block-clause-value : goal.returns-in_err-put_block-clause-value
returns-in_err-put_block-clause-value c = λ n all. let p = err_from_is_err_and c.from_residual.result c.from_residual.ensures.1 in rw p.1 tt

pub returns-in_err-put_block-clause-most : goal.returns-in_err-put_block-clause-most
returns-in_err-put_block-clause-most c = let p = err_from_is_err_and c.from_residual.result c.from_residual.ensures.1 in rw p.1 tt
