use Rattle.std.proofs.Common.{◌≡◌, ◌∙◌, ◌+◌, ◌-◌, length, take, drop, Some, false, refl, sym, ap, subst}
use Rattle.asm80_types.specs.Program.{Program}
use Rattle.flow.specs.Blocks.{block_at}
use Rattle.shrink.specs.Apart.{LabelStands, IsApart}
use Rattle.asm86_line_types.specs.Image.{statements}
use Rattle.block_check.specs.Comparing.{verdict_of}
use Rattle.simulation_def.specs.Needed.{needed_by}
use Rattle.sym_block_def.specs.BlockMatch.{block_reason}
use Rattle.shrink.proofs.Steps.{not_true}
use Rattle.shrink.proofs.Matched.{is_leader, reason_is, not_block}
use Rattle.shrink.proofs.Alone.{shown_none, to_end, framed_if}
use Rattle.shrink.proofs.matching.match_text_without.Goals as goal

pub check-requires-clause-leader : goal.check-requires-clause-leader
check-requires-clause-leader c =
    let leader = c.in-Some.leader in
    let stands = c.in-Some.ensures.1 in
    is_leader c.args.program.now leader stands.is.count (subst (λ (q : Program). block_at q leader ≡ Some stands.is.count) c.requires.program stands.is.block)

-- the block before the place is not shown
pub returns-in-NotShown : goal.returns-in-NotShown
returns-in-NotShown c = λ n needs.
    let p = c.args.program.now in
    let leader = c.in-Some.leader in
    let stands = c.in-Some.ensures.1 in
    let count = stands.is.count in
    let block = subst (λ (q : Program). block_at q leader ≡ Some count) c.requires.program stands.is.block in
    let found = reason_is (block_reason p c.args.text.now (needed_by p n) leader count) c.in-NotShown.field-0 (c.in-NotShown.ensures.verdict n count needs block) in (
      λ t. absurd (not_true false refl t),
      λ m. absurd (not_block p n c.args.lines.now c.args.text.now leader count c.in-NotShown.field-0 c.requires.text block found m),
    )

-- it is shown, and no other comes there
pub returns-then-is_apart : goal.returns-then-is_apart
returns-then-is_apart c =
    let p = c.args.program.now in
    let lines = c.args.lines.now in
    let leader = c.in-Some.leader in
    let stands = subst (λ (q : Program). LabelStands q lines c.in-Some.at leader) c.requires.program c.in-Some.ensures.1 in
    let inner = take (c.args.place - (c.in-Some.at + 1)) (drop (c.in-Some.at + 1) lines) in
    let x = c.requires.matched in
    framed_if p (c.blocks_cut_the_program.ensures p c.top-top.ensures.program) lines c.in-Some.at c.args.place leader stands c.in-Some.ensures.0 c.requires.place x.0 x.1
    c.has_frame.result c.has_frame.ensures
    (subst (IsApart p inner) (to_end c.args.place lines)
    (subst (λ (q : Program). IsApart q inner (take (length lines - c.args.place) (drop c.args.place lines))) c.requires.program (c.is_apart.ensures.0 c.if-is_apart.true)))
    (λ n needs. shown_none (block_reason p (statements lines) (needed_by p n) leader stands.is.count)
    (sym c.in_default-check.is ∙ c.check.ensures.verdict n stands.is.count needs stands.is.block
    ∙ ap (λ t. verdict_of (block_reason p t (needed_by p n) leader stands.is.count)) c.requires.text))
    x.2
