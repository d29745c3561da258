use Rattle.std.proofs.Common.{◌≡◌, ◌++◌, true, false, sym, ap, ◌∙◌}
use Rattle.std.specs.List.{list_any}
use Rattle.base.specs.Addresses.{has_address}
use Rattle.asm80_source_def.specs.declared.rule.AsmRule.TheVariants.{S6}
use Rattle.asm80_values.specs.Items.{cells_of_item, refused_item}
use Rattle.asm80_values.proofs.layout.first_overlap.Goals as goal
use Rattle.asm80_values.proofs.Overlaps.{overlap_here, overlap_later}

pub returns-then-overlaps : goal.returns-then-overlaps
returns-then-overlaps c =
    let h : list_any (has_address c.loop-item.filled) (cells_of_item c.item-item.result) ≡ true = sym c.overlaps.ensures ∙ c.if-overlaps.true in
    sym (ap (refused_item S6) (overlap_here c.loop-item.filled c.loop-item.invariant.0 c.args.items.now c.loop-item.item-index c.item-item.result c.loop-item.invariant.1 c.loop-item-test.true c.item-item.is c.loop-item.invariant.2 h))

pub loop-item-preserved : goal.loop-item-preserved
loop-item-preserved c =
    let h : list_any (has_address c.loop-item.filled) (cells_of_item c.item-item.result) ≡ false = sym c.overlaps.ensures ∙ c.if-overlaps.false in
    (cells_of_item c.item-item.result ++ c.loop-item.invariant.0, c.fill.ensures c.loop-item.invariant.0 c.loop-item.invariant.1, overlap_later c.loop-item.filled c.loop-item.invariant.0 c.args.items.now c.loop-item.item-index c.item-item.result c.loop-item.invariant.1 c.loop-item-test.true c.item-item.is c.loop-item.invariant.2 h)
