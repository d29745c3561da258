use Rattle.std.proofs.Common.{◌∙◌}
use Rattle.asm80_types.proofs.Marks.{found_one}
use Rattle.flow.proofs.Marks.{found_address}
use Rattle.flow.proofs.cut.mark_all.Goals as goal

pub loop-address-preserved : goal.loop-address-preserved
loop-address-preserved c = λ a. found_address c.args.addresses.now c.loop-address.address-index 0 a _ _ _ c.loop-address-test.true (c.insert.ensures.value a ∙ found_one _ _) (c.loop-address.invariant a)
