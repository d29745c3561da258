use Rattle.std.proofs.Common.{take}
use Rattle.asm80_types.specs.WellFormed.{AreWellFormed}
use Rattle.asm80_text.proofs.Several.{HaveAdded, targets}
use Rattle.asm80_text.proofs.parts.statements.Given as goal

abbrev pub invariant-loop-part : goal.invariant-loop-part
invariant-loop-part g l = record {
  so_far : HaveAdded g.N.Notation.spelling l.line (targets (take l.part-index l.parts)) l.fn.found.items l.found.items;
  well_formed : AreWellFormed l.found.items;
}
