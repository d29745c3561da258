use Rattle.std.proofs.Common.{refl, ap, sym, ◌∙◌, eq-eqb, eqb-true}
use Rattle.cells.specs.Parts.{parts_of_bits, bits_of_parts}
use Rattle.cells.proofs.KeepPartialEq.eq.Goals as goal

pub returns-clause-gives : goal.returns-clause-gives
returns-clause-gives c =
    rw (← c.self.view_is, ← c.other.view_is, c.self.invariant.1, c.other.invariant.1) refl

pub returns-clause-same : goal.returns-clause-same
returns-clause-same c = (
  λ equal. sym c.self.view_is ∙ ap parts_of_bits (eqb-true _ _ equal) ∙ c.other.view_is,
  λ equal. eq-eqb _ _ (sym c.self.invariant.1 ∙ ap bits_of_parts (c.self.view_is ∙ equal ∙ sym c.other.view_is) ∙ c.other.invariant.1),
)
