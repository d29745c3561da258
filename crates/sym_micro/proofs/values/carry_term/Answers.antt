use Rattle.std.proofs.Common.{◌≡◌, ◌⊎◌, inl, inr, ap, refl, sym}
use Rattle.i80.specs.declared.Op.{Op}
use Rattle.i80.specs.declared.Op.TheVariants.{Adc, Sbb}
use Rattle.sym_terms.specs.Term.{Term, Num}
use Rattle.sym_terms.specs.Trees.{tree_in}
use Rattle.sym_block_def.specs.Block80.{carry_in}
use Rattle.sym_micro.proofs.Ready.{made_already, makes_same}
use Rattle.sym_micro.proofs.values.carry_term.Goals as goal

taken : (op : Op) (t : Term) → (op ≡ Adc) ⊎ (op ≡ Sbb) → t ≡ carry_in op t
taken op t (inl is) = ap (λ o. carry_in o t) (sym is)
taken op t (inr is) = ap (λ o. carry_in o t) (sym is)

not_taken : (op : Op) (t : Term) → (op ≡ Adc → ⊥) → (op ≡ Sbb → ⊥) → Num 0 ≡ carry_in op t
not_taken Adc t adc sbb = absurd (adc refl)
not_taken Sbb t adc sbb = absurd (sbb refl)
not_taken op t adc sbb = refl

pub returns-in-Adc : goal.returns-in-Adc
returns-in-Adc c =
    let cy = c.args.run.now.held.cy in
    made_already c.args.terms.now _ cy c.requires.terms c.requires.given.held.cy (taken c.args.op (tree_in c.args.terms.now cy) c.in-Adc.is)

pub returns-in_default : goal.returns-in_default
returns-in_default c =
    makes_same c.args.terms.now c.number.new.self _ _ c.number.result (not_taken c.args.op (tree_in c.args.terms.now c.args.run.now.held.cy) c.in_default.not-Adc c.in_default.not-Sbb) c.number.ensures
