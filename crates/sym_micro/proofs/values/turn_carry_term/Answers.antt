use Rattle.std.proofs.Common.{◌≡◌, ◌⊎◌, inl, inr, ap, refl, sym}
use Rattle.i86.specs.declared.Rotate.{Rotate}
use Rattle.i86.specs.declared.Rotate.TheVariants.{Rol, Ror, Rcl, Rcr}
use Rattle.sym_terms.specs.Term.{Term, Num}
use Rattle.sym_terms.specs.Trees.{tree_in}
use Rattle.sym_block_def.specs.Symbolic86.{turn_carry}
use Rattle.sym_micro.proofs.Ready.{made_already, makes_same}
use Rattle.sym_micro.proofs.values.turn_carry_term.Goals as goal

taken : (kind : Rotate) (t : Term) → (kind ≡ Rcl) ⊎ (kind ≡ Rcr) → t ≡ turn_carry kind t
taken kind t (inl is) = ap (λ k. turn_carry k t) (sym is)
taken kind t (inr is) = ap (λ k. turn_carry k t) (sym is)

not_taken : (kind : Rotate) (t : Term) → (kind ≡ Rcl → ⊥) → (kind ≡ Rcr → ⊥) → Num 0 ≡ turn_carry kind t
not_taken Rcl t rcl rcr = absurd (rcl refl)
not_taken Rcr t rcl rcr = absurd (rcr refl)
not_taken Rol t rcl rcr = refl
not_taken Ror t rcl rcr = refl

pub returns-in-Rcl : goal.returns-in-Rcl
returns-in-Rcl c =
    let cy = c.args.run.now.held.cy in
    made_already c.args.terms.now _ cy c.requires.terms c.requires.given.held.cy (taken c.args.kind (tree_in c.args.terms.now cy) c.in-Rcl.is)

pub returns-in_default : goal.returns-in_default
returns-in_default c =
    makes_same c.args.terms.now c.number.new.self _ _ c.number.result (not_taken c.args.kind (tree_in c.args.terms.now c.args.run.now.held.cy) c.in_default.not-Rcl c.in_default.not-Rcr) c.number.ensures
