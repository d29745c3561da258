use Rattle.std.proofs.Common.{◌∙◌, ap, refl, subst, sym, Some}
use Rattle.sym_terms.specs.Term.{High}
use Rattle.sym_terms.specs.Making.{high}
use Rattle.sym_terms.specs.Trees.{Makes}
use Rattle.sym_terms.proofs.Making.{high_plain, high_open, makes_given}
use Rattle.sym_terms.proofs.terms.Terms.high_half.Goals as goal

pub keep-requires-clause-made : goal.keep-requires-clause-made
keep-requires-clause-made c =
    let held = c.args.self.now in
    let n = c.in_default in
    let kept = ap high c.head.ensures.tree ∙ high_plain held c.head.result n.not-Num n.not-Join n.not-Turned n.not-Unknown ∙ ap High (sym c.head.ensures.tree) in
    (c.head.ensures.terms.made c.args.word c.requires.given, c.requires.of_sort, kept)

pub returns-in-Join : goal.returns-in-Join
returns-in-Join c =
    let held = c.args.self.now in
    subst (λ t. Makes held held 1 t (Some c.in-Join.high)) (sym (ap high c.in-Join.ensures.tree)) (makes_given held c.in-Join.high _ c.in-Join.ensures.terms (c.in-Join.ensures.operands.0, refl))

pub returns-in_default : goal.returns-in_default
returns-in_default c =
    let held = c.args.self.now in
    let n = c.in_default in
    let kept = ap high c.head.ensures.tree ∙ high_plain held c.head.result n.not-Num n.not-Join n.not-Turned n.not-Unknown ∙ ap High (sym c.head.ensures.tree) in
    subst (λ t. Makes held c.keep.new.self 1 t c.keep.result) (sym kept) c.keep.ensures

pub returns-in-Num : goal.returns-in-Num
returns-in-Num c =
    let held = c.args.self.now in
    subst (λ t. Makes held c.number.new.self 1 t c.number.result) (sym (ap high c.in-Num.ensures.tree)) c.number.ensures

pub returns-in-Turned : goal.returns-in-Turned
returns-in-Turned c =
    let held = c.args.self.now in
    let none = ap high c.head.ensures.tree ∙ high_open held c.head.result c.in-Turned.is in
    subst (λ t. Makes held c.unknown.new.self 1 t c.unknown.result) (sym none) c.unknown.ensures
