use Rattle.std.proofs.Common.{◌∙◌, ap, ap₂, refl, subst, sym, Some}
use Rattle.sym_terms.specs.Term.{Bit}
use Rattle.sym_terms.specs.Making.{bit}
use Rattle.sym_terms.specs.Trees.{Makes}
use Rattle.sym_terms.proofs.Making.{bit_plain, makes_given}
use Rattle.sym_terms.proofs.terms.Terms.bit.Goals as goal

pub keep-requires-clause-made : goal.keep-requires-clause-made
keep-requires-clause-made c =
    let held = c.args.self.now in
    let part = c.args.part in
    let n = c.in_default in
    let kept = ap (λ b. bit b part) c.head.ensures.tree ∙ bit_plain held c.head.result part n.not-FlagByte n.not-Unknown ∙ ap (λ b. Bit b part) (sym c.head.ensures.tree) in
    (c.head.ensures.terms.made c.args.byte c.requires.byte.given, c.requires.byte.of_sort, c.requires.part, kept)

pub returns-in_default : goal.returns-in_default
returns-in_default c =
    let held = c.args.self.now in
    let part = c.args.part in
    let n = c.in_default in
    let kept = ap (λ b. bit b part) c.head.ensures.tree ∙ bit_plain held c.head.result part n.not-FlagByte n.not-Unknown ∙ ap (λ b. Bit b part) (sym c.head.ensures.tree) in
    subst (λ t. Makes held c.keep.new.self 1 t c.keep.result) (sym kept) c.keep.ensures

pub returns-in-S : goal.returns-in-S
returns-in-S c =
    let held = c.args.self.now in
    subst (λ t. Makes held held 1 t (Some c.in-FlagByte.s)) (sym (ap₂ bit c.in-FlagByte.ensures.tree c.in-S.is)) (makes_given held c.in-FlagByte.s _ c.in-FlagByte.ensures.terms (c.in-FlagByte.ensures.operands.0, refl))

pub returns-in-Z : goal.returns-in-Z
returns-in-Z c =
    let held = c.args.self.now in
    subst (λ t. Makes held held 1 t (Some c.in-FlagByte.z)) (sym (ap₂ bit c.in-FlagByte.ensures.tree c.in-Z.is)) (makes_given held c.in-FlagByte.z _ c.in-FlagByte.ensures.terms (c.in-FlagByte.ensures.operands.1.0, refl))

pub returns-in-Ac : goal.returns-in-Ac
returns-in-Ac c =
    let held = c.args.self.now in
    subst (λ t. Makes held held 1 t (Some c.in-FlagByte.ac)) (sym (ap₂ bit c.in-FlagByte.ensures.tree c.in-Ac.is)) (makes_given held c.in-FlagByte.ac _ c.in-FlagByte.ensures.terms (c.in-FlagByte.ensures.operands.1.1.0, refl))

pub returns-in-P : goal.returns-in-P
returns-in-P c =
    let held = c.args.self.now in
    subst (λ t. Makes held held 1 t (Some c.in-FlagByte.p)) (sym (ap₂ bit c.in-FlagByte.ensures.tree c.in-P.is)) (makes_given held c.in-FlagByte.p _ c.in-FlagByte.ensures.terms (c.in-FlagByte.ensures.operands.1.1.1.0, refl))
