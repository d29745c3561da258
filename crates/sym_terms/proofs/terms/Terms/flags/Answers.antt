use Rattle.std.proofs.Common.{◌∙◌, ap, subst, sym, Some, ◌∷◌, []}
use Rattle.sym_terms.specs.declared.head.Head.{Head}
use Rattle.sym_terms.specs.declared.head.Head.TheVariants.{FlagByte as FlagByteHead}
use Rattle.sym_terms.specs.Making.{IsTermMade}
use Rattle.sym_terms.specs.Term.{FlagByte}
use Rattle.sym_terms.specs.Trees.{Rest, tree_in, tree_of_head, entries_of, Makes}
use Rattle.sym_terms.proofs.Sorts.{sorts}
use Rattle.sym_terms.proofs.Interning.{then_makes}
use Rattle.sym_terms.proofs.Making.{same_tree, still_given, same_head, no_flag_byte}
use Rattle.sym_terms.proofs.terms.Terms.flags.Goals as goal

pub returns-in_err-rest : goal.returns-in_err-rest
returns-in_err-rest c =
    let old = c.args.self.now in
    let mid = c.keep_rest.new.self in
    let tree = FlagByte (tree_in old c.args.s) (tree_in old c.args.z) (tree_in old c.args.ac) (tree_in old c.args.p) (tree_in old c.args.cy) in
    subst (λ r. Makes old mid 2 tree r) (sym c.from_residual.ensures)
    (no_flag_byte old mid (tree_in old c.args.s) (tree_in old c.args.z) (tree_in old c.args.ac) (tree_in old c.args.p) (tree_in old c.args.cy) c.in_err-rest.ensures)

pub keep_with-requires-clause-given : goal.keep_with-requires-clause-given
keep_with-requires-clause-given c =
    still_given c.args.self.now c.keep_rest.new.self 1 c.in_ok-rest.ensures.grows (c.args.s ∷ c.args.z ∷ c.args.ac ∷ c.args.p ∷ c.args.cy ∷ [])
    (c.requires.s.given, (c.requires.z.given, (c.requires.ac.given, (c.requires.p.given, (c.requires.cy.given, tt)))))

pub keep_with-requires-clause-rest : goal.keep_with-requires-clause-rest
keep_with-requires-clause-rest c =
    let old = c.args.self.now in
    let mid = c.keep_rest.new.self in
    let grows = c.in_ok-rest.ensures.grows in
    c.in_ok-rest.ensures.gives
    ∙ ap (λ x. Some (Rest x (tree_in old c.args.p) (tree_in old c.args.cy))) (same_tree old mid 1 grows c.args.ac c.requires.ac.given)
    ∙ ap (λ x. Some (Rest (tree_in mid c.args.ac) x (tree_in old c.args.cy))) (same_tree old mid 1 grows c.args.p c.requires.p.given)
    ∙ ap (λ x. Some (Rest (tree_in mid c.args.ac) (tree_in mid c.args.p) x)) (same_tree old mid 1 grows c.args.cy c.requires.cy.given)

pub keep_with-requires-clause-made : goal.keep_with-requires-clause-made
keep_with-requires-clause-made c =
    let old = c.args.self.now in
    let head : Head = FlagByteHead c.args.s c.args.z c.args.ac c.args.p c.args.cy in
    let made = c.requires.terms.made in
    let before = (sorts.flag_byte (tree_in old c.args.s) (tree_in old c.args.z) (tree_in old c.args.ac) (tree_in old c.args.p) (tree_in old c.args.cy)
    (made c.args.s c.requires.s.given, c.requires.s.of_sort)
    (made c.args.z c.requires.z.given, c.requires.z.of_sort)
    (made c.args.ac c.requires.ac.given, c.requires.ac.of_sort)
    (made c.args.p c.requires.p.given, c.requires.p.of_sort)
    (made c.args.cy c.requires.cy.given, c.requires.cy.of_sort)).0 in
    subst IsTermMade (same_head old c.keep_rest.new.self 1 c.in_ok-rest.ensures.grows head (c.requires.s.given, (c.requires.z.given, (c.requires.ac.given, (c.requires.p.given, (c.requires.cy.given, tt)))))) before

pub returns : goal.returns
returns c =
    let old = c.args.self.now in
    let mid = c.keep_rest.new.self in
    let head : Head = FlagByteHead c.args.s c.args.z c.args.ac c.args.p c.args.cy in
    let grows = c.in_ok-rest.ensures.grows in
    let same = same_head old mid 1 grows head (c.requires.s.given, (c.requires.z.given, (c.requires.ac.given, (c.requires.p.given, (c.requires.cy.given, tt))))) in
    then_makes old mid c.keep_with.new.self (tree_of_head (entries_of old.nodes) head) c.keep_with.result grows
    (subst (λ t. Makes mid c.keep_with.new.self 1 t c.keep_with.result) (sym same) c.keep_with.ensures)
