-- Where an operand is open and where none is, which saves a long search.
use Rattle.std.proofs.Common.{◌∙◌, cond, ap, refl, subst, sym}
use Rattle.sym_terms.specs.Term.{Adjust, Unknown}
use Rattle.sym_terms.specs.Trees.{tree_in, Makes}
use Rattle.sym_terms.proofs.terms.Terms.adjust.Goals as goal

pub any_open-requires : goal.any_open-requires
any_open-requires c = record { a = c.requires.a.given; b = c.requires.ac.given; c = c.requires.cy.given }

pub keep-requires : goal.keep-requires
keep-requires c =
    let held = c.args.self.now in
    let of = c.requires in
    let are = c.any_open.ensures in
    record {
      plain = refl;
      given = (of.a.given, (of.ac.given, (of.cy.given, tt)));
      made = (are.a_made, are.b_made, are.c_made, of.a.of_sort, of.ac.of_sort, of.cy.of_sort, ap (λ x. cond x Unknown (Adjust (tree_in held c.args.a) (tree_in held c.args.ac) (tree_in held c.args.cy))) (sym are.open ∙ c.if-any_open.false));
    }

pub returns-then-any_open : goal.returns-then-any_open
returns-then-any_open c =
    let held = c.args.self.now in
    let unknown = ap (λ x. cond x Unknown (Adjust (tree_in held c.args.a) (tree_in held c.args.ac) (tree_in held c.args.cy))) (sym c.any_open.ensures.open ∙ c.if-any_open.true) in
    subst (λ t. Makes held c.unknown.new.self 1 t c.unknown.result) (sym unknown) c.unknown.ensures

pub returns-else-any_open : goal.returns-else-any_open
returns-else-any_open c =
    let held = c.args.self.now in
    let kept = ap (λ x. cond x Unknown (Adjust (tree_in held c.args.a) (tree_in held c.args.ac) (tree_in held c.args.cy))) (sym c.any_open.ensures.open ∙ c.if-any_open.false) in
    subst (λ t. Makes held c.keep.new.self 1 t c.keep.result) (sym kept) c.keep.ensures
