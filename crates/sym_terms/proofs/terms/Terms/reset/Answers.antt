use Rattle.std.proofs.Common.{◌∙◌, ap, subst, sym}
use Rattle.std.specs.List.{slice_get}
use Rattle.xlt_pool.specs.Contents.{Contents}
use Rattle.sym_terms.specs.Heads.{number_of_id}
use Rattle.sym_terms.specs.Trees.{Tree, entries_of, tree_in, IsGiven, StandsFor}
use Rattle.sym_terms.specs.Forms.{IsTermList}
use Rattle.sym_terms.proofs.Places.{get_in_cut}
use Rattle.sym_terms.proofs.Entries.{entries_cut}
use Rattle.sym_terms.proofs.Growing.{list_cut, are_terms}
use Rattle.sym_terms.proofs.Interning.{from_entry}
use Rattle.sym_terms.proofs.terms.Terms.reset.Goals as goal

pub invariant_of-self : goal.invariant_of-self
invariant_of-self c = subst (λ l. IsTermList l) (sym c.reset.ensures.nodes) (list_cut c.self.inside.pool.nodes c.self.invariant c.args.mark.0)

pub returns-clause-kept : goal.returns-clause-kept
returns-clause-kept c t below h =
    let pool = c.self.inside.pool in
    let before : IsGiven pool t = subst (λ (v : Contents). IsGiven v t) (sym c.self.view_is) h in
    subst (λ (v : Contents). StandsFor c.reset.new.self t (tree_in v t)) c.self.view_is
    (from_entry c.reset.new.self t (tree_in pool t)
    (ap (λ l. slice_get (entries_of l) (number_of_id t)) c.reset.ensures.nodes
    ∙ ap (λ l. slice_get l (number_of_id t)) (entries_cut pool.nodes c.args.mark.0)
    ∙ get_in_cut (entries_of pool.nodes) (Tree (tree_in pool t)) c.args.mark.0 (number_of_id t) below before))

pub returns-clause-terms : goal.returns-clause-terms
returns-clause-terms c = are_terms c.reset.new.self (subst (λ l. IsTermList l) (sym c.reset.ensures.nodes) (list_cut c.self.inside.pool.nodes c.self.invariant c.args.mark.0))
