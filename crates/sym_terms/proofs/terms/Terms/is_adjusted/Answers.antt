use Rattle.std.proofs.Common.{◌∙◌, ap, subst, sym}
use Rattle.xlt_pool.specs.Contents.{Contents}
use Rattle.sym_terms.specs.Numbers.{says_adjusted}
use Rattle.sym_terms.specs.Heads.{number_of_id}
use Rattle.sym_terms.specs.Term.{is_adjusted}
use Rattle.sym_terms.specs.Trees.{Tree, tree_of_head, entries_of, tree_in, IsGiven}
use Rattle.sym_terms.proofs.Growing.{IsRead, read}
use Rattle.sym_terms.proofs.Marks.{mark_back}
use Rattle.sym_terms.proofs.Reading.{entry_within}
use Rattle.sym_terms.proofs.terms.Terms.is_adjusted.Goals as goal

pub node-node-requires : goal.node-node-requires
node-node-requires c =
    let pool = c.self.inside.pool in
    let given : IsGiven pool c.args.term = subst (λ (v : Contents). IsGiven v c.args.term) (sym c.self.view_is) c.requires in
    entry_within pool.nodes (number_of_id c.args.term) (Tree (tree_in pool c.args.term)) given

pub returns : goal.returns
returns c =
    let pool = c.self.inside.pool in
    let given : IsGiven pool c.args.term = subst (λ (v : Contents). IsGiven v c.args.term) (sym c.self.view_is) c.requires in
    let r : IsRead pool.nodes c.node-node.result (tree_in pool c.args.term) = read pool.nodes c.self.invariant (number_of_id c.args.term) c.node-node.result (tree_in pool c.args.term) c.node-node.ensures.node given in
    c.says_adjusted.ensures
    ∙ ap (λ n. says_adjusted n.op) r.node.is
    ∙ mark_back (is_adjusted (tree_of_head (entries_of pool.nodes) r.node.head)) r.node.head r.node.further
    ∙ ap is_adjusted (sym r.is)
    ∙ ap (λ (v : Contents). is_adjusted (tree_in v c.args.term)) c.self.view_is
