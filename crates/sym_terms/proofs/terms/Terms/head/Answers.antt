use Rattle.std.proofs.Common.{◌≡◌, ◌∙◌, ap, subst, sym}
use Rattle.xlt_pool.specs.Contents.{Contents}
use Rattle.sym_terms.specs.Numbers.{kind_of}
use Rattle.sym_terms.specs.Heads.{operands, number_of_id, head_by}
use Rattle.sym_terms.specs.Trees.{Tree, tree_of_head, entries_of, tree_in, IsGiven, AreGiven, AreTerms}
use Rattle.sym_terms.proofs.Growing.{are_terms, IsRead, read}
use Rattle.sym_terms.proofs.Reading.{entry_within, read_plain, rest_within, read_flags, tells}
use Rattle.sym_terms.proofs.terms.Terms.head.Goals as goal

pub node-node-requires : goal.node-node-requires
node-node-requires c =
    let pool = c.self.inside.pool in
    let given : IsGiven pool c.args.term = subst (λ (v : Contents). IsGiven v c.args.term) (sym c.self.view_is) c.requires in
    entry_within pool.nodes (number_of_id c.args.term) (Tree (tree_in pool c.args.term)) given

pub node-rest-requires : goal.node-rest-requires
node-rest-requires c =
    let pool = c.self.inside.pool in
    let given : IsGiven pool c.args.term = subst (λ (v : Contents). IsGiven v c.args.term) (sym c.self.view_is) c.requires in
    let r : IsRead pool.nodes c.node-node.result (tree_in pool c.args.term) = read pool.nodes c.self.invariant (number_of_id c.args.term) c.node-node.result (tree_in pool c.args.term) c.node-node.ensures.node given in
    rest_within pool.nodes c.node-node.result r.node (sym c.in-FlagByte.ensures)

pub returns-in-FlagByte-clause-tree : goal.returns-in-FlagByte-clause-tree
returns-in-FlagByte-clause-tree c =
    let pool = c.self.inside.pool in
    let given : IsGiven pool c.args.term = subst (λ (v : Contents). IsGiven v c.args.term) (sym c.self.view_is) c.requires in
    let r : IsRead pool.nodes c.node-node.result (tree_in pool c.args.term) = read pool.nodes c.self.invariant (number_of_id c.args.term) c.node-node.result (tree_in pool c.args.term) c.node-node.ensures.node given in
    let same = c.flag_byte.ensures ∙ read_flags pool.nodes c.self.invariant c.node-node.result c.node-rest.result r.node (sym c.in-FlagByte.ensures) c.node-rest.ensures.node in
    subst (λ (v : Contents). tree_in v c.args.term ≡ tree_of_head (entries_of v.nodes) c.flag_byte.result) c.self.view_is
    (tells pool.nodes c.node-node.result (tree_in pool c.args.term) c.flag_byte.result r same).0

pub returns-in-FlagByte-clause-operands : goal.returns-in-FlagByte-clause-operands
returns-in-FlagByte-clause-operands c =
    let pool = c.self.inside.pool in
    let given : IsGiven pool c.args.term = subst (λ (v : Contents). IsGiven v c.args.term) (sym c.self.view_is) c.requires in
    let r : IsRead pool.nodes c.node-node.result (tree_in pool c.args.term) = read pool.nodes c.self.invariant (number_of_id c.args.term) c.node-node.result (tree_in pool c.args.term) c.node-node.ensures.node given in
    let same = c.flag_byte.ensures ∙ read_flags pool.nodes c.self.invariant c.node-node.result c.node-rest.result r.node (sym c.in-FlagByte.ensures) c.node-rest.ensures.node in
    subst (λ (v : Contents). AreGiven v (operands c.flag_byte.result)) c.self.view_is
    (tells pool.nodes c.node-node.result (tree_in pool c.args.term) c.flag_byte.result r same).1

pub returns-in-FlagByte-clause-terms : goal.returns-in-FlagByte-clause-terms
returns-in-FlagByte-clause-terms c = subst (λ (v : Contents). AreTerms v) c.self.view_is (are_terms c.self.inside.pool c.self.invariant)

pub returns-in_default : goal.returns-in_default
returns-in_default c =
    let pool = c.self.inside.pool in
    let given : IsGiven pool c.args.term = subst (λ (v : Contents). IsGiven v c.args.term) (sym c.self.view_is) c.requires in
    let r : IsRead pool.nodes c.node-node.result (tree_in pool c.args.term) = read pool.nodes c.self.invariant (number_of_id c.args.term) c.node-node.result (tree_in pool c.args.term) c.node-node.ensures.node given in
    let kind : c.kind_of.result ≡ kind_of c.node-node.result.op = c.kind_of.ensures in
    let same = c.head_by.ensures ∙ ap (λ k. head_by k c.node-node.result) kind ∙ read_plain pool.nodes c.node-node.result r.node (λ q. c.in_default.not-FlagByte (kind ∙ q)) in
    let told = tells pool.nodes c.node-node.result (tree_in pool c.args.term) c.head_by.result r same in
    record {
      tree = subst (λ (v : Contents). tree_in v c.args.term ≡ tree_of_head (entries_of v.nodes) c.head_by.result) c.self.view_is told.0;
      operands = subst (λ (v : Contents). AreGiven v (operands c.head_by.result)) c.self.view_is told.1;
      terms = subst (λ (v : Contents). AreTerms v) c.self.view_is (are_terms pool c.self.invariant);
    }
