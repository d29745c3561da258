use Rattle.sym_terms.specs.Trees.{entries_of}
use Rattle.sym_terms.proofs.Interning.{no_rest}
use Rattle.sym_terms.proofs.Leaves.{leaf_plain, leaf_given, leaf_unadjusted}
use Rattle.sym_terms.proofs.terms.Terms.keep_leaf.Goals as goal

pub keep_with-requires-clause-given : goal.keep_with-requires-clause-given
keep_with-requires-clause-given c = leaf_given c.args.self.now c.args.head c.requires.leaf

pub keep_with-requires-clause-rest : goal.keep_with-requires-clause-rest
keep_with-requires-clause-rest c = no_rest (entries_of c.args.self.now.nodes) c.args.head 0 (leaf_plain c.args.head c.requires.leaf)

pub keep_with-requires-clause-adjusted : goal.keep_with-requires-clause-adjusted
keep_with-requires-clause-adjusted c = leaf_unadjusted (entries_of c.args.self.now.nodes) c.args.head c.requires.leaf
