use Rattle.sym_terms.specs.Trees.{entries_of}
use Rattle.sym_terms.proofs.Interning.{no_rest}
use Rattle.sym_terms.proofs.terms.Terms.keep.Goals as goal

pub keep_with-requires-clause-rest : goal.keep_with-requires-clause-rest
keep_with-requires-clause-rest c = no_rest (entries_of c.args.self.now.nodes) c.args.head 0 c.requires.plain
