use Rattle.std.proofs.Common.{subst}
use Rattle.xlt_pool.specs.Contents.{Contents}
use Rattle.sym_terms.specs.Trees.{AreTerms}
use Rattle.sym_terms.proofs.Growing.{are_terms}
use Rattle.sym_terms.proofs.terms.Terms.mark.Goals as goal

pub returns-clause-terms : goal.returns-clause-terms
returns-clause-terms c = subst (λ (v : Contents). AreTerms v) c.self.view_is (are_terms c.self.inside.pool c.self.invariant)
