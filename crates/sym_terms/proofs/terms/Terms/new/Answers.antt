use Rattle.std.proofs.Common.{subst, sym}
use Rattle.sym_terms.specs.Forms.{IsTermList}
use Rattle.sym_terms.proofs.Growing.{list_empty}
use Rattle.sym_terms.proofs.terms.Terms.new.Goals as goal

pub invariant_of-result : goal.invariant_of-result
invariant_of-result c = subst (λ l. IsTermList l) (sym c.in_ok-new.ensures.0) list_empty
