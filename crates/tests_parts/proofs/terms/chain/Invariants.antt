use Rattle.sym_terms.specs.Term.{is_bit, is_byte}
use Rattle.sym_terms.specs.Trees.{IsA}
use Rattle.tests_parts.proofs.terms.chain.Given as goal

abbrev pub invariant-links : goal.invariant-links
invariant-links l = record { sum : IsA is_byte l.terms l.sum; zero : IsA is_bit l.terms l.zero }
