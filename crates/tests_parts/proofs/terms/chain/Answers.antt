use Rattle.std.proofs.Common.{◌≡◌, ◌∙◌, ap, Bool, true, false, cond, refl}
use Rattle.i80.specs.declared.Op.{Op}
use Rattle.sym_terms.specs.Term.{Term, Alu, Unknown, is_bit, is_byte}
use Rattle.tests_parts.proofs.terms.chain.Goals as goal

is_a_byte : (x : Bool) (op : Op) (a b c : Term) → is_byte (cond x Unknown (Alu op a b c)) ≡ true
is_a_byte true op a b c = refl
is_a_byte false op a b c = refl

pub links-preserved : goal.links-preserved
links-preserved c =
    let m = c.in_ok-next.ensures in
    let zero = m.grows.kept c.in_ok-zero.zero c.links.invariant.zero.given in
    record {
      sum = record { given = m.gives.0; of_sort = ap is_byte m.gives.1 ∙ is_a_byte _ _ _ _ _ };
      zero = record { given = zero.0; of_sort = ap is_bit zero.1 ∙ c.links.invariant.zero.of_sort };
    }
