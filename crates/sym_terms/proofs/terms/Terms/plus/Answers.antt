use Rattle.std.proofs.Common.{◌≡◌, ◌∙◌, ◌<◌, ap₂, subst, sym, None, arith}
use Rattle.sym_terms.specs.Making.{IsTermMade, plus}
use Rattle.sym_terms.specs.Term.{Sum16}
use Rattle.sym_terms.specs.Trees.{tree_in, Makes}
use Rattle.sym_terms.proofs.Sorts.{plus_is}
use Rattle.sym_terms.proofs.Interning.{then_makes, no_sum}
use Rattle.sym_terms.proofs.terms.Terms.plus.Goals as goal

pub returns-in_err-number : goal.returns-in_err-number
returns-in_err-number c =
    let old = c.args.self.now in
    let a = tree_in old c.args.a in
    let n = c.args.n in
    let positive : 0 < n = omega arith in
    subst (λ r. Makes old c.number.new.self 2 (plus a n) r) (sym c.from_residual.ensures)
    (subst (λ t. Makes old c.number.new.self 2 t None) (sym (plus_is a n positive)) (no_sum old c.number.new.self a n c.in_err-number.ensures))

pub keep-requires-clause-given : goal.keep-requires-clause-given
keep-requires-clause-given c =
    let m = c.in_ok-number.ensures in
    ((m.grows.kept c.args.a c.requires.given).0, (m.gives.0, tt))

pub keep-requires-clause-made : goal.keep-requires-clause-made
keep-requires-clause-made c =
    let old = c.args.self.now in
    let mid = c.number.new.self in
    let m = c.in_ok-number.ensures in
    let a = tree_in old c.args.a in
    let n = c.args.n in
    let positive : 0 < n = omega arith in
    let trees : Sum16 (tree_in mid c.args.a) (tree_in mid c.in_ok-number.number) ≡ plus a n =
    ap₂ Sum16 (m.grows.kept c.args.a c.requires.given).1 m.gives.1 ∙ sym (plus_is a n positive)
    in
    subst IsTermMade (sym trees) c.requires.made

pub returns : goal.returns
returns c =
    let old = c.args.self.now in
    let mid = c.number.new.self in
    let new = c.keep.new.self in
    let m = c.in_ok-number.ensures in
    let a = tree_in old c.args.a in
    let n = c.args.n in
    let positive : 0 < n = omega arith in
    let trees : Sum16 (tree_in mid c.args.a) (tree_in mid c.in_ok-number.number) ≡ plus a n =
    ap₂ Sum16 (m.grows.kept c.args.a c.requires.given).1 m.gives.1 ∙ sym (plus_is a n positive)
    in
    then_makes old mid new (plus a n) c.keep.result m.grows (subst (λ t. Makes mid new 1 t c.keep.result) trees c.keep.ensures)
