use Rattle.std.proofs.Common.{◌∙◌, ap, cond, sym, subst}
use Rattle.sym_terms.specs.Term.{Sum16, Unknown}
use Rattle.sym_terms.specs.Making.{IsTermMade, sum_of}
use Rattle.sym_terms.specs.Trees.{tree_in, Makes}
use Rattle.sym_terms.proofs.Making.{gathered_is_made, sum_plain, makes_more}
use Rattle.sym_terms.proofs.terms.Terms.sum16.Goals as goal

pub gathered-requires-clause-made : goal.gathered-requires-clause-made
gathered-requires-clause-made c =
    let held = c.args.self.now in
    let made = c.either_open.ensures.a_made in
    let closed = sym c.either_open.ensures.open ∙ c.if-either_open.false in
    let tree = c.in-Num.ensures.tree in
    gathered_is_made (tree_in held c.args.a) (tree_in held c.args.b) c.in-Num.n made c.requires.a.of_sort tree (subst IsTermMade tree c.either_open.ensures.b_made) closed

pub keep-requires-clause-made : goal.keep-requires-clause-made
keep-requires-clause-made c =
    let held = c.args.self.now in
    let a = tree_in held c.args.a in
    let b = tree_in held c.args.b in
    let closed = sym c.either_open.ensures.open ∙ c.if-either_open.false in
    let kept =
    ap (λ x. cond x Unknown (sum_of a b)) closed
    ∙ ap (sum_of a) c.head.ensures.tree
    ∙ sum_plain held a c.head.result c.in_default.not-Num
    ∙ ap (Sum16 a) (sym c.head.ensures.tree)
    in
    (c.either_open.ensures.a_made, c.either_open.ensures.b_made, c.requires.a.of_sort, c.requires.b.of_sort, kept)

pub returns-in_default : goal.returns-in_default
returns-in_default c =
    let held = c.args.self.now in
    let a = tree_in held c.args.a in
    let b = tree_in held c.args.b in
    let closed = sym c.either_open.ensures.open ∙ c.if-either_open.false in
    let kept =
    ap (λ x. cond x Unknown (sum_of a b)) closed
    ∙ ap (sum_of a) c.head.ensures.tree
    ∙ sum_plain held a c.head.result c.in_default.not-Num
    ∙ ap (Sum16 a) (sym c.head.ensures.tree)
    in
    subst (λ t. Makes held c.keep.new.self 2 t c.keep.result) (sym kept) (makes_more held c.keep.new.self _ c.keep.result c.keep.ensures)

pub returns-in-Num : goal.returns-in-Num
returns-in-Num c =
    let held = c.args.self.now in
    let a = tree_in held c.args.a in
    let b = tree_in held c.args.b in
    let closed = sym c.either_open.ensures.open ∙ c.if-either_open.false in
    let sum = ap (λ x. cond x Unknown (sum_of a b)) closed ∙ ap (sum_of a) c.in-Num.ensures.tree in
    subst (λ t. Makes held c.gathered.new.self 2 t c.gathered.result) (sym sum) c.gathered.ensures

pub returns-then-either_open : goal.returns-then-either_open
returns-then-either_open c =
    let held = c.args.self.now in
    let a = tree_in held c.args.a in
    let b = tree_in held c.args.b in
    let unknown = sym c.either_open.ensures.open ∙ c.if-either_open.true in
    subst (λ t. Makes held c.unknown.new.self 2 t c.unknown.result) (sym (ap (λ x. cond x Unknown (sum_of a b)) unknown)) (makes_more held c.unknown.new.self _ c.unknown.result c.unknown.ensures)
