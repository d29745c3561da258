use Rattle.std.proofs.Common.{◌≡◌, ◌∙◌, ap, subst, sym}
use Rattle.sym_terms.specs.Making.{IsTermMade, regrouped, plus}
use Rattle.sym_terms.specs.Term.{Sum16}
use Rattle.sym_terms.specs.Trees.{tree_in, Makes}
use Rattle.sym_terms.proofs.Making.{gathered_sum, gathered_plain, makes_more}
use Rattle.sym_terms.proofs.terms.Terms.gathered.Goals as goal

pub plus-requires-in_default-head : goal.plus-requires-in_default-head
plus-requires-in_default-head c =
    let held = c.args.self.now in
    let word = tree_in held c.in-Sum16.word in
    let is = c.in-Sum16.ensures.tree ∙ ap (λ t. Sum16 word t) c.head-in-Sum16.ensures.tree in
    let same : regrouped (tree_in held c.args.a) c.args.n ≡ plus (tree_in held c.args.a) c.args.n =
    ap (λ t. regrouped t c.args.n) is ∙ gathered_sum held word c.head-in-Sum16.result c.args.n c.in_default-head.not-Num ∙ ap (λ t. plus t c.args.n) (sym is)
    in
    record { given = c.requires.given; made = subst IsTermMade same c.requires.made; terms = c.in-Sum16.ensures.terms }

pub returns-in_default-head : goal.returns-in_default-head
returns-in_default-head c =
    let held = c.args.self.now in
    let word = tree_in held c.in-Sum16.word in
    let is = c.in-Sum16.ensures.tree ∙ ap (λ t. Sum16 word t) c.head-in-Sum16.ensures.tree in
    let same : regrouped (tree_in held c.args.a) c.args.n ≡ plus (tree_in held c.args.a) c.args.n =
    ap (λ t. regrouped t c.args.n) is ∙ gathered_sum held word c.head-in-Sum16.result c.args.n c.in_default-head.not-Num ∙ ap (λ t. plus t c.args.n) (sym is)
    in
    subst (λ t. Makes held c.plus-in_default-head.new.self 2 t c.plus-in_default-head.result) (sym same) c.plus-in_default-head.ensures

pub returns-in_default : goal.returns-in_default
returns-in_default c =
    let held = c.args.self.now in
    let is = c.head.ensures.tree in
    let same : regrouped (tree_in held c.args.a) c.args.n ≡ plus (tree_in held c.args.a) c.args.n =
    ap (λ t. regrouped t c.args.n) is ∙ gathered_plain held c.head.result c.args.n c.in_default.not-Num c.in_default.not-Sum16 ∙ ap (λ t. plus t c.args.n) (sym is)
    in
    subst (λ t. Makes held c.plus-in_default.new.self 2 t c.plus-in_default.result) (sym same) c.plus-in_default.ensures

pub returns-in-Num : goal.returns-in-Num
returns-in-Num c =
    let held = c.args.self.now in
    let same = ap (λ t. regrouped t c.args.n) c.in-Num.ensures.tree in
    subst (λ t. Makes held c.number.new.self 2 t c.number.result) (sym same) (makes_more held c.number.new.self _ c.number.result c.number.ensures)

pub plus-requires : goal.plus-requires
plus-requires c =
    let held = c.args.self.now in
    let word = tree_in held c.in-Sum16.word in
    let is = c.in-Sum16.ensures.tree ∙ ap (λ t. Sum16 word t) c.in-Num-head.ensures.tree in
    let same = ap (λ t. regrouped t c.args.n) is in
    record { given = c.in-Sum16.ensures.operands.0; made = subst IsTermMade same c.requires.made; terms = c.in-Sum16.ensures.terms }

pub returns-in-Num-head : goal.returns-in-Num-head
returns-in-Num-head c =
    let held = c.args.self.now in
    let word = tree_in held c.in-Sum16.word in
    let is = c.in-Sum16.ensures.tree ∙ ap (λ t. Sum16 word t) c.in-Num-head.ensures.tree in
    let same = ap (λ t. regrouped t c.args.n) is in
    subst (λ t. Makes held c.plus.new.self 2 t c.plus.result) (sym same) c.plus.ensures

pub plus-requires-in_default : goal.plus-requires-in_default
plus-requires-in_default c =
    let held = c.args.self.now in
    let is = c.head.ensures.tree in
    let same : regrouped (tree_in held c.args.a) c.args.n ≡ plus (tree_in held c.args.a) c.args.n =
    ap (λ t. regrouped t c.args.n) is ∙ gathered_plain held c.head.result c.args.n c.in_default.not-Num c.in_default.not-Sum16 ∙ ap (λ t. plus t c.args.n) (sym is)
    in
    record { given = c.requires.given; made = subst IsTermMade same c.requires.made; terms = c.head.ensures.terms }
