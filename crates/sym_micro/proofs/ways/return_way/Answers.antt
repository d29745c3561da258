use Rattle.std.proofs.Common.{◌≡◌, ◌∙◌, ap, subst, sym, lit≤}
use Rattle.sym_terms.specs.Term.{Loaded16}
use Rattle.sym_terms.specs.Making.{high, low}
use Rattle.sym_terms.specs.Trees.{tree_in}
use Rattle.sym_terms.proofs.Interning.{still, then_grows}
use Rattle.sym_block_def.specs.Outcome.{ByTerms}
use Rattle.sym_micro.specs.Exits.{FindsWay}
use Rattle.sym_micro.proofs.Found.{no_way, way_of_terms}
use Rattle.sym_micro.proofs.ways.return_way.Goals as goal

pub returns-in_err-high : goal.returns-in_err-high
returns-in_err-high c =
    let old = c.args.terms.now in
    let one = c.loaded.new.self in
    let two = c.half.new.self in
    let word = Loaded16 c.args.run.now.loads in
    let way = ByTerms (high word) (low word) in
    subst (λ x. FindsWay old two 3 way x) (sym c.from_residual-in_err-high.ensures)
    (no_way old one two 1 (high (tree_in one c.in_ok-word.word)) way c.in_ok-word.ensures.grows (lit≤ tt) c.in_err-high.ensures)

pub returns-in_err-low : goal.returns-in_err-low
returns-in_err-low c =
    let old = c.args.terms.now in
    let one = c.loaded.new.self in
    let two = c.half.new.self in
    let three = c.half-2.new.self in
    let word = Loaded16 c.args.run.now.loads in
    let way = ByTerms (high word) (low word) in
    subst (λ x. FindsWay old three 3 way x) (sym c.from_residual-in_err-low.ensures)
    (no_way old two three 2 (low (tree_in two c.in_ok-word.word)) way (then_grows old one two 1 1 c.in_ok-word.ensures.grows c.in_ok-high.ensures.grows) (lit≤ tt) c.in_err-low.ensures)

pub returns : goal.returns
returns c =
    let old = c.args.terms.now in
    let one = c.loaded.new.self in
    let two = c.half.new.self in
    let three = c.half-2.new.self in
    let word = Loaded16 c.args.run.now.loads in
    let grows = then_grows old two three 2 1 (then_grows old one two 1 1 c.in_ok-word.ensures.grows c.in_ok-high.ensures.grows) c.in_ok-low.ensures.grows in
    let word_is : tree_in two c.in_ok-word.word ≡ word = (c.in_ok-high.ensures.grows.kept c.in_ok-word.word c.in_ok-word.ensures.gives.0).1 ∙ c.in_ok-word.ensures.gives.1 in
    let high_kept = c.in_ok-low.ensures.grows.kept c.in_ok-high.high c.in_ok-high.ensures.gives.0 in
    way_of_terms old three 3 c.in_ok-high.high c.in_ok-low.low (high word) (low word) grows c.in_ok-low.ensures.terms
    (high_kept.0, high_kept.1 ∙ c.in_ok-high.ensures.gives.1 ∙ ap high c.in_ok-word.ensures.gives.1)
    (c.in_ok-low.ensures.gives.0, c.in_ok-low.ensures.gives.1 ∙ ap low word_is)

pub returns-in_err-word : goal.returns-in_err-word
returns-in_err-word c =
    let old = c.args.terms.now in
    let one = c.loaded.new.self in
    let word = Loaded16 c.args.run.now.loads in
    let way = ByTerms (high word) (low word) in
    subst (λ x. FindsWay old one 3 way x) (sym c.from_residual.ensures) (no_way old old one 0 word way (still old) (lit≤ tt) c.in_err-word.ensures)
