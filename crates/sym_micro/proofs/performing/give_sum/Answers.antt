use Rattle.std.proofs.Common.{◌≡◌, ap₂, subst, sym, Some, None, le_refl}
use Rattle.sym_terms.specs.Making.{sum16}
use Rattle.sym_terms.specs.Trees.{Makes}
use Rattle.sym_micro.specs.Machine.{word_in, with_word}
use Rattle.sym_micro.specs.Stands.{machine_of, GoesOn}
use Rattle.sym_micro.proofs.Sorted.{word_sorted}
use Rattle.sym_micro.proofs.Ready.{gives_of, failed, gave_word, word_here, word_tree_here}
use Rattle.sym_micro.proofs.performing.give_sum.Goals as goal

pub sum16-requires : goal.sum16-requires
sum16-requires c =
    let old = c.args.terms.now in
    let r = c.args.run.now in
    record { a = word_here old r c.args.a c.word.result c.requires c.word.ensures; b = word_here old r c.args.b c.word-2.result c.requires c.word-2.ensures }

pub returns-in_err-term : goal.returns-in_err-term
returns-in_err-term c =
    let old = c.args.terms.now in
    let new = c.sum16.new.self in
    let r = c.args.run.now in
    let tree = sum16 (word_in (machine_of old r) c.args.a) (word_in (machine_of old r) c.args.b) in
    let same = ap₂ sum16 (word_tree_here old r c.args.a c.word.result c.word.ensures) (word_tree_here old r c.args.b c.word-2.result c.word-2.ensures) in
    subst (λ x. GoesOn old new r r 2 0 (λ m. m ≡ with_word (machine_of old r) c.args.slot tree) x) (sym c.from_residual.ensures)
    (failed old new r 2 2 0 tree (λ m. m ≡ with_word (machine_of old r) c.args.slot tree) (le_refl 2) c.requires (gives_of old new 2 tree None (subst (λ x. Makes old new 2 x None) same c.in_err-term.ensures)))

pub returns : goal.returns
returns c =
    let old = c.args.terms.now in
    let new = c.sum16.new.self in
    let r = c.args.run.now in
    let tree = sum16 (word_in (machine_of old r) c.args.a) (word_in (machine_of old r) c.args.b) in
    let same = ap₂ sum16 (word_tree_here old r c.args.a c.word.result c.word.ensures) (word_tree_here old r c.args.b c.word-2.result c.word-2.ensures) in
    let t = c.in_ok-term.term in
    subst (λ x. GoesOn old new r x 2 0 (λ m. m ≡ with_word (machine_of old r) c.args.slot tree) (Some tt)) (sym c.set_word.ensures)
    (gave_word old new r c.args.slot 2 tree t c.requires (gives_of old new 2 tree (Some t) (subst (λ x. Makes old new 2 x (Some t)) same c.in_ok-term.ensures))
    (c.made_terms_have_sorts.ensures.sum16 (word_in (machine_of old r) c.args.a) (word_in (machine_of old r) c.args.b) (word_sorted (machine_of old r) c.args.a c.requires.sorted) (word_sorted (machine_of old r) c.args.b c.requires.sorted)))
