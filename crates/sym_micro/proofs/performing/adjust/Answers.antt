use Rattle.std.proofs.Common.{◌≡◌, subst, sym, Some, None, le_refl}
use Rattle.sym_terms.specs.Making.{adjust}
use Rattle.sym_terms.specs.Trees.{tree_in}
use Rattle.sym_micro.specs.Stands.{machine_of, GoesOn}
use Rattle.sym_micro.proofs.Sorted.{adjusted_sorted}
use Rattle.sym_micro.proofs.Ready.{gives_of, failed, gave_result}
use Rattle.sym_micro.proofs.performing.adjust.Goals as goal

pub returns-in_err-term : goal.returns-in_err-term
returns-in_err-term c =
    let old = c.args.terms.now in
    let new = c.adjust.new.self in
    let r = c.args.run.now in
    let tree = adjust (tree_in old r.held.a) (tree_in old r.held.ac) (tree_in old r.held.cy) in
    subst (λ x. GoesOn old new r r 1 0 (λ m. m ≡ record (machine_of old r) { result = tree }) x) (sym c.from_residual.ensures)
    (failed old new r 1 1 0 tree (λ m. m ≡ record (machine_of old r) { result = tree }) (le_refl 1) c.requires (gives_of old new 1 tree None c.in_err-term.ensures))

pub returns : goal.returns
returns c =
    let old = c.args.terms.now in
    let new = c.adjust.new.self in
    let r = c.args.run.now in
    let tree = adjust (tree_in old r.held.a) (tree_in old r.held.ac) (tree_in old r.held.cy) in
    let t = c.in_ok-term.term in
    gave_result old new r 1 tree t c.requires (gives_of old new 1 tree (Some t) c.in_ok-term.ensures)
    (adjusted_sorted c.made_terms_have_sorts.ensures (tree_in old r.held.a) (tree_in old r.held.ac) (tree_in old r.held.cy) c.requires.sorted.held.a c.requires.sorted.held.ac c.requires.sorted.held.cy)
