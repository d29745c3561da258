use Rattle.std.proofs.Common.{◌≡◌, subst, sym, Some, None, le_refl}
use Rattle.sym_block_def.specs.Block80.{flag_byte}
use Rattle.sym_micro.specs.Machine.{with_byte}
use Rattle.sym_micro.specs.Stands.{trees_of_held, machine_of, GoesOn}
use Rattle.sym_micro.proofs.Sorted.{flag_byte_sorted}
use Rattle.sym_micro.proofs.Ready.{gives_of, failed, gave_byte}
use Rattle.sym_micro.proofs.performing.give_flag_byte.Goals as goal

pub returns-in_err-term : goal.returns-in_err-term
returns-in_err-term c =
    let old = c.args.terms.now in
    let new = c.flag_byte.new.self in
    let r = c.args.run.now in
    let tree = flag_byte (trees_of_held old r.held) in
    subst (λ x. GoesOn old new r r 2 0 (λ m. m ≡ with_byte (machine_of old r) c.args.slot tree) x) (sym c.from_residual.ensures)
    (failed old new r 2 2 0 tree (λ m. m ≡ with_byte (machine_of old r) c.args.slot tree) (le_refl 2) c.requires (gives_of old new 2 tree None c.in_err-term.ensures))

pub returns : goal.returns
returns c =
    let old = c.args.terms.now in
    let new = c.flag_byte.new.self in
    let r = c.args.run.now in
    let tree = flag_byte (trees_of_held old r.held) in
    let t = c.in_ok-term.term in
    subst (λ x. GoesOn old new r x 2 0 (λ m. m ≡ with_byte (machine_of old r) c.args.slot tree) (Some tt)) (sym c.set_byte.ensures)
    (gave_byte old new r c.args.slot 2 tree t c.requires (gives_of old new 2 tree (Some t) c.in_ok-term.ensures)
    (flag_byte_sorted c.made_terms_have_sorts.ensures (trees_of_held old r.held) c.requires.sorted.held))
