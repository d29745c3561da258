use Rattle.std.proofs.Common.{◌≡◌, subst, sym, Some, None, le_refl}
use Rattle.sym_micro.specs.Machine.{with_byte, byte_value}
use Rattle.sym_micro.specs.Stands.{machine_of, GoesOn}
use Rattle.sym_micro.proofs.Sorted.{byte_value_sorted}
use Rattle.sym_micro.proofs.Ready.{gives_of, failed, gave_byte}
use Rattle.sym_micro.proofs.performing.give_byte.Goals as goal

pub returns-in_err-term : goal.returns-in_err-term
returns-in_err-term c =
    let old = c.args.terms.now in
    let new = c.byte_term.new.terms in
    let r = c.args.run.now in
    let tree = byte_value (machine_of old r) c.args.value in
    subst (λ x. GoesOn old new r r 1 0 (λ m. m ≡ with_byte (machine_of old r) c.args.slot tree) x) (sym c.from_residual.ensures)
    (failed old new r 1 1 0 tree (λ m. m ≡ with_byte (machine_of old r) c.args.slot tree) (le_refl 1) c.requires (gives_of old new 1 tree None c.in_err-term.ensures.made))

pub returns : goal.returns
returns c =
    let old = c.args.terms.now in
    let new = c.byte_term.new.terms in
    let r = c.args.run.now in
    let tree = byte_value (machine_of old r) c.args.value in
    subst (λ x. GoesOn old new r x 1 0 (λ m. m ≡ with_byte (machine_of old r) c.args.slot tree) (Some tt)) (sym c.set_byte.ensures)
    (gave_byte old new r c.args.slot 1 tree c.in_ok-term.term c.requires (gives_of old new 1 tree (Some c.in_ok-term.term) c.in_ok-term.ensures.made)
    (byte_value_sorted c.made_terms_have_sorts.ensures (machine_of old r) c.args.value c.in_ok-term.ensures.coded c.requires.sorted))
