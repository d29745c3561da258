use Rattle.std.proofs.Common.{◌≡◌, subst, sym, Some, None, le_refl}
use Rattle.sym_micro.specs.Machine.{with_flag, flag_value}
use Rattle.sym_micro.specs.Stands.{machine_of, GoesOn}
use Rattle.sym_micro.proofs.Sorted.{flag_value_sorted}
use Rattle.sym_micro.proofs.Ready.{gives_of, failed, gave_flag}
use Rattle.sym_micro.proofs.performing.give_flag.Goals as goal

pub returns-in_err-term : goal.returns-in_err-term
returns-in_err-term c =
    let old = c.args.terms.now in
    let new = c.flag_term.new.terms in
    let r = c.args.run.now in
    let tree = flag_value (machine_of old r) c.args.slot c.args.value in
    subst (λ x. GoesOn old new r r 1 0 (λ m. m ≡ with_flag (machine_of old r) c.args.slot tree) x) (sym c.from_residual.ensures)
    (failed old new r 1 1 0 tree (λ m. m ≡ with_flag (machine_of old r) c.args.slot tree) (le_refl 1) c.requires (gives_of old new 1 tree None c.in_err-term.ensures))

pub returns : goal.returns
returns c =
    let old = c.args.terms.now in
    let new = c.flag_term.new.terms in
    let r = c.args.run.now in
    let tree = flag_value (machine_of old r) c.args.slot c.args.value in
    let t = c.in_ok-term.term in
    subst (λ x. GoesOn old new r x 1 0 (λ m. m ≡ with_flag (machine_of old r) c.args.slot tree) (Some tt)) (sym c.set_flag.ensures)
    (gave_flag old new r c.args.slot 1 tree t c.requires (gives_of old new 1 tree (Some t) c.in_ok-term.ensures)
    (flag_value_sorted c.made_terms_have_sorts.ensures (machine_of old r) c.args.slot c.args.value c.requires.sorted))
