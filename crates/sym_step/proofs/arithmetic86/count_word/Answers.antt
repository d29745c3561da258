use Rattle.std.proofs.Common.{◌≡◌, ◌∙◌, refl, sym, ap, subst, lit≤}
use Rattle.sym_terms.specs.Term.{Num}
use Rattle.sym_terms.specs.Making.{sum16}
use Rattle.sym_block_def.specs.Symbolic86.{losing_flags, with_reg16, reg16_term, count16, count_step}
use Rattle.sym_micro.specs.Machine.{as86}
use Rattle.sym_micro.specs.Stands.{machine_of, GoesOn}
use Rattle.sym_micro.proofs.Alike.{all_on_86}
use Rattle.sym_step.proofs.Seen86.{then_lost, never_lost, of_state}
use Rattle.sym_step.proofs.arithmetic86.count_word.Goals as goal
use Rattle.sym_step.proofs.arithmetic86.count_word.Goals.{in-Inc, in-Dec}

pub returns : goal.returns
returns c =
    let s = as86 (machine_of c.args.terms.now c.args.run.now) in
    let step : c.match-by.n ≡ count_step c.args.by = elim c.match-by.branch [
      | in-Inc w ↦ w.n-is ∙ ap count_step (sym w.in-Inc.is)
      | in-Dec w ↦ w.n-is ∙ ap count_step (sym w.in-Dec.is)
    ] in
    of_state (ap (λ n. losing_flags (with_reg16 s c.args.on (sum16 (reg16_term s c.args.on) (Num n)))) step)
    (then_lost c.in_ok-add_number.ensures.on_86 (all_on_86 4 4 0 0 (lit≤ tt) (lit≤ tt) refl c.perform_each.ensures))

pub returns-in_err-add_number : goal.returns-in_err-add_number
returns-in_err-add_number c =
    let old = c.args.terms.now in
    let new = c.add_number.new.terms in
    let r = c.args.run.now in
    let s = c.add_number.new.run in
    subst (λ x. GoesOn old new r s 24 2 (λ m. as86 m ≡ count16 (as86 (machine_of old r)) c.args.by c.args.on) x) (sym c.from_residual.ensures) (never_lost c.in_err-add_number.ensures.on_86)
