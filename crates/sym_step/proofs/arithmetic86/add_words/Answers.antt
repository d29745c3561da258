use Rattle.std.proofs.Common.{◌≡◌, refl, sym, subst, lit≤}
use Rattle.i86.specs.declared.Instr86.TheVariants.{Add16}
use Rattle.sym_block_def.specs.Symbolic86.{effect86}
use Rattle.sym_micro.specs.Machine.{as86}
use Rattle.sym_micro.specs.Stands.{machine_of, GoesOn}
use Rattle.sym_micro.proofs.Alike.{all_on_86}
use Rattle.sym_step.proofs.Seen86.{then_lost, never_lost}
use Rattle.sym_step.proofs.arithmetic86.add_words.Goals as goal

pub returns : goal.returns
returns c = then_lost c.in_ok-add_word.ensures.on_86 (all_on_86 4 4 0 0 (lit≤ tt) (lit≤ tt) refl c.perform_each.ensures)

pub returns-in_err-add_word : goal.returns-in_err-add_word
returns-in_err-add_word c =
    let old = c.args.terms.now in
    let new = c.add_word.new.terms in
    let r = c.args.run.now in
    let s = c.add_word.new.run in
    subst (λ x. GoesOn old new r s 24 2 (λ m. as86 m ≡ effect86 (as86 (machine_of old r)) (Add16 c.args.to c.args.from)) x) (sym c.from_residual.ensures) (never_lost c.in_err-add_word.ensures.on_86)
