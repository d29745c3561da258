use Rattle.std.proofs.Common.{◌≡◌, subst, sym, lit≤}
use Rattle.sym_micro.specs.declared.micro.FlagSlot.TheVariants.{S, Z, Ac, P}
use Rattle.sym_micro.specs.Machine.{Machine, given_flag, given_four}
use Rattle.sym_micro.specs.Stands.{machine_of, GoesOn}
use Rattle.sym_micro.proofs.Ready.{both_go_on, fails_first}
use Rattle.sym_micro.proofs.performing.give_four_flags.Goals as goal

pub returns : goal.returns
returns c =
    both_go_on c.args.terms.now c.give_two_flags.new.terms c.give_two_flags-2.new.terms c.args.run.now c.give_two_flags.new.run c.give_two_flags-2.new.run 2 2 0 0
    (λ m. given_flag (given_flag m S c.args.value) Z c.args.value)
    (λ m. given_flag (given_flag m Ac c.args.value) P c.args.value)
    c.give_two_flags-2.result c.in_ok-give_two_flags.ensures c.give_two_flags-2.ensures

pub returns-in_err-give_two_flags : goal.returns-in_err-give_two_flags
returns-in_err-give_two_flags c =
    let old = c.args.terms.now in
    let new = c.give_two_flags.new.terms in
    let r = c.args.run.now in
    let s = c.give_two_flags.new.run in
    let First : Machine → Type 0 = λ m. m ≡ given_flag (given_flag (machine_of old r) S c.args.value) Z c.args.value in
    let Both : Machine → Type 0 = λ m. m ≡ given_four (machine_of old r) c.args.value in
    subst (λ x. GoesOn old new r s 4 0 Both x) (sym c.from_residual.ensures) (fails_first old new r s 2 4 0 0 First Both (lit≤ tt) (lit≤ tt) c.in_err-give_two_flags.ensures)
