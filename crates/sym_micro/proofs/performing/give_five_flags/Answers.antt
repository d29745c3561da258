use Rattle.std.proofs.Common.{◌≡◌, subst, sym, lit≤}
use Rattle.sym_micro.specs.declared.micro.FlagSlot.TheVariants.{Cy}
use Rattle.sym_micro.specs.Machine.{Machine, given_flag, given_four}
use Rattle.sym_micro.specs.Stands.{machine_of, GoesOn}
use Rattle.sym_micro.proofs.Ready.{both_go_on, fails_first}
use Rattle.sym_micro.proofs.performing.give_five_flags.Goals as goal

pub returns : goal.returns
returns c =
    both_go_on c.args.terms.now c.give_four_flags.new.terms c.give_flag.new.terms c.args.run.now c.give_four_flags.new.run c.give_flag.new.run 4 1 0 0
    (λ m. given_four m c.args.value)
    (λ m. given_flag m Cy c.args.value)
    c.give_flag.result c.in_ok-give_four_flags.ensures c.give_flag.ensures

pub returns-in_err-give_four_flags : goal.returns-in_err-give_four_flags
returns-in_err-give_four_flags c =
    let old = c.args.terms.now in
    let new = c.give_four_flags.new.terms in
    let r = c.args.run.now in
    let s = c.give_four_flags.new.run in
    let First : Machine → Type 0 = λ m. m ≡ given_four (machine_of old r) c.args.value in
    let Both : Machine → Type 0 = λ m. m ≡ given_flag (given_four (machine_of old r) c.args.value) Cy c.args.value in
    subst (λ x. GoesOn old new r s 5 0 Both x) (sym c.from_residual.ensures) (fails_first old new r s 4 5 0 0 First Both (lit≤ tt) (lit≤ tt) c.in_err-give_four_flags.ensures)
