use Rattle.std.proofs.Common.{◌≡◌, subst, sym, lit≤}
use Rattle.sym_micro.specs.Machine.{Machine, given_flag}
use Rattle.sym_micro.specs.Stands.{machine_of, GoesOn}
use Rattle.sym_micro.proofs.Ready.{both_go_on, fails_first}
use Rattle.sym_micro.proofs.performing.give_two_flags.Goals as goal

pub returns : goal.returns
returns c =
    both_go_on c.args.terms.now c.give_flag.new.terms c.give_flag-2.new.terms c.args.run.now c.give_flag.new.run c.give_flag-2.new.run 1 1 0 0
    (λ m. given_flag m c.args.first c.args.value)
    (λ m. given_flag m c.args.second c.args.value)
    c.give_flag-2.result c.in_ok-give_flag.ensures c.give_flag-2.ensures

pub returns-in_err-give_flag : goal.returns-in_err-give_flag
returns-in_err-give_flag c =
    let old = c.args.terms.now in
    let new = c.give_flag.new.terms in
    let r = c.args.run.now in
    let s = c.give_flag.new.run in
    let First : Machine → Type 0 = λ m. m ≡ given_flag (machine_of old r) c.args.first c.args.value in
    let Both : Machine → Type 0 = λ m. m ≡ given_flag (given_flag (machine_of old r) c.args.first c.args.value) c.args.second c.args.value in
    subst (λ x. GoesOn old new r s 2 0 Both x) (sym c.from_residual.ensures) (fails_first old new r s 1 2 0 0 First Both (lit≤ tt) (lit≤ tt) c.in_err-give_flag.ensures)
