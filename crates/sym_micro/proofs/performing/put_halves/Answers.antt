use Rattle.std.proofs.Common.{◌≡◌, ◌∙◌, ap, subst, sym, lit≤}
use Rattle.sym_terms.specs.Making.{high, low}
use Rattle.sym_micro.specs.Machine.{Machine, with_byte, with_halves, word_in}
use Rattle.sym_micro.specs.Stands.{machine_of, GoesOn}
use Rattle.sym_micro.proofs.Ready.{then_goes_on, fails_first, word_kept}
use Rattle.sym_micro.proofs.performing.put_halves.Goals as goal

pub returns : goal.returns
returns c =
    let old = c.args.terms.now in
    let mid = c.give_byte.new.terms in
    let new = c.give_byte-2.new.terms in
    let r = c.args.run.now in
    let s = c.give_byte.new.run in
    let t = c.give_byte-2.new.run in
    let m = machine_of old r in
    let w = word_in m c.args.from in
    let first : machine_of mid s ≡ with_byte m c.args.high (high w) = c.in_ok-give_byte.ensures.gives in
    then_goes_on old mid new r s t 1 1 0 0
    (λ k. k ≡ with_byte m c.args.high (high w))
    (λ k. k ≡ with_byte (machine_of mid s) c.args.low (low (word_in (machine_of mid s) c.args.from)))
    (λ k. k ≡ with_halves m c.args.high c.args.low w)
    c.give_byte-2.result c.in_ok-give_byte.ensures c.give_byte-2.ensures
    (λ k e.
    e
    ∙ ap (λ (x : Machine). with_byte x c.args.low (low (word_in x c.args.from))) first
    ∙ ap (λ x. with_byte (with_byte m c.args.high (high w)) c.args.low (low x)) (word_kept m c.args.high (high w) c.args.from))

pub returns-in_err-give_byte : goal.returns-in_err-give_byte
returns-in_err-give_byte c =
    let old = c.args.terms.now in
    let new = c.give_byte.new.terms in
    let r = c.args.run.now in
    let s = c.give_byte.new.run in
    let First : Machine → Type 0 = λ m. m ≡ with_byte (machine_of old r) c.args.high (high (word_in (machine_of old r) c.args.from)) in
    let Both : Machine → Type 0 = λ m. m ≡ with_halves (machine_of old r) c.args.high c.args.low (word_in (machine_of old r) c.args.from) in
    subst (λ x. GoesOn old new r s 2 0 Both x) (sym c.from_residual.ensures) (fails_first old new r s 1 2 0 0 First Both (lit≤ tt) (lit≤ tt) c.in_err-give_byte.ensures)
