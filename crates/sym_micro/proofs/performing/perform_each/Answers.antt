use Rattle.std.proofs.Common.{◌≡◌, subst, sym}
use Rattle.sym_micro.specs.declared.micro.Micro.{Micro}
use Rattle.sym_micro.specs.declared.micro.Micro.TheVariants.{Byte}
use Rattle.i80.specs.declared.Reg.TheVariants.{A}
use Rattle.sym_micro.specs.declared.micro.ByteSlot.TheVariants.{Of80}
use Rattle.sym_micro.specs.declared.micro.ByteValue.TheVariants.{Of}
use Rattle.sym_micro.specs.Machine.{micros, weights, all_moves}
use Rattle.sym_micro.specs.Stands.{machine_of, GoesOn}
use Rattle.sym_micro.proofs.OneByOne.{room_at, goes_on_at, fails_at, ends_at}
use Rattle.sym_micro.proofs.performing.perform_each.Goals as goal

-- what stands after the last one
other : Micro
other = Byte (Of80 A) (Of (Of80 A))

pub loop-step-init : goal.loop-step-init
loop-step-init c = record { ready = c.requires.ready; room = c.requires.room; rest = λ new s made performed. performed }

pub perform_one-requires : goal.perform_one-requires
unfolding other
perform_one-requires c =
    let now = c.loop-step.terms in
    let s = c.loop-step.run in
    record { ready = c.loop-step.invariant.ready; room = room_at c.args.terms.now now now c.args.run.now s s c.args.steps.now c.loop-step.step-index other c.loop-step-test.true c.loop-step.invariant }

pub returns-in_err-perform_one : goal.returns-in_err-perform_one
unfolding other
returns-in_err-perform_one c =
    let old = c.args.terms.now in
    let new = c.perform_one.new.terms in
    let r = c.args.run.now in
    let s = c.perform_one.new.run in
    let steps = c.args.steps.now in
    subst (λ x. GoesOn old new r s (weights steps) (all_moves steps) (λ m. m ≡ micros (machine_of old r) steps) x) (sym c.from_residual.ensures)
    (fails_at old c.loop-step.terms new r c.loop-step.run s steps c.loop-step.step-index other c.loop-step-test.true c.loop-step.invariant c.in_err-perform_one.ensures)

pub loop-step-preserved : goal.loop-step-preserved
unfolding other
loop-step-preserved c =
    goes_on_at c.args.terms.now c.loop-step.terms c.perform_one.new.terms c.args.run.now c.loop-step.run c.perform_one.new.run c.args.steps.now c.loop-step.step-index other c.loop-step-test.true c.loop-step.invariant c.in_ok-perform_one.ensures

pub returns : goal.returns
returns c = ends_at c.args.terms.now c.loop-step.terms c.args.run.now c.loop-step.run c.args.steps.now c.loop-step.step-index c.loop-step-test.false c.loop-step.invariant
