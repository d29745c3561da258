use Rattle.std.proofs.Common.{◌≡◌, Ok, sym, ap, subst, arith}
use Rattle.std.proofs.lemmas.Result.{IfOk-from_err}
use Rattle.host.proofs.HostLemmas.{OnlySays-refl, OnlySays-trans, SameFaults-refl, SameFaults-trans}
use Rattle.emulator_loop.specs.declared.running.RunEnd.TheVariants.{StepLimit}
use Rattle.emulator_loop.specs.Talk.{SaysRun, IsCutOff}
use Rattle.emulator_loop.specs.Turns.{no_past}
use Rattle.emulator_loop.specs.Advance.{Advance, Rest, IsTurnDone}
use Rattle.emulator_loop.proofs.Said.{on_fault}
use Rattle.emulator_loop.proofs.Ends.{advance_none, advance_then, says_limit, says_end, cut_off}
use Rattle.emulator_loop.proofs.running.converse.Goals as goal

-- before the first turn
pub loop-count-init : goal.loop-count-init
loop-count-init g c =
    let host = g.H.Host.state c.args.host.now in
    record {
      runs = c.requires;
      advance = advance_none c.args.prefix.now (g.E.Emulator.course c.args.machine.now) c.args.devices.now host;
      only = OnlySays-refl host;
      counted = SameFaults-refl host;
    }

-- one more turn
pub loop-count-preserved : goal.loop-count-preserved
loop-count-preserved g c =
    let j = c.loop-count.count in
    let first = g.E.Emulator.course c.args.machine.now in
    let before = g.E.Emulator.course c.loop-count.machine in
    let after = g.E.Emulator.course c.turn.new.machine in
    let old = g.H.Host.state c.args.host.now in
    let mid = g.H.Host.state c.loop-count.host in
    let new = g.H.Host.state c.turn.new.host in
    let done : Advance c.args.prefix.now 1 before after c.loop-count.devices c.turn.new.devices mid new = subst (IsTurnDone c.args.prefix.now before after c.loop-count.devices c.turn.new.devices mid new) c.in_default.is c.in_ok-end.ensures.done in
    record {
      runs = c.in_ok-end.ensures.ready (ap Ok c.in_default.is);
      advance = advance_then c.args.prefix.now j first before after c.args.devices.now c.loop-count.devices c.turn.new.devices old mid new c.loop-count.invariant.advance done;
      only = OnlySays-trans c.loop-count.invariant.only c.turn.ensures.only;
      counted = SameFaults-trans c.loop-count.invariant.counted c.in_ok-end.ensures.counted;
    }

-- the last turn
pub returns-in-Some : goal.returns-in-Some
returns-in-Some g c =
    let j = c.loop-count.count in
    let end = c.in-Some.end in
    let first = g.E.Emulator.course c.args.machine.now in
    let before = g.E.Emulator.course c.loop-count.machine in
    let after = g.E.Emulator.course c.turn.new.machine in
    let old = g.H.Host.state c.args.host.now in
    let mid = g.H.Host.state c.loop-count.host in
    let new = g.H.Host.state c.turn.new.host in
    let supply = c.args.devices.now in
    let left = c.loop-count.devices in
    let done : Rest c.args.prefix.now end before left c.turn.new.devices mid new = subst (IsTurnDone c.args.prefix.now before after left c.turn.new.devices mid new) c.in-Some.is c.in_ok-end.ensures.done in
    record {
      run =
          subst (λ n. SaysRun (first no_past) supply c.args.limit c.args.prefix.now (record { end = end; steps = n }) c.turn.new.devices old new) (sym c.steps_by-steps.ensures.steps)
          (says_end c.args.prefix.now first before (g.met.E.Emulator.single c.args.machine.now) supply left old mid new j c.loop-count.invariant.advance end c.args.limit (g.met.E.Emulator.begins c.loop-count.machine) (omega arith) c.turn.new.devices done);
      cut = tt;
      only = OnlySays-trans c.loop-count.invariant.only c.turn.ensures.only;
      within = omega arith;
      counted = SameFaults-trans c.loop-count.invariant.counted c.in_ok-end.ensures.counted;
    }

-- no turn is left
pub returns : goal.returns
returns g c =
    let first = g.E.Emulator.course c.args.machine.now in
    let before = g.E.Emulator.course c.loop-count.machine in
    let old = g.H.Host.state c.args.host.now in
    let mid = g.H.Host.state c.loop-count.host in
    let all : c.loop-count.count ≡ c.args.limit = omega arith in
    record {
      run = subst (λ n. SaysRun (first no_past) c.args.devices.now n c.args.prefix.now (record { end = StepLimit; steps = n }) c.loop-count.devices old mid) all (says_limit c.args.prefix.now first before (g.met.E.Emulator.single c.args.machine.now) c.args.devices.now c.loop-count.devices old mid mid c.loop-count.count c.loop-count.invariant.advance (g.met.E.Emulator.begins c.loop-count.machine));
      cut = tt;
      only = c.loop-count.invariant.only;
      within = omega arith;
      counted = c.loop-count.invariant.counted;
    }

-- a fault
pub returns-in_err-end : goal.returns-in_err-end
returns-in_err-end g c =
    let first = g.E.Emulator.course c.args.machine.now in
    let before = g.E.Emulator.course c.loop-count.machine in
    let old = g.H.Host.state c.args.host.now in
    let mid = g.H.Host.state c.loop-count.host in
    let new = g.H.Host.state c.turn.new.host in
    let e = c.in_err-end in
    let known = c.loop-count.invariant in
    let r = c.from_residual in
    record {
      run = IfOk-from_err r.result _ r.ensures.0;
      cut =
          on_fault r.result (λ h. h ≡ e.field-0.0) (IsCutOff (first no_past) c.args.devices.now c.args.limit c.args.prefix.now old new) r.ensures.1
          (λ h is. subst (IsCutOff (first no_past) c.args.devices.now c.args.limit c.args.prefix.now old new) (sym is)
          (cut_off c.args.prefix.now first before (g.met.E.Emulator.single c.args.machine.now) c.args.devices.now c.loop-count.devices old mid new c.loop-count.count known.advance c.args.limit (omega arith) known.counted e.field-0.0 e.ensures.cut));
      only = OnlySays-trans known.only c.turn.ensures.only;
      within = IfOk-from_err r.result _ r.ensures.0;
      counted = IfOk-from_err r.result _ r.ensures.0;
    }
