use Rattle.std.proofs.Common.{◌≡◌, ◌∙◌, suc, ◌+◌, ◌-◌, None, Some, sym, ap, arith}
use Rattle.flow.proofs.Further.{one_further}
use Rattle.flow.proofs.places.place_after.Goals as goal
use Rattle.flow.proofs.places.place_after.Goals.{in-Some, in_default}

pub loop-passed-preserved : goal.loop-passed-preserved
loop-passed-preserved c =
    let p = c.args.program.now in
    let at = c.loop-passed.at in
    let left = c.args.count - (c.loop-passed._passed + 1) in
    let lt = c.loop-passed-test.true in
    let more : c.args.count - c.loop-passed._passed ≡ suc left = omega (arith, lt) in
    elim c.match-instr_at.branch [
      | in-Some w ↦ one_further p at c.match-instr_at.at left (c.args.count - c.loop-passed._passed) (Some w.in-Some.instr) (sym c.instr_at.ensures.value ∙ w.in-Some.is) (w.at-is ∙ ap (λ n. at + n) w.length-at.ensures) more ∙ c.loop-passed.invariant
      | in_default w ↦ one_further p at c.match-instr_at.at left (c.args.count - c.loop-passed._passed) None (sym c.instr_at.ensures.value ∙ w.in_default.is) w.at-is more ∙ c.loop-passed.invariant
    ]
