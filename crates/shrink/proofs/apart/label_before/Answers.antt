use Rattle.std.proofs.Common.{◌-◌, arith}
use Rattle.asm86_line_types.specs.declared.line.Line86.{Line86}
use Rattle.asm86_line_types.specs.declared.line.Stmt86.TheVariants.{Cseg}
use Rattle.shrink.proofs.Alone.{stands_at}
use Rattle.shrink.proofs.apart.label_before.Goals as goal

abbrev cseg : Line86
cseg = record { line = 0; stmt = Cseg }

pub returns-in-Some : goal.returns-in-Some
returns-in-Some c =
    let past = c.loop-at-test.true in
    let within = c.loop-at.invariant in
    let place = c.requires in (
      omega (arith, past, within),
      stands_at c.args.graph.now.program c.args.lines.now (c.loop-at.at - 1) cseg c.in-Some.leader (omega (arith, past, within, place)) c.in-Some.ensures,
    )
