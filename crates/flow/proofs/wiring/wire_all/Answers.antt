use Rattle.std.proofs.Common.{◌≡◌, [], length, ap, subst, arith}
use Rattle.i80.specs.declared.Instr80.TheVariants.{Nop}
use Rattle.asm80_types.specs.declared.program.Placed.{Placed}
use Rattle.asm80_types.specs.Program.{starts}
use Rattle.asm80_types.proofs.Lookup.{length-starts}
use Rattle.flow.specs.Wiring.{IsWiredTo}
use Rattle.flow.proofs.Numbers.{length-nodes}
use Rattle.flow.proofs.Wires.{placed_at, start_at, wire_next}
use Rattle.flow.proofs.wiring.wire_all.Goals as goal

abbrev none : Placed
none = record { at = 0; line = 0; instr = Nop }

pub wire-requires-clause-found : goal.wire-requires-clause-found
wire-requires-clause-found c =
    rw c.instrs-placed-items.ensures.value (placed_at c.args.program.now c.loop-from.from none c.requires.program (rw c.instrs-placed-items.ensures.value at c.loop-from-test.true))

pub loop-from-preserved : goal.loop-from-preserved
loop-from-preserved c =
    let p = c.args.program.now in
    let lt = rw c.instrs-placed-items.ensures.value at c.loop-from-test.true in
    wire_next p c.wire.new.sources c.loop-from.from _ (omega (arith, lt, length-nodes p, length-starts p.instrs)) (start_at p c.loop-from.from none lt) (rw c.instrs-placed-items.ensures.value at c.in_ok-wire.ensures)

pub wire_return-requires-clause-wired : goal.wire_return-requires-clause-wired
wire_return-requires-clause-wired c =
    let p = c.args.program.now in
    let instrs = c.instrs-placed-items.ensures.value in
    let all : c.loop-from.from ≡ length (starts p) = omega (arith, c.loop-from.auto.from-end, c.loop-from-test.false, ap length instrs, length-starts p.instrs) in
    subst (λ n. IsWiredTo p c.loop-from.sources n []) all c.loop-from.invariant
