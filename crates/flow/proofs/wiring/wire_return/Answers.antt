use Rattle.std.proofs.Common.{◌<◌, ◌≤◌, [], length, arith, sym, ap, subst, take, List}
use Rattle.std.proofs.lemmas.List.{take_all}
use Rattle.asm80_types.specs.Program.{starts}
use Rattle.asm80_types.specs.Taken.{taken_places}
use Rattle.flow.specs.declared.node.Node.{Node}
use Rattle.flow.specs.declared.node.Node.TheVariants.{Return}
use Rattle.flow.specs.Graph.{nodes}
use Rattle.flow.specs.Wiring.{IsWiredTo}
use Rattle.flow.proofs.Numbers.{start_nodes, length-nodes, node_at-return}
use Rattle.flow.proofs.Wires.{taken_more, wire_next, wired_all}
use Rattle.flow.proofs.wiring.wire_return.Goals as goal

pub loop-at-preserved : goal.loop-at-preserved
loop-at-preserved c =
    let p = c.args.program.now in
    let lt = rw c.taken-at-items.ensures at c.loop-at-test.true in
    let kept = rw (c.starts-number.ensures, c.taken-at-items.ensures) at c.in_ok-keep_edge.ensures.kept in
    subst (λ (qs : List Node). IsWiredTo p c.keep_edge.new.sources (length (starts p)) qs) (taken_more p c.loop-at.at-index lt) (kept (start_nodes (take c.loop-at.at-index (taken_places p))) c.loop-at.invariant)

pub returns : goal.returns
returns c =
    let p = c.args.program.now in
    let past : length (taken_places p) ≤ c.loop-at.at-index = rw c.taken-at-items.ensures at c.loop-at-test.false in
    let all = ap start_nodes (take_all c.loop-at.at-index (taken_places p) past) in
    let w = subst (λ (qs : List Node). IsWiredTo p c.loop-at.sources (length (starts p)) qs) all c.loop-at.invariant in
    let last : length (starts p) < length (nodes p) = omega (arith, length-nodes p) in
    wired_all p c.loop-at.sources (subst (λ n. IsWiredTo p c.loop-at.sources n []) (sym (length-nodes p)) (wire_next p c.loop-at.sources (length (starts p)) Return last (node_at-return p) w))
