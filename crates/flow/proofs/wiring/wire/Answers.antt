use Rattle.std.proofs.Common.{[], ◌+◌, ◌++◌, List, Option, ap, subst, ◌∙◌}
use Rattle.std.specs.Bool.{then_some}
use Rattle.std.proofs.lemmas.Result.{on_ok_weaker}
use Rattle.flow.specs.declared.node.Node.{Node}
use Rattle.flow.specs.declared.node.Node.TheVariants.{Start}
use Rattle.flow.specs.Wiring.{IsWiredTo, edges_if}
use Rattle.flow.proofs.Wires.{edges_wired}
use Rattle.flow.proofs.wiring.wire.Goals as goal

pub returns : goal.returns
returns c =
    let p = c.args.program.now in
    let node = c.ways_from-ways.result.node in
    let first = c.in_ok-keep_if.ensures.kept [] c.requires.wired in
    let second = c.keep_if-2.ensures.kept ([] ++ edges_if p node) first in
    let next = ap (λ (o : Option Node). ([] ++ edges_if p node) ++ edges_if p o) (c.then_some.ensures ∙ ap (λ n. then_some c.ways_from-ways.result.next (Start (c.args.placed.now.at + n))) c.length.ensures) in
    let all = edges_wired p c.args.placed.now.at c.args.placed.now.instr node c.ways_from-ways.result.next c.requires.program c.requires.found c.ways_from-ways.ensures.named c.ways_from-ways.ensures.edges in
    on_ok_weaker c.keep_if-2.result (λ w. subst (λ (qs : List Node). IsWiredTo p c.keep_if-2.new.sources c.args.from qs) (next ∙ all) w) second
