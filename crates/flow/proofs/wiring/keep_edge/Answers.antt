use Rattle.std.proofs.Common.{◌∷◌, [], ◌++◌, List, append-nil, length, sym, subst, ◌∙◌, ap, length-set}
use Rattle.std.proofs.Math.ListN.{set}
use Rattle.std.proofs.lemmas.Result.{on_ok_weaker}
use Rattle.flow.specs.declared.node.Node.{Node}
use Rattle.flow.specs.Search.{row}
use Rattle.flow.specs.Wiring.{IsWiredTo, edge_if_node}
use Rattle.flow.proofs.Wires.{wire_more, edge_if_number, edge_if_none}
use Rattle.flow.proofs.wiring.keep_edge.Goals as goal

pub returns-in-Some-clause-sized : goal.returns-in-Some-clause-sized
returns-in-Some-clause-sized c = on_ok_weaker c.add.result (λ added. ap length added ∙ length-set c.args.sources.now c.in-Some.number (row c.args.sources.now c.in-Some.number ++ c.args.from ∷ [])) c.add.ensures

pub returns-in-Some-clause-kept : goal.returns-in-Some-clause-kept
returns-in-Some-clause-kept c = λ some w. on_ok_weaker c.add.result
    (λ added. subst (λ ss. IsWiredTo c.args.program.now ss c.args.from (some ++ edge_if_node c.args.program.now c.args.to)) (sym added)
    (subst (λ (qs : List Node). IsWiredTo c.args.program.now (set c.args.sources.now c.in-Some.number (row c.args.sources.now c.in-Some.number ++ c.args.from ∷ [])) c.args.from (some ++ qs)) (sym (edge_if_number c.args.program.now c.in-Some.number c.args.to c.in-Some.ensures))
    (wire_more c.args.program.now c.args.sources.now c.args.from c.in-Some.number c.args.to some w c.in-Some.ensures)))
    c.add.ensures

pub returns-in-None-clause-kept : goal.returns-in-None-clause-kept
returns-in-None-clause-kept c = λ some w. rw (edge_if_none c.args.program.now c.args.to c.in-None.ensures, append-nil) w
