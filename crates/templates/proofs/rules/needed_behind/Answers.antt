use Rattle.std.proofs.Common.{◌≡◌, false, sym, ◌∙◌}
use Rattle.flow.specs.declared.node.Node.TheVariants.{Start}
use Rattle.flow.specs.Blocks.{end_of}
use Rattle.asm80_types.specs.Program.{is_start}
use Rattle.flow.proofs.AllNeeds.{none_needed}
use Rattle.flow.proofs.OneNeeds.{needs_once}
use Rattle.templates.proofs.rules.needed_behind.Goals as goal

pub returns-in-Some : goal.returns-in-Some
returns-in-Some c = λ n all.
    let needs = rw c.length.ensures at c.in-Some.ensures.needs in
    needs_once c.args.graph.now.program (Start (end_of c.args.placed.now)) c.in-Some.need (n.at (end_of c.args.placed.now)) needs (all.at (end_of c.args.placed.now))

pub returns-in-None : goal.returns-in-None
returns-in-None c = λ n all.
    let p = c.args.graph.now.program in
    let at = end_of c.args.placed.now in
    let none : false ≡ is_start p at = rw c.length.ensures at c.in-None.ensures.start in
    c.none.ensures ∙ needs_once p (Start at) _ (n.at at) (none_needed p at (c.needs_are_closed.ensures p) (sym none)) (all.at at)
