use Rattle.flow.proofs.graph.copy_of.Goals as goal

pub new-requires : goal.new-requires
new-requires c = rw (c.in_ok-instrs.ensures.items, c.in_ok-cells.ensures.items, c.instrs.ensures.value, c.cells.ensures.value, c.top.ensures.value) c.top.ensures.program
