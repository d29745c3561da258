use Rattle.std.proofs.Common.{sym}
use Rattle.asm80_types.specs.Tree.{statement_of}
use Rattle.asm80_first_walk.specs.State.{walk_of}
use Rattle.asm80_first_walk.proofs.Stepping.{above_joined}
use Rattle.asm80_first_walk.proofs.walker.Walker.rule_above.Goals as goal

pub returns : goal.returns
returns c =
    let s = statement_of c.args.statement.now in
    above_joined (walk_of c.args.self.now) s c.args.operation c.rule_of_nesting.result c.rule_of_label.result c.rule_of_operand.result c.or.result c.or-2.result (c.rule_of_nesting.ensures s (sym c.requires.taken)) c.rule_of_label.ensures c.rule_of_operand.ensures c.or.ensures c.or-2.ensures
