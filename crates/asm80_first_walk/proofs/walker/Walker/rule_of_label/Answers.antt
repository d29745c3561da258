use Rattle.std.proofs.Common.{◌∙◌, ap}
use Rattle.asm80_types.specs.Tree.{statement_of}
use Rattle.asm80_source_def.specs.Walk.{kind_of_label}
use Rattle.asm80_first_walk.specs.State.{State, walk_of}
use Rattle.asm80_first_walk.proofs.Stepping.{rule_of_label}
use Rattle.asm80_first_walk.proofs.walker.Walker.rule_of_label.Goals as goal

pub returns : goal.returns
returns c =
    rule_of_label c.self.inside.names (walk_of c.args.self.now) (statement_of c.args.statement.now) c.in_ok-label.label c.kind_of_label.result c.rule_of.result
    (ap (λ (x : State). x.names) c.self.view_is) c.in_ok-label.was (c.kind_of_label.ensures ∙ ap kind_of_label c.requires.operation) c.rule_of.ensures
