use Rattle.std.proofs.Common.{sym}
use Rattle.asm80_types.specs.Tree.{statement_of}
use Rattle.asm80_first_walk.proofs.Stepping.{skips_through}
use Rattle.asm80_first_walk.proofs.walker.Walker.skip.Goals as goal

pub returns : goal.returns
returns c = λ index.
    let s = statement_of c.args.statement.now in
    skips_through index s c.args.self.now c.nest.new.self c.note.new.self c.rule_of_nesting-rule.result c.args.operation c.requires.operation c.requires.skipped (c.rule_of_nesting-rule.ensures s (sym c.requires.skipped)) c.in_ok-nest.ensures c.note.ensures
