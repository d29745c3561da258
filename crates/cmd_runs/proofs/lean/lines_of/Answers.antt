use Rattle.std.proofs.Common.{subst}
use Rattle.templates.specs.declared.translation.Mode.TheVariants.{Lean}
use Rattle.templates.specs.Translation.{HasNoText}
use Rattle.cmd_runs.specs.BothLoads.{is_large, no_room}
use Rattle.cmd_runs.proofs.lean.lines_of.Goals as goal

pub returns-in-Err-CodeTooLarge-clause-stopped : goal.returns-in-Err-CodeTooLarge-clause-stopped
returns-in-Err-CodeTooLarge-clause-stopped c = is_large (subst (HasNoText Lean c.args.program.now) c.in-Err-CodeTooLarge.field-0-is c.in-Err-CodeTooLarge.ensures.none)

pub returns-in-Err-Memory-clause-stopped : goal.returns-in-Err-Memory-clause-stopped
returns-in-Err-Memory-clause-stopped c = no_room
