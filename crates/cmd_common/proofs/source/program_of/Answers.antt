use Rattle.std.proofs.Common.{ap, Err}
use Rattle.cmd_common.specs.Sources.{breaks}
use Rattle.cmd_common.proofs.source.program_of.Goals as goal

pub returns-in-Refused : goal.returns-in-Refused
returns-in-Refused c = breaks (c.in-Err.ensures.refused c.in-Refused.line c.in-Refused.rule (ap Err c.in-Refused.is))
