use Rattle.cmd_common.specs.Sources.{SourceLaw}
use Rattle.cmd_common.proofs.SourceLaw.{either_reading}
use Rattle.cmd_common.proofs.source.sources_have_one_outcome.Goals as goal

pub returns : goal.returns
returns c = either_reading SourceLaw
    (record { program = c.source_has_one_outcome.ensures.program; refusal = c.source_has_one_outcome.ensures.refusal; apart = c.source_has_one_outcome.ensures.apart })
    (record { program = c.source_has_one_outcome-2.ensures.program; refusal = c.source_has_one_outcome-2.ensures.refusal; apart = c.source_has_one_outcome-2.ensures.apart })
