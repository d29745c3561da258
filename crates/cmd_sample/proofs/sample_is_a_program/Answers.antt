use Rattle.std.proofs.Common.{refl}
use Rattle.cmd_sample.specs.Sample.{sample_statements}
use Rattle.cmd_sample.proofs.InRange.{sample_range}
use Rattle.cmd_sample.proofs.sample_is_a_program.Goals as goal

pub returns : goal.returns
returns c K some le =
    c.statements_without_a_refusal_are_a_program.ensures.program (sample_statements K) 0xF000 (sample_range K) refl (c.sample_is_accepted.ensures K some le)
