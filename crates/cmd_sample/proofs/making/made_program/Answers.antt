use Rattle.std.proofs.Common.{subst}
use Rattle.std.specs.Prelude.{Err}
use Rattle.asm80_text.specs.Intel.{intel_reading}
use Rattle.cmd_common.specs.Sources.{SourceGives}
use Rattle.cmd_sample.specs.SampleReport.{sample_top}
use Rattle.cmd_sample.proofs.SampleMaking.{never_refused}
use Rattle.cmd_sample.proofs.making.made_program.Goals as goal

pub unreachable-requires : goal.unreachable-requires
unreachable-requires c =
    let count = c.requires.count in
    let gives = subst (SourceGives intel_reading c.args.source.now sample_top) c.in-Err.is c.in_ok-program.ensures in
    never_refused c.stream_has_one_outcome.ensures c.sample_is_read.ensures c.args.routines count
    (c.sample_is_accepted.ensures c.args.routines count.some count.most)
    c.in-Err.field-0 (subst (λ text. SourceGives intel_reading text sample_top (Err c.in-Err.field-0)) c.requires.source gives)
