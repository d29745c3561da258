use Rattle.std.proofs.Common.{subst}
use Rattle.templates.specs.declared.translation.Mode.TheVariants.{Lean}
use Rattle.templates.specs.Translation.{HasNoText}
use Rattle.cmd_sample.proofs.SampleMaking.{never_large}
use Rattle.cmd_sample.proofs.making.lean_text.Goals as goal

pub unreachable-requires : goal.unreachable-requires
unreachable-requires c =
    let count = c.requires.count in
    never_large c.stream_has_one_outcome.ensures c.sample_is_read.ensures c.args.routines count
    (c.sample_code_fits.ensures c.args.routines count.some count.most)
    c.args.program.now c.in-Err-CodeTooLarge.field-0-0 c.requires.source
    (subst (HasNoText Lean c.args.program.now) c.in-Err-CodeTooLarge.field-0-is (c.in-Err-CodeTooLarge.ensures).none)
