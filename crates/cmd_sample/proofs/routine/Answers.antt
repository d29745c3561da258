-- The text is that of its two parts.
use Rattle.std.proofs.Common.{◌∙◌}
use Rattle.cmd_sample.proofs.Texts.{joined, routine_text}
use Rattle.cmd_sample.proofs.routine.Goals as goal

pub returns : goal.returns
returns c = joined _ _ _ _ _ c.in_ok-push_str.ensures.bytes c.in_ok-text.ensures (c.as_str.ensures.value ∙ c.in_ok-writing.ensures) (routine_text c.args.number)
