-- The text is that of its parts.
use Rattle.std.proofs.Common.{ℕ, ap, ◌∙◌}
use Rattle.std.specs.Global.{Vec}
use Rattle.cmd_sample.proofs.Texts.{parts_are}
use Rattle.cmd_sample.proofs.sample_text.Goals as goal

pub returns : goal.returns
returns c = ap (λ (v : Vec ℕ). v.items) c.into_bytes.ensures.value ∙ c.in_ok-text.ensures.ok ∙ parts_are c.args.routines _ _ c.in_ok-calls.ensures c.in_ok-bodies.ensures
