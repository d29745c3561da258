use Rattle.templates_law.proofs.Text.Plain.{plain_is, plain_reaches}
use Rattle.templates_law.proofs.text_laws.plain_is_a_style.Goals as goal

pub returns : goal.returns
returns c = record { is = plain_is; reaches = plain_reaches }
