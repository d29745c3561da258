use Rattle.templates.proofs.OneText.{lean_is_one}
use Rattle.templates.proofs.laws.lean_texts_are_one.Goals as goal

pub returns : goal.returns
returns c = lean_is_one
