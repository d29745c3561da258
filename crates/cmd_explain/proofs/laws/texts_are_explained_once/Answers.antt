use Rattle.cmd_explain.proofs.Once.{text_once}
use Rattle.cmd_explain.proofs.laws.texts_are_explained_once.Goals as goal

pub returns : goal.returns
returns c = text_once
