use Rattle.xlt_core.proofs.Shown.{shown_same}
use Rattle.xlt_core.proofs.validation.shown_is_same.Goals as goal

pub returns : goal.returns
returns c = shown_same c.matching_blocks_are_same.ensures
