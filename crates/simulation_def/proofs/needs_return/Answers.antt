use Rattle.simulation_def.proofs.Cutting.{returns as needs_kept}
use Rattle.simulation_def.proofs.needs_return.Goals as goal

pub returns : goal.returns
returns c = λ p n are. needs_kept p n (c.needs_are_closed.ensures p) are
