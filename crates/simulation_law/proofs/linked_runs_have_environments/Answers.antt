use Rattle.simulation_law.proofs.Choosing.{has_envs}
use Rattle.simulation_law.proofs.linked_runs_have_environments.Goals as goal

pub returns : goal.returns
returns c = λ p offset cut keeps x y labels l. has_envs p offset labels cut keeps x y l
