use Rattle.i80_bytes.proofs.Fetched.{is_fetch}
use Rattle.i80_bytes.proofs.fetch.memory_is_fetched.Goals as goal

pub returns : goal.returns
returns c = is_fetch
