use Rattle.cmd_file.proofs.Loading.{loaded_same}
use Rattle.cmd_file.proofs.laws.loaded_is_same.Goals as goal

pub returns : goal.returns
returns c = loaded_same c.cells_are_sorted.ensures.sorted
