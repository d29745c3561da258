use Rattle.cmd_lists.proofs.Gathering.{one_list}
use Rattle.cmd_lists.proofs.saves.SavesListed.lines_are_one.Goals as goal

pub returns : goal.returns
returns c = one_list
