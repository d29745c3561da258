use Rattle.bdos_small.proofs.Whole.{told_by_file, never_bad}
use Rattle.bdos_small.proofs.kept.disks_read_back.Goals as goal

pub returns-clause-told : goal.returns-clause-told
returns-clause-told c = told_by_file

pub returns-clause-taken : goal.returns-clause-taken
returns-clause-taken c = never_bad
