use Rattle.hex_file.proofs.OneReading.{one_list, one_fault, not_both}
use Rattle.hex_file.proofs.laws.hex_file_has_one_reading.Goals as goal

pub returns-clause-one_list : goal.returns-clause-one_list
returns-clause-one_list c = one_list

pub returns-clause-one_fault : goal.returns-clause-one_fault
returns-clause-one_fault c = one_fault

pub returns-clause-not_both : goal.returns-clause-not_both
returns-clause-not_both c = not_both
