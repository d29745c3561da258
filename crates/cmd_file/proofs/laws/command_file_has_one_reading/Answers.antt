use Rattle.base.proofs.Fronts.{member_goes_on, one_place}
use Rattle.cmd_file.proofs.Files.{one_reading}
use Rattle.cmd_file.proofs.laws.command_file_has_one_reading.Goals as goal

pub returns-clause-one_file : goal.returns-clause-one_file
returns-clause-one_file c = one_reading

pub returns-clause-one_fault : goal.returns-clause-one_fault
returns-clause-one_fault c = one_place

pub returns-clause-not_both : goal.returns-clause-not_both
returns-clause-not_both c = λ bytes file k is stops. member_goes_on bytes k (file, is) stops
