-- How the machine stands between its calls.
use Rattle.dialogue.specs.Calls.{Standing}
use Rattle.cpu80.specs.State.{UntaggedState}
use Rattle.cpu80.specs.Standing.{standing, IsMachineOf}
use Rattle.i80_bytes.specs.declared.machine.Byte80.{Byte80}
use Rattle.i80_bytes.specs.Fetch.{fetch_of_bytes}

abbrev pub byte_standing : Byte80 → Standing UntaggedState
byte_standing c = standing c.machine

-- while the machine asks, it goes on where the instruction that the bytes give does
abbrev pub IsByteMachine : Byte80 → Type 0
IsByteMachine c = IsMachineOf fetch_of_bytes c.machine
