-- Why bytes are not read as a command file.
use Rattle.std.specs.Prelude.{ℕ, List}
use Rattle.base.specs.Prefixes.{CannotGoOn}
use Rattle.cmd_file.specs.declared.fault.CmdFault.{CmdFault}
use Rattle.cmd_file.specs.declared.fault.CmdFault.TheVariants.{Bad, Memory}
use Rattle.cmd_file.specs.CommandFile.{IsCommandFileBytes}

abbrev pub IsCmdFaultOf : List ℕ → CmdFault → Type 0
IsCmdFaultOf bytes (Bad k) = CannotGoOn IsCommandFileBytes bytes k
IsCmdFaultOf bytes Memory = Unit {0}
