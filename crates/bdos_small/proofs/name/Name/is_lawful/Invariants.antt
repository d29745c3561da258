use Rattle.std.proofs.Common.{◌≡◌, drop}
use Rattle.std.specs.List.{list_all}
use Rattle.bdos_small.specs.Names.{is_name_byte}
use Rattle.bdos_small.proofs.name.Name.is_lawful.Given as goal

abbrev pub invariant-loop-byte : goal.invariant-loop-byte
invariant-loop-byte l = list_all is_name_byte (drop l.byte-index l.self) ≡ list_all is_name_byte l.self
