-- What an expression sees, of an address and names.
use Rattle.asm80_source_def.specs.Values.{Scope as Seen}
use Rattle.asm80_source_def.specs.Walk.{meaning_in}
use Rattle.asm80_first_walk.specs.declared.scope.Scope.{Scope}

-- the address of the statement's first byte, and the meanings of the names
abbrev pub scope_of : Scope → Seen
scope_of s = record { here = s.here; find = meaning_in s.names.now }
