use Rattle.std.proofs.Common.{◌≡◌, ◌/◌, ◌%◌, ◌∷◌, length, take}
use Rattle.std.specs.Map.{values_of}
use Rattle.hex_file.specs.Written.{first_address}
use Rattle.hex_file.proofs.writing.bytes_of.Given as goal

abbrev pub invariant-loop-byte : goal.invariant-loop-byte
invariant-loop-byte l = l.bytes.items ≡ length l.run ∷ (first_address l.run / 256 ∷ (first_address l.run % 256 ∷ (0 ∷ values_of (take l.byte-index l.run))))
