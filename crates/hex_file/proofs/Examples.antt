-- Lines of HEX files, and a file.
use Rattle.std.proofs.Common.{◌≡◌, ◌∷◌, [], ◌++◌, codes, refl, arith}
use Rattle.hex.proofs.OnLiterals.{hex_on_literals}
use Rattle.hex_file.specs.Records.{Record, IsDataLine, IsEndLine}
use Rattle.hex_file.specs.HexFile.{record_cells}
use Rattle.hex_file.specs.Written.{none, run, record_line, end_line, IsWritten}

-- ten bytes at 100H: MVI C,2; MVI E,41H; CALL 5; JMP 0
abbrev ten : Record
ten = record { address = 0x100; kind = 0; «data» = 0x0E ∷ 2 ∷ 0x1E ∷ 0x41 ∷ 0xCD ∷ 5 ∷ 0 ∷ 0xC3 ∷ 0 ∷ 0 ∷ []; check = 0xF1 }

ten_bytes : IsDataLine (codes ":0A0100000E021E41CD0500C30000F1") ten
unfolding hex_on_literals
ten_bytes = record {
  spells = record { digits = codes "0A0100000E021E41CD0500C30000F1"; marked = refl; decoded = refl; sums_to_zero = refl };
  has_data = record { kind = refl; some = omega arith; below = omega arith };
}

-- both types of end lines
end_01 : IsEndLine (codes ":00000001FF") (record { address = 0; kind = 1; «data» = []; check = 0xFF })
unfolding hex_on_literals
end_01 = record { spells = record { digits = codes "00000001FF"; marked = refl; decoded = refl; sums_to_zero = refl }; ends = record { none = refl; kind = omega arith } }

end_00 : IsEndLine (codes ":0000000000") (record { address = 0; kind = 0; «data» = []; check = 0 })
unfolding hex_on_literals
end_00 = record { spells = record { digits = codes "0000000000"; marked = refl; decoded = refl; sums_to_zero = refl }; ends = record { none = refl; kind = omega arith } }

-- the line that is written to end a file
end_written : record_line (record { address = 0; kind = 1; «data» = []; check = 0xFF }) ≡ end_line
unfolding hex_on_literals
end_written = refl

-- the file that is written of the ten cells
ten_written : IsWritten (record_cells ten) (codes ":0A0100000E021E41CD0500C30000F1" ++ 13 ∷ (10 ∷ end_line))
unfolding hex_on_literals
ten_written = record {
  records = ten ∷ [];
  runs = run (record_cells ten) [] ten [] (record {
    run = record_cells ten;
    parts = refl;
    written = record { cells = refl; kind = refl; check = refl };
    some = omega arith;
    most = omega arith;
    longest = λ byte others e. cc;
  }) none;
  is = refl;
}
