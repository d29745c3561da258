-- What is known of sources and HEX files, to `hex80`.
use Rattle.std.proofs.Common.{◌≡◌, ℕ, List, ap, subst, ◌∙◌, arith}
use Rattle.host.specs.Host.{HostState}
use Rattle.hex_file.specs.HexFile.{IsHexOf}
use Rattle.hex_file.specs.Written.{AreCells, IsWritten}
use Rattle.asm80_types.specs.Program.{Program, IsProgram}
use Rattle.i80_bytes.specs.Cells.{program_cells}
use Rattle.i80_bytes.specs.Follows.{BytesFollow}
use Rattle.cmd_arguments.specs.Words.{Hex80}
use Rattle.cmd_common.specs.Said.{IsDone, whole, failed, no_memory}
use Rattle.cmd_common.specs.Sources.{SourceLaw, reading_of}
use Rattle.cmd_common.proofs.SourceLaw.{not_source_and_stop, one_source_stop}
use Rattle.cmd_common.proofs.WriteEnds.{writes_on}
use Rattle.cmd_common.specs.Kinds.{KindLaws}
use Rattle.cmd_common.specs.Makes.{HasMade}
use Rattle.cmd_makes.specs.Hexes.{HexOfProgram, GivesHex, hex_kind, CellsFollow, HasHexFile}

-- one file is written of cells
abbrev OneFile : Type 0
OneFile = (cells : List (ℕ × ℕ)) (bytes others : List ℕ) → IsWritten cells bytes → IsWritten cells others → bytes ≡ others

module _ (c : Hex80) (law : SourceLaw (reading_of c.zilog)) (one_file : OneFile) where
  one_hex : (bytes : List ℕ) (a b : HexOfProgram) → GivesHex c bytes a → GivesHex c bytes b → a ≡ b
  one_hex bytes a b x y =
      let program = law.program bytes c.top a.program b.program x.source y.source in
      let text = one_file (program_cells b.program) a.text b.text (subst (λ p. IsWritten (program_cells p) a.text) program x.written) y.written in
      let with_program : Program → HexOfProgram = λ p. record { program = p; text = a.text } in
      let with_text : List ℕ → HexOfProgram = λ t. record { program = b.program; text = t } in
      ap with_program program ∙ ap with_text text

  pub laws_of_hex80 : KindLaws (hex_kind c)
  laws_of_hex80 = record {
    one = one_hex;
    refusal = λ bytes s t x y. one_source_stop law bytes c.top s t x y;
    apart = λ bytes m stop is stops. not_source_and_stop law bytes c.top m.program stop is.source stops;
  }

-- the cells of a program below a top run as it does
cells_follow : BytesFollow → (p : Program) (top : ℕ) → IsProgram p → p.top ≡ top → CellsFollow p top (program_cells p)
unfolding BytesFollow
cells_follow law p top lawful is = subst (λ t. CellsFollow p t (program_cells p)) is (λ fetch page fill choices replies n of_bytes. law fetch p page fill choices replies n of_bytes lawful)

-- the file that was written is that of the program
module _ (c : Hex80) (old mid new : HostState) (reads_back : (cells : List (ℕ × ℕ)) (bytes : List ℕ) → AreCells cells → IsWritten cells bytes → IsHexOf bytes cells) (are_cells : (p : Program) → IsProgram p → AreCells (program_cells p)) (follow : BytesFollow)
    (line : List ℕ) (w : HasMade (hex_kind c) old mid line) where
  pub has_hex_file : (status : ℕ) → status ≡ 0 → IsDone line mid new status → HasHexFile c old new
  has_hex_file _ e (whole only s same) =
      let m = w.made in
      let g = w.is.gives in
      let holds = g.source.program.program in
      record {
        source = w.is.bytes;
        program = m.program;
        text = m.text;
        given = w.is.file.0;
        is_source = g.source;
        output = (writes_on old mid new c.output m.text only w.output.0).text;
        written = g.written;
        reads = reads_back (program_cells m.program) m.text (are_cells m.program holds.lawful) g.written;
        follows = cells_follow follow m.program c.top holds.lawful holds.is_top;
      }
  has_hex_file _ e (failed s) = absurd (omega (arith, e))
  has_hex_file _ e (no_memory s) = absurd (omega (arith, e))
