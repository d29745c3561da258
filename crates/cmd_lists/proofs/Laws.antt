-- What is known of lists of a source's program, to the commands.
use Rattle.std.proofs.Common.{◌≡◌, ℕ, List, ap, subst, ◌∙◌}
use Rattle.asm80_types.specs.Program.{Program}
use Rattle.cmd_arguments.specs.Words.{Listing}
use Rattle.cmd_common.specs.Sources.{SourceLaw, reading_of}
use Rattle.cmd_common.specs.Kinds.{KindLaws}
use Rattle.cmd_common.proofs.SourceLaw.{not_source_and_stop, one_source_stop}
use Rattle.cmd_lists.specs.Lists.{LinesOfProgram, GivesLines, list_kind}

-- a program has one list
abbrev OneList : (Program → List (List ℕ) → Type 0) → Type 0
OneList AreLines = (p : Program) (a b : List (List ℕ)) → AreLines p a → AreLines p b → a ≡ b

module _ (AreLines : Program → List (List ℕ) → Type 0) (one : OneList AreLines) (c : Listing) (law : SourceLaw (reading_of c.zilog)) where
  one_of_bytes : (bytes : List ℕ) (a b : LinesOfProgram) → GivesLines AreLines c bytes a → GivesLines AreLines c bytes b → a ≡ b
  one_of_bytes bytes a b x y =
      let program = law.program bytes c.top a.program b.program x.source y.source in
      let lines = one b.program a.lines b.lines (subst (λ p. AreLines p a.lines) program x.lines) y.lines in
      let with_program : Program → LinesOfProgram = λ p. record { program = p; lines = a.lines } in
      let with_lines : List (List ℕ) → LinesOfProgram = λ l. record { program = b.program; lines = l } in
      ap with_program program ∙ ap with_lines lines

  pub laws_of_list : KindLaws (list_kind AreLines c)
  laws_of_list = record {
    one = one_of_bytes;
    refusal = λ bytes s t x y. one_source_stop law bytes c.top s t x y;
    apart = λ bytes m stop is stops. not_source_and_stop law bytes c.top m.program stop is.source stops;
  }
