-- The commented text: the lines of a source as comments among the lines that were written for its program.
use Rattle.std.specs.Prelude.{◌≡◌, ℕ, ◌-◌, max, codes, List, [], ◌∷◌, ◌++◌, take, drop, Bool, true, false, Option, Some, None}
use Rattle.std.specs.List.{flat_map}
use Rattle.asm80_text.specs.Stream.{IsStream, complete}
use Rattle.asm80_types.specs.Program.{Program}
use Rattle.asm86_line_types.specs.declared.line.Line86.{Line86}
use Rattle.asm86_line_types.specs.declared.line.Stmt86.{Stmt86}
use Rattle.asm86_line_types.specs.declared.line.Stmt86.TheVariants.{Cseg, Dseg}
use Rattle.asm86_line_types.specs.Written.{written_line, written_text}
use Rattle.templates.specs.Plain.{prologue, runtime, data_from, ending}
use Rattle.templates.specs.Style.{Style, styled}
use Rattle.commented_text.specs.Groups.{InstructionGroup, groups}

-- the lines of a source, those that its reader reads: up to the byte 1AH, those after END too
pub record AreLinesOf (source : List ℕ) (lines : List (List ℕ)) : Type 0 where
  pub raw : List (List ℕ)
  pub rest : List ℕ
  pub is_closed : Bool
  pub cut : IsStream (source ++ 26 ∷ []) raw rest is_closed
  pub are : lines ≡ complete raw rest is_closed

-- a line of the source in the text: nothing where it is empty, and else a semicolon and its first 254 bytes, since a line of ASM-86 has
-- at most 255
abbrev pub comment : List ℕ → List ℕ
comment [] = []
comment (b ∷ bytes) = 0x3B ∷ take 254 (b ∷ bytes)

abbrev pub comment_line : List ℕ → List ℕ
comment_line line = comment line ++ codes "\r\n"

abbrev pub comments : List (List ℕ) → List ℕ
comments lines = flat_map comment_line lines

-- the written lines of statements
abbrev pub written : List Stmt86 → List ℕ
written xs = flat_map written_line xs

-- Groups with the lines of the source that have not stood yet, where those up to a number have: before each group those up to its own
-- line, and after the last group those that are left.
abbrev pub commented_groups : ℕ → List (List ℕ) → List InstructionGroup → List ℕ
commented_groups stood lines [] = comments lines
commented_groups stood lines (g ∷ gs) =
    comments (take (g.line - stood) lines) ++ (written g.statements ++ commented_groups (max stood g.line) (drop (g.line - stood) lines) gs)

-- the text of a program in a style, with the lines of a source between the prologue and the runtime
abbrev pub commented : Style → Program → List (List ℕ) → List ℕ
commented s p lines =
    written (Cseg ∷ prologue p.top) ++ (commented_groups 0 lines (groups s p) ++ written (runtime ++ (Dseg ∷ (data_from 0 p.cells ++ ending p.top))))

-- bytes are the commented text of a source, a program and the lines that are its text in some style
pub record Commented (source : List ℕ) (p : Program) (lines : List Line86) (text : List ℕ) : Type 0 where
  pub style : Style
  pub of_style : lines ≡ styled style p
  pub source_lines : List (List ℕ)
  pub cut : AreLinesOf source source_lines
  pub is : text ≡ commented style p source_lines

-- the bytes of a source, where its lines are to stand in the text
abbrev pub kept_of : Bool → List ℕ → Option (List ℕ)
kept_of true source = Some source
kept_of false source = None

-- what is written for a program's lines: their text, or with the bytes of a source their commented text
abbrev pub IsWrittenText : Option (List ℕ) → Program → List Line86 → List ℕ → Type 0
IsWrittenText None p lines text = text ≡ written_text lines
IsWrittenText (Some source) p lines text = Commented source p lines text
