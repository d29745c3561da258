-- Labels with their offsets, as a table that is looked up.
use Rattle.std.specs.Prelude.{ℕ, List, unwrap_or, ◌≡◌, ◌<◌}
use Rattle.asm86_line_types.specs.declared.line.Label.{Label}
use Rattle.asm86_line_types.specs.declared.line.Value16.{Value16}
use Rattle.asm86_line_types.specs.declared.line.Value16.TheVariants.{Num, Offset}
use Rattle.asm86_line_types.specs.declared.line.Stmt86.{Stmt86}
use Rattle.asm86_line_types.specs.declared.line.Line86.{Line86}
use Rattle.asm86_line_types.specs.Layout.{sizes_of, place_of}
use Rattle.asm86_line_types.specs.Image.{statements, offset_in, labels_from, IsDefinedOnce, UsesDefined, AllReach}

-- the offset of a label that the table has
abbrev pub label_place : List (Label × ℕ) → Label → ℕ
label_place labels l = unwrap_or (offset_in labels l) 0

-- the word that a DW holds
abbrev pub word_of_value : List (Label × ℕ) → Value16 → ℕ
word_of_value labels (Num w) = w
word_of_value labels (Offset l) = label_place labels l

-- the labels of statements with their offsets, and how many bytes the statements have
pub record AreLabelsLaid (xs : List Stmt86) (labels : List (Label × ℕ)) (at : ℕ) : Type 0 where
  pub found : labels ≡ labels_from 0 xs
  pub size : at ≡ sizes_of xs
  pub once : IsDefinedOnce xs

-- the labels of a text that keeps each rule, and whose code is small enough, so that each place is a word
pub record IsChecked (lines : List Line86) (labels : List (Label × ℕ)) : Type 0 where
  pub found : labels ≡ labels_from 0 (statements lines)
  pub once : IsDefinedOnce (statements lines)
  pub defined : UsesDefined (statements lines) (statements lines)
  pub small : sizes_of (statements lines) < 0x10000
  pub short : AllReach (place_of (statements lines)) 0 (statements lines)
  pub words : (l : Label) → label_place labels l < 0x10000
