-- When a text whose statements stand in order has no image (CP/M-86 Programmer's Guide, "ASM-86": a label is defined once, each
-- label used is defined, and a short jump reaches from 128 bytes below to 127 above). The code is one segment of 65,535 bytes
-- at most, which is this project's own bound.
use Rattle.std.specs.Prelude.{◌≡◌, ℕ, ◌<◌, ◌≤◌, List, [], ◌∷◌, ◌++◌}
use Rattle.asm86_line_types.specs.declared.line.Stmt86.{Stmt86}
use Rattle.asm86_line_types.specs.declared.line.Line86.{Line86}
use Rattle.asm86_line_types.specs.declared.line.TextRule.TheVariants.{M1, M2, M3, M4, M5, M6}
use Rattle.asm86_line_types.specs.Layout.{sizes_of, place_of}
use Rattle.asm86_line_types.specs.Image.{Image, statements, IsDefinedOnce, UsesDefined, AllReach, IsImage, offset_in}
use Rattle.asm86_line_types.specs.Layout.{offset_of}
use Rattle.asm86_line_types.specs.declared.line.Label.{Label}
use Rattle.asm86.specs.declared.fault.ImageFault.{ImageFault}
use Rattle.asm86.specs.declared.fault.ImageFault.TheVariants.{Line, CodeTooLarge, Short, Memory}

-- the line with which the text first breaks a rule: the lines before it keep the rule, and with it they do not
pub record IsFirstToBreak (Keeps : List Stmt86 → Type 0) (lines : List Line86) (number : ℕ) : Type 0 where
  pub before : List Line86
  pub here : Line86
  pub after : List Line86
  pub split : lines ≡ before ++ (here ∷ after)
  pub kept : Keeps (statements before)
  pub broken : Keeps (statements (before ++ here ∷ [])) → ⊥
  pub numbered : number ≡ here.line

-- the refusal of a text: the first rule that is broken, in the order M3, M4, the size of the code, short jumps
abbrev pub ImageRefused : List Line86 → ImageFault → Type 0
ImageRefused lines (Line n M1) = ⊥
ImageRefused lines (Line n M2) = ⊥
ImageRefused lines (Line n M3) = IsFirstToBreak IsDefinedOnce lines n
ImageRefused lines (Line n M4) = IsDefinedOnce (statements lines) × IsFirstToBreak (UsesDefined (statements lines)) lines n
ImageRefused lines (Line n M5) = ⊥
ImageRefused lines (Line n M6) = ⊥
ImageRefused lines (CodeTooLarge n) =
    IsDefinedOnce (statements lines) × UsesDefined (statements lines) (statements lines)
    × (0x10000 ≤ n) × (n ≡ sizes_of (statements lines))
ImageRefused lines (Short n) =
    IsDefinedOnce (statements lines) × UsesDefined (statements lines) (statements lines)
    × (sizes_of (statements lines) < 0x10000)
    × IsFirstToBreak (AllReach (place_of (statements lines)) 0) lines n
ImageRefused lines Memory = ⊥

-- a text has no two images, no two refusals, and not both
abbrev pub OneImage : Type 0
OneImage = (lines : List Line86) (image other : Image) → IsImage lines image → IsImage lines other → image ≡ other

abbrev pub OneRefusal : Type 0
OneRefusal = (lines : List Line86) (fault other : ImageFault) → ImageRefused lines fault → ImageRefused lines other → fault ≡ other

abbrev pub NotBoth : Type 0
NotBoth = (lines : List Line86) (image : Image) (fault : ImageFault) → IsImage lines image → ImageRefused lines fault → ⊥

-- an image has the offset of each label of the text, and of no other
abbrev pub HasOffsets : Type 0
HasOffsets = (lines : List Line86) (image : Image) (label : Label) → IsImage lines image → offset_in image.labels label ≡ offset_of (statements lines) label
