-- What is known of a source and of a text by their bytes, and of what is found of both.
use Rattle.std.specs.Prelude.{◌≡◌, ℕ, Bool, List, Result}
use Rattle.asm86_line_types.specs.declared.line.Line86.{Line86}
use Rattle.asm86_line_types.specs.declared.line.TextRule.{TextRule}
use Rattle.asm86.specs.Stream.{TextGives}
use Rattle.asm86.specs.Refusals.{OneRefusal, NotBoth}
use Rattle.xlt_core.specs.Names.{OneFinding}
use Rattle.cmd_common.specs.Sources.{reading_of, SourceLaw}

-- a source has one outcome; a text is read as one thing, and its lines are refused by one fault, and not where they have an image
pub record FileLaws : Type 0 where
  pub source : (zilog : Bool) → SourceLaw (reading_of zilog)
  pub reading : (text : List ℕ) (a b : Result (List Line86) (ℕ × TextRule)) → TextGives text a → TextGives text b → a ≡ b
  pub refuses : OneRefusal
  pub not_both : NotBoth

-- so it is, and of a program and lines one thing is found
pub record CheckLaws : Type 0 where
  pub files : FileLaws
  pub finding : OneFinding
