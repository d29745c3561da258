-- Sources in Intel's spelling: the operations of statements are its operations, the registers of statements its other reserved
-- words, and an operation is followed by its operands (Intel 8080 Assembly Language Programming Manual, chapter 2).
use Rattle.std.specs.Prelude.{◌≡◌, ℕ, List}
use Rattle.asm80_types.specs.Tree.{Operand}
use Rattle.asm80_types.specs.Words.{is_operation, is_register}
use Rattle.asm80_types.specs.Reading.{Reading}
use Rattle.asm80_text.specs.declared.token.Token.{Token}
use Rattle.asm80_text.specs.Spelling.{Spelling}
use Rattle.asm80_text.specs.Statement.{HasOperands}
use Rattle.asm80_text.specs.Stream.{StreamGives}

-- the word is the operation, and the tokens after it are the operands
abbrev pub IsIntelForm : List ℕ → List Token → List ℕ → List Operand → Type 0
IsIntelForm word ts op args = (op ≡ word) × HasOperands ts args

abbrev pub intel_spelling : Spelling
intel_spelling = record { is_operation = is_operation; is_register = is_register; forms = IsIntelForm }

-- the statements of a stream in Intel's spelling
abbrev pub intel_reading : Reading
intel_reading = StreamGives intel_spelling
