-- The tokens that words are (CP/M 2.2 Operating System Manual, the assembler, "Reserved words").
use Rattle.std.specs.Prelude.{ℕ, List, Option, Some, None, codes, if◌then◌else◌}
use Rattle.std.specs.Str.{bytes_eq}
use Rattle.asm80_types.specs.declared.expr.Two.{Two}
use Rattle.asm80_types.specs.declared.expr.Two.TheVariants.{Mod, Shl, Shr, And, Or, Xor}
use Rattle.asm80_text.specs.declared.token.Token.{Token}
use Rattle.asm80_text.specs.declared.token.Token.TheVariants as tokens
use Rattle.asm80_text.specs.Spelling.{Spelling}

-- the token of a word that is no operator
abbrev pub name_token : Spelling → List ℕ → Token
name_token s name = if s.is_operation name then tokens.Operation name else (if s.is_register name then tokens.Register name else tokens.Word name)

-- the token that a word is
unfoldable pub word_token : Spelling → List ℕ → Token
word_token s name =
    if bytes_eq name (codes "MOD") then tokens.Op Mod
    else (if bytes_eq name (codes "SHL") then tokens.Op Shl
    else (if bytes_eq name (codes "SHR") then tokens.Op Shr
    else (if bytes_eq name (codes "AND") then tokens.Op And
    else (if bytes_eq name (codes "OR") then tokens.Op Or
    else (if bytes_eq name (codes "XOR") then tokens.Op Xor
    else (if bytes_eq name (codes "NOT") then tokens.Not
    else name_token s name))))))

-- the name of an operator of two operands that is a name
abbrev pub operator_name : Two → Option (List ℕ)
operator_name Mod = Some (codes "MOD")
operator_name Shl = Some (codes "SHL")
operator_name Shr = Some (codes "SHR")
operator_name And = Some (codes "AND")
operator_name Or = Some (codes "OR")
operator_name Xor = Some (codes "XOR")
operator_name _ = None

-- a word, where it is an operation
abbrev pub if_operation : Spelling → Option (List ℕ) → Option (List ℕ)
if_operation s None = None
if_operation s (Some word) = if s.is_operation word then Some word else None

-- the word that a token is where a statement has its operation
abbrev pub as_operation : Spelling → Token → Option (List ℕ)
as_operation s (tokens.Operation word) = Some word
as_operation s (tokens.Op o) = if_operation s (operator_name o)
as_operation s tokens.Not = if_operation s (Some (codes "NOT"))
as_operation s _ = None
