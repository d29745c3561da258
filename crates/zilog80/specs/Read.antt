-- What the code's operands and classes stand for, and what its functions return.
use Rattle.std.specs.Prelude.{◌≡◌, ℕ, ◌-◌, List, [], ◌∷◌, Bool, Option, Some, None, option_copied, slice_get, true, is_some, Result, Ok, Err, Contains, map, nat_lt, nat_le, ◌&&◌, not, length}
use Rattle.std.specs.Borrow.{Bor}
use Rattle.std.specs.declared.alloc.AllocError.{AllocError}
use Rattle.std.specs.List.{list_all, prefix_len, slice_split}
use Rattle.std.specs.Str.{bytes_eq}
use Rattle.std.specs.Global.{Vec}
use Rattle.asm80_types.specs.declared.arg.Arg.{Arg}
use Rattle.asm80_types.specs.declared.expr.Expr.{Expr}
use Rattle.asm80_types.specs.Tree.{Tree, Number, Named, tree_of, Operand, Whole, operand_of}
use Rattle.asm80_text.specs.declared.token.Token.{Token}
use Rattle.asm80_text.specs.declared.fault.ParseFault.{ParseFault}
use Rattle.asm80_text.specs.declared.fault.ParseFault.TheVariants as parse
use Rattle.asm80_text.specs.Grammar.{Spells}
use Rattle.asm80_text.specs.Letters.{is_upper}
use Rattle.zilog80.specs.declared.class.Class.{Class as ReadClass}
use Rattle.zilog80.specs.declared.class.Class.TheVariants as read
use Rattle.zilog80.specs.declared.class.Given.{Given}
use Rattle.zilog80.specs.declared.class.Given.TheVariants.{Nothing, Renamed, OfValue}
use Rattle.zilog80.specs.declared.operand.Spelt.{Spelt as ReadSpelt}
use Rattle.zilog80.specs.declared.operand.Spelt.TheVariants as spelt
use Rattle.zilog80.specs.Operands.{Spelt, Name, AtName, Literal, Value, AtValue, Class, Is, At, Register, Memory, Source, Pair, StackPair, Indirect, Bare, Any, Cell, Zero, IsEnclosed, IsSpelt, operands}
use Rattle.zilog80.specs.Zilog.{IsInstruction, is_comma}

abbrev pub class_of : ReadClass → Class
class_of (read.Is name) = Is name.now
class_of (read.At name) = At name.now
class_of read.Register = Register
class_of read.Memory = Memory
class_of read.Source = Source
class_of read.Pair = Pair
class_of read.StackPair = StackPair
class_of read.Indirect = Indirect
class_of read.Bare = Bare
class_of read.Any = Any
class_of read.Cell = Cell
class_of read.Zero = Zero

abbrev pub spelt_of : ReadSpelt → Spelt
spelt_of (spelt.Name n) = Name n
spelt_of (spelt.AtName n) = AtName n
spelt_of (spelt.Literal n) = Literal n
spelt_of (spelt.Value e) = Value (tree_of e)
spelt_of (spelt.AtValue e) = AtValue (tree_of e)

-- the value of an operand that is one
abbrev pub value_in : Spelt → List Operand
value_in (Name n) = []
value_in (AtName n) = []
value_in (Literal n) = Whole (Number n) ∷ []
value_in (Value e) = Whole e ∷ []
value_in (AtValue e) = Whole e ∷ []

-- what an operand gives in Intel's spelling
abbrev pub given_by : Spelt → Given → List Operand
given_by a Nothing = []
given_by a (Renamed n) = Whole (Named n) ∷ []
given_by a OfValue = value_in a

-- an expression as operands
abbrev pub operands_of : Option Expr → List Operand
operands_of None = []
operands_of (Some e) = Whole (tree_of e) ∷ []

-- words of 1 to 16 capital letters, as each name in a table is
abbrev pub is_word : List ℕ → Bool
is_word name = list_all is_upper name && (nat_lt 0 (length name) && nat_le (length name) 16)

abbrev pub are_words : List (List ℕ) → Bool
are_words names = list_all is_word names

-- ---- operands

-- what was read of the tokens of an operand
abbrev pub GivesSpelt : List Token → Result ReadSpelt ParseFault → Type 0
GivesSpelt ts (Ok a) = IsSpelt ts (spelt_of a)
GivesSpelt ts (Err parse.Memory) = Unit {0}
GivesSpelt ts (Err parse.Malformed) = (a : Spelt) → IsSpelt ts a → ⊥

-- what was read of tokens that may be wholly one pair of parentheses
abbrev pub GivesEnclosed : List Token → Result (Option Expr) AllocError → Type 0
GivesEnclosed ts (Ok (Some e)) = IsEnclosed ts (tree_of e)
GivesEnclosed ts (Ok None) = (e : Tree) → IsEnclosed ts e → ⊥
GivesEnclosed ts (Err e) = Unit {0}

-- what was read of the tokens of an expression
abbrev pub GivesWhole : List Token → Result Expr ParseFault → Type 0
GivesWhole ts (Ok e) = Spells 5 ts (tree_of e) []
GivesWhole ts (Err parse.Memory) = Unit {0}
GivesWhole ts (Err parse.Malformed) = (e : Tree) → Spells 5 ts e [] → ⊥

-- ---- instructions

-- how many tokens at the front stand before a comma
abbrev pub operand_len : List Token → ℕ
operand_len ts = prefix_len (λ t. not (is_comma t)) ts

-- what stands before the first comma, and what after it, if there is one
abbrev pub IsNextOperand : List Token → List Token → Option (List Token) → Type 0
IsNextOperand ts operand None = slice_split is_comma ts ≡ operand ∷ []
IsNextOperand ts operand (Some after) = slice_split is_comma ts ≡ operand ∷ slice_split is_comma after

-- what was read of a word and its operands
abbrev pub GivesInstruction : List ℕ → List (List Token) → Result (List ℕ × Vec Arg) ParseFault → Type 0
GivesInstruction word parts (Ok x) = IsInstruction word parts x.0 (map operand_of x.1.items)
GivesInstruction word parts (Err parse.Memory) = Unit {0}
GivesInstruction word parts (Err parse.Malformed) = (op : List ℕ) (args : List Operand) → IsInstruction word parts op args → ⊥

-- ---- rows

-- the rows of a word's first letter, among those with A, those with B, and so on; a digit has those of A
unfoldable pub of_letter : {X : Type 0} → List (Bor (List X)) → List ℕ → Option (List X)
of_letter lists [] = None
of_letter lists (letter ∷ rest) = option_copied (slice_get lists (letter - 65))

-- rows as they lie in the code
abbrev pub BareEntry : Type 0
BareEntry = Bor (List ℕ) × Bor (List ℕ)

abbrev pub UnaryEntry : Type 0
UnaryEntry = Bor (List ℕ) × ReadClass × Bor (List ℕ)

abbrev pub BinaryEntry : Type 0
BinaryEntry = Bor (List ℕ) × ReadClass × ReadClass × Bor (List ℕ)

abbrev pub bare_of : BareEntry → List ℕ × List ℕ
bare_of r = (r.0.now, r.1.now)

abbrev pub unary_of : UnaryEntry → List ℕ × Class × List ℕ
unary_of r = (r.0.now, class_of r.1, r.2.now)

abbrev pub binary_of : BinaryEntry → List ℕ × Class × Class × List ℕ
binary_of r = (r.0.now, class_of r.1, class_of r.2, r.3.now)

-- the row fits a word with these operands
abbrev pub fits_unary : List ℕ → Spelt → UnaryEntry → Bool
fits_unary word a r = bytes_eq r.0.now word && is_some (operands (class_of r.1) a)

abbrev pub fits_binary : List ℕ → Spelt → Spelt → BinaryEntry → Bool
fits_binary word a b r = bytes_eq r.0.now word && (is_some (operands (class_of r.1) a) && is_some (operands (class_of r.2) b))

-- the row of a word without operands, if there is one
abbrev pub IsBareRow : List (List ℕ × List ℕ) → List ℕ → Option (List ℕ) → Type 0
IsBareRow rows word None = (op : List ℕ) → Contains rows (word, op) → ⊥
IsBareRow rows word (Some op) = Contains rows (word, op)

-- a row in which a word and an operand stand, if there is one
abbrev pub IsUnaryRow : List (List ℕ × Class × List ℕ) → List ℕ → Spelt → Option (ReadClass × List ℕ) → Type 0
IsUnaryRow rows word a None = (c : Class) (op : List ℕ) → Contains rows (word, c, op) → operands c a ≡ None
IsUnaryRow rows word a (Some r) = Contains rows (word, class_of r.0, r.1) × (is_some (operands (class_of r.0) a) ≡ true)

-- the same of two operands
abbrev pub IsBinaryRow : List (List ℕ × Class × Class × List ℕ) → List ℕ → Spelt → Spelt → Option (ReadClass × ReadClass × List ℕ) → Type 0
IsBinaryRow rows word a b None = (c d : Class) (op : List ℕ) (x y : List Operand) → Contains rows (word, c, d, op) → operands c a ≡ Some x → operands d b ≡ Some y → ⊥
IsBinaryRow rows word a b (Some r) = Contains rows (word, class_of r.0, class_of r.1, r.2) × (is_some (operands (class_of r.0) a) ≡ true) × (is_some (operands (class_of r.1) b) ≡ true)
