-- Statements whose numbers are at most 65,535 and whose strings have bytes for characters, as those of every source are. Without
-- that, what no source says could stand at an address that there is not, or fill a cell with more than a byte.
use Rattle.std.specs.Prelude.{ℕ, ◌<◌, List}
use Rattle.std.specs.List.{AllByRecursion}
use Rattle.asm80_types.specs.Tree.{Tree, Number, Place, Named, Inverted, Negated, Binary, Operand, String, Whole, Statement}

abbrev pub HasWords : Tree → Type 0
HasWords (Number n) = n < 0x10000
HasWords Place = Unit {0}
HasWords (Named name) = Unit {0}
HasWords (Inverted e) = HasWords e
HasWords (Negated e) = HasWords e
HasWords (Binary op a b) = HasWords a × HasWords b

abbrev pub AreBytes : List ℕ → Type 0
AreBytes bytes = AllByRecursion (λ b. b < 0x100) bytes

abbrev pub IsInRange : Operand → Type 0
IsInRange (String bytes) = AreBytes bytes
IsInRange (Whole e) = HasWords e

-- the operands of each statement
abbrev pub AreInRange : List Statement → Type 0
AreInRange ss = AllByRecursion (λ (s : Statement). AllByRecursion IsInRange s.args) ss
