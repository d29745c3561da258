-- The values of expressions: 16 bits, unsigned, wrapping (CP/M 2.2 Operating System Manual, the assembler, "Forming the
-- operand"). A value that a fault hides is None.
use Rattle.std.specs.Prelude.{ℕ, ◌+◌, ◌-◌, ◌*◌, ◌/◌, ◌%◌, ◌^◌, ◌==◌, nat_lt, ◌||◌, Bool, true, false, cond, List, [], ◌∷◌, ◌++◌, Option, Some, None, option_map, option_and_then, option_to_list, is_none, bit_and, bit_or, bit_xor}
use Rattle.asm80_types.specs.declared.expr.Two.{Two}
use Rattle.asm80_types.specs.declared.expr.Two.TheVariants.{Mul, Div, Mod, Shl, Shr, Add, Sub, And, Or, Xor}
use Rattle.asm80_types.specs.Tree.{Tree, Number, Place, Named, Inverted, Negated, Binary, Operand, String, Whole}
use Rattle.asm80_types.specs.Words.{is_register}
use Rattle.asm80_source_def.specs.declared.meaning.Meaning.{Meaning}

-- what a fault hides
abbrev pub unknown : Meaning
unknown = record { value = None; is_place = false }

-- what an expression sees: the address of its statement's first byte, and the names that it may use
pub record Scope : Type 0 where
  pub here : ℕ
  pub find : List ℕ → Option Meaning

-- two operands; a divisor of 0 gives nothing, and a shift by 16 or more gives 0
abbrev pub binary : Two → ℕ → ℕ → Option ℕ
binary Mul a b = Some ((a * b) % 0x10000)
binary Div a b = cond (b == 0) None (Some (a / b))
binary Mod a b = cond (b == 0) None (Some (a % b))
binary Shl a b = Some (cond (nat_lt b 16) ((a * 2 ^ b) % 0x10000) 0)
binary Shr a b = Some (cond (nat_lt b 16) (a / 2 ^ b) 0)
binary Add a b = Some ((a + b) % 0x10000)
binary Sub a b = Some ((a + (0x10000 - b)) % 0x10000)
binary And a b = Some (bit_and a b)
binary Or a b = Some (bit_or a b)
binary Xor a b = Some (bit_xor a b)

abbrev pub meaning_value : Option Meaning → Option ℕ
meaning_value m = option_and_then (λ (x : Meaning). x.value) m

-- what a name stands for; a register's name is no value
abbrev pub meaning_of_name : Scope → List ℕ → Option Meaning
meaning_of_name s name = cond (is_register name) None (s.find name)

-- the value of an expression
abbrev pub value_of_tree : Scope → Tree → Option ℕ
value_of_tree s (Number n) = Some n
value_of_tree s Place = Some s.here
value_of_tree s (Named name) = meaning_value (meaning_of_name s name)
value_of_tree s (Inverted e) = option_map (λ a. 0xFFFF - a) (value_of_tree s e)
value_of_tree s (Negated e) = option_map (λ a. (0x10000 - a) % 0x10000) (value_of_tree s e)
value_of_tree s (Binary op a b) = option_and_then (λ x. option_and_then (λ y. binary op x y) (value_of_tree s b)) (value_of_tree s a)

-- V5: a register's name stands where a value is needed
abbrev pub has_register : Tree → Bool
has_register (Number n) = false
has_register Place = false
has_register (Named name) = is_register name
has_register (Inverted e) = has_register e
has_register (Negated e) = has_register e
has_register (Binary op a b) = has_register a || has_register b

-- V1: a name that is not defined, or not yet where that is needed
abbrev pub has_undefined : Scope → Tree → Bool
has_undefined s (Number n) = false
has_undefined s Place = false
has_undefined s (Named name) = cond (is_register name) false (is_none (s.find name))
has_undefined s (Inverted e) = has_undefined s e
has_undefined s (Negated e) = has_undefined s e
has_undefined s (Binary op a b) = has_undefined s a || has_undefined s b

-- V4: a divisor that is 0
abbrev pub is_zero_divisor : Option ℕ → Bool
is_zero_divisor None = false
is_zero_divisor (Some n) = n == 0

abbrev pub divides : Two → Bool
divides Div = true
divides Mod = true
divides op = false

abbrev pub divides_by_zero : Scope → Tree → Bool
divides_by_zero s (Number n) = false
divides_by_zero s Place = false
divides_by_zero s (Named name) = false
divides_by_zero s (Inverted e) = divides_by_zero s e
divides_by_zero s (Negated e) = divides_by_zero s e
divides_by_zero s (Binary op a b) =
    (divides_by_zero s a || divides_by_zero s b) || cond (divides op) (is_zero_divisor (value_of_tree s b)) false

-- the address of a place name; none of another name
abbrev pub place_of_meaning : Meaning → Option ℕ
place_of_meaning m = cond m.is_place m.value None

abbrev pub place_of_name : Scope → List ℕ → Option ℕ
place_of_name s name = option_and_then place_of_meaning (meaning_of_name s name)

-- the addresses of the place names and `$` in an expression
abbrev pub places_in : Scope → Tree → List ℕ
places_in s (Number n) = []
places_in s Place = s.here ∷ []
places_in s (Named name) = option_to_list (place_of_name s name)
places_in s (Inverted e) = places_in s e
places_in s (Negated e) = places_in s e
places_in s (Binary op a b) = places_in s a ++ places_in s b

-- those that stand inside a larger expression, and not alone
abbrev pub places_inside : Scope → Tree → List ℕ
places_inside s (Number n) = []
places_inside s Place = []
places_inside s (Named name) = []
places_inside s (Inverted e) = places_in s e
places_inside s (Negated e) = places_in s e
places_inside s (Binary op a b) = places_in s a ++ places_in s b

-- the address of an expression that is a place name or `$` alone
abbrev pub place_alone : Scope → Tree → Option ℕ
place_alone s (Number n) = None
place_alone s Place = Some s.here
place_alone s (Named name) = place_of_name s name
place_alone s (Inverted e) = None
place_alone s (Negated e) = None
place_alone s (Binary op a b) = None

-- ---- an operand as a value

-- V5: it is a string of two or more characters, or has a register's name
abbrev pub is_no_value : Operand → Bool
is_no_value (String bytes) = true
is_no_value (Whole e) = has_register e

abbrev pub operand_has_unknown : Scope → Operand → Bool
operand_has_unknown s (String bytes) = false
operand_has_unknown s (Whole e) = has_undefined s e

abbrev pub operand_divides_by_zero : Scope → Operand → Bool
operand_divides_by_zero s (String bytes) = false
operand_divides_by_zero s (Whole e) = divides_by_zero s e

abbrev pub operand_number : Scope → Operand → Option ℕ
operand_number s (String bytes) = None
operand_number s (Whole e) = value_of_tree s e

abbrev pub operand_place : Scope → Operand → Option ℕ
operand_place s (String bytes) = None
operand_place s (Whole e) = place_alone s e

abbrev pub operand_places_inside : Scope → Operand → List ℕ
operand_places_inside s (String bytes) = []
operand_places_inside s (Whole e) = places_inside s e
