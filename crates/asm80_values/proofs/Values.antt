-- Values are words, where the numbers and the names that they are made of are.
use Rattle.std.proofs.Common.{ℕ, ◌-◌, ◌*◌, ◌/◌, ◌%◌, ◌^◌, ◌==◌, ◌<◌, nat_lt, Bool, true, false, cond, List, Option, Some, None, option_map, option_and_then, arith}
use Rattle.std.specs.Prelude.{IfSome}
use Rattle.std.specs.Int.Bits.{and_lt}
use Rattle.std.proofs.Math.Nat.{div-le_self, mod-lt, mod-le}
use Rattle.std.proofs.lemmas.Nat.{or_lt, xor_lt}
use Rattle.asm80_types.specs.declared.expr.Two.{Two}
use Rattle.asm80_types.specs.declared.expr.Two.TheVariants.{Mul, Div, Mod, Shl, Shr, Add, Sub, And, Or, Xor}
use Rattle.asm80_types.specs.Tree.{Tree, Number, Place, Named, Inverted, Negated, Binary, Operand, String, Whole}
use Rattle.asm80_types.specs.Words.{is_register}
use Rattle.asm80_source_def.specs.declared.meaning.Meaning.{Meaning}
use Rattle.asm80_source_def.specs.Values.{Scope, binary, meaning_value, meaning_of_name, value_of_tree, operand_number}
use Rattle.asm80_types.specs.Ranges.{HasWords, IsInRange}

-- a value, if there is one, is a word
abbrev pub IsWord : Option ℕ → Type 0
IsWord o = IfSome o (λ n. n < 0x10000)

abbrev pub IsWordly : Option Meaning → Type 0
IsWordly o = IfSome o (λ (m : Meaning). IsWord m.value)

-- an expression sees words
pub record SeesWords (s : Scope) : Type 0 where
  pub here : s.here < 0x10000
  pub found : (text : List ℕ) → IsWordly (s.find text)

binary_word : (op : Two) (a b : ℕ) → a < 0x10000 → b < 0x10000 → IsWord (binary op a b)
binary_word Mul a b x y = omega arith
binary_word Div a b x y = by (b == 0)
  where
    by : (t : Bool) → IsWord (cond t None (Some (a / b)))
    by true = tt
    by false = omega (arith, div-le_self a b)
binary_word Mod a b x y = by (b == 0)
  where
    by : (t : Bool) → IsWord (cond t None (Some (a % b)))
    by true = tt
    by false = omega (arith, mod-le a b)
binary_word Shl a b x y = by (nat_lt b 16)
  where
    by : (t : Bool) → cond t ((a * 2 ^ b) % 0x10000) 0 < 0x10000
    by true = mod-lt (a * 2 ^ b) (omega arith)
    by false = omega arith
binary_word Shr a b x y = by (nat_lt b 16)
  where
    by : (t : Bool) → cond t (a / 2 ^ b) 0 < 0x10000
    by true = omega (arith, div-le_self a (2 ^ b))
    by false = omega arith
binary_word Add a b x y = omega arith
binary_word Sub a b x y = omega arith
binary_word And a b x y = and_lt 16 a b x y
binary_word Or a b x y = or_lt 16 a b x y
binary_word Xor a b x y = xor_lt 16 a b x y

both_words : (op : Two) (o p : Option ℕ) → IsWord o → IsWord p → IsWord (option_and_then (λ x. option_and_then (λ y. binary op x y) p) o)
both_words op None p h g = tt
both_words op (Some a) None h g = tt
both_words op (Some a) (Some b) h g = binary_word op a b h g

inverted_word : (o : Option ℕ) → IsWord o → IsWord (option_map (λ a. 0xFFFF - a) o)
inverted_word None h = tt
inverted_word (Some a) h = omega arith

negated_word : (o : Option ℕ) → IsWord o → IsWord (option_map (λ a. (0x10000 - a) % 0x10000) o)
negated_word None h = tt
negated_word (Some a) h = omega arith

pub name_wordly : (s : Scope) (text : List ℕ) → SeesWords s → IsWordly (meaning_of_name s text)
name_wordly s text h = by (is_register text)
  where
    by : (t : Bool) → IsWordly (cond t None (s.find text))
    by true = tt
    by false = h.found text

value_word : (o : Option Meaning) → IsWordly o → IsWord (meaning_value o)
value_word None h = tt
value_word (Some m) h = h

pub number_word : (s : Scope) (e : Tree) → SeesWords s → HasWords e → IsWord (value_of_tree s e)
number_word s (Number n) h w = w
number_word s Place h w = h.here
number_word s (Named text) h w = value_word (meaning_of_name s text) (name_wordly s text h)
number_word s (Inverted e) h w = inverted_word (value_of_tree s e) (number_word s e h w)
number_word s (Negated e) h w = negated_word (value_of_tree s e) (number_word s e h w)
number_word s (Binary op a b) h w = both_words op (value_of_tree s a) (value_of_tree s b) (number_word s a h w.0) (number_word s b h w.1)

pub operand_word : (s : Scope) (a : Operand) → SeesWords s → IsInRange a → IsWord (operand_number s a)
operand_word s (String bytes) h w = tt
operand_word s (Whole e) h w = number_word s e h w
