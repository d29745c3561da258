-- The operands of instructions in Zilog's spelling (Zilog, Z80 CPU User Manual, "Addressing Modes"): how an operand is spelt, the
-- classes of operands that instructions have, and what an operand of a class is in Intel's spelling.
use Rattle.std.specs.Prelude.{◌≡◌, ℕ, zero, suc, List, [], ◌∷◌, codes, Bool, true, false, Option, Some, None, option_map, find, if◌then◌else◌}
use Rattle.std.specs.List.{list_any}
use Rattle.std.specs.Str.{bytes_eq}
use Rattle.asm80_types.specs.Tree.{Tree, Number, Named, Operand, Whole}
use Rattle.asm80_text.specs.declared.token.Token.{Token}
use Rattle.asm80_text.specs.declared.token.Token.TheVariants.{Digits, Num, Register as Reserved, Open, Close}
use Rattle.asm80_text.specs.Grammar.{Spells}

-- ---- how an operand is spelt

pub data Spelt : Type 0 where
  -- a reserved name alone, as B
  Name : List ℕ → Spelt
  -- a reserved name in one pair of parentheses, as (HL)
  AtName : List ℕ → Spelt
  -- a number alone
  Literal : ℕ → Spelt
  -- any other value that is not wholly one pair of parentheses
  Value : Tree → Spelt
  -- a value in one pair of parentheses
  AtValue : Tree → Spelt

abbrev pub is_reserved : Token → Bool
is_reserved (Reserved name) = true
is_reserved t = false

-- A value has no reserved name but the operators.
abbrev pub has_reserved : List Token → Bool
has_reserved ts = list_any is_reserved ts

-- a name or a number alone, or a name in one pair of parentheses
abbrev pub atom_of : List Token → Option Spelt
atom_of (Reserved n ∷ []) = Some (Name n)
atom_of (Digits n ∷ []) = Some (Literal n)
atom_of (Num n ∷ []) = Some (Literal n)
atom_of (Open ∷ Reserved n ∷ Close ∷ []) = Some (AtName n)
atom_of ts = None

-- the tokens are wholly one pair of parentheses, with this expression inside
pub record IsEnclosed (ts : List Token) (e : Tree) : Type 0 where
  pub inside : List Token
  pub opens : ts ≡ Open ∷ inside
  pub spells : Spells 5 inside e (Close ∷ [])

-- all of the tokens are such an operand
pub data IsSpelt (ts : List Token) : Spelt → Type 0 where
  atom : {a : Spelt} → atom_of ts ≡ Some a → IsSpelt ts a
  value : {e : Tree} → atom_of ts ≡ None → has_reserved ts ≡ false → Spells 5 ts e [] → ((f : Tree) → IsEnclosed ts f → ⊥) → IsSpelt ts (Value e)
  at_value : {e : Tree} → atom_of ts ≡ None → has_reserved ts ≡ false → IsEnclosed ts e → IsSpelt ts (AtValue e)

-- ---- the classes of operands

pub data Class : Type 0 where
  -- this name alone, or in parentheses: it says which instruction it is, and is no operand in Intel's spelling
  Is : List ℕ → Class
  At : List ℕ → Class
  -- A B C D E H L
  Register : Class
  -- (HL)
  Memory : Class
  -- either of them
  Source : Class
  -- BC DE HL SP
  Pair : Class
  -- BC DE HL AF
  StackPair : Class
  -- (BC) (DE)
  Indirect : Class
  -- a value that is not wholly one pair of parentheses
  Bare : Class
  -- a value
  Any : Class
  -- a value in one pair of parentheses
  Cell : Class
  -- the number 0
  Zero : Class

-- names with those of Intel's spelling
abbrev pub Names : Type 0
Names = List (List ℕ × List ℕ)

unfoldable pub registers : Names
registers =
    (codes "A", codes "A") ∷ (codes "B", codes "B") ∷ (codes "C", codes "C") ∷ (codes "D", codes "D")
    ∷ (codes "E", codes "E") ∷ (codes "H", codes "H") ∷ (codes "L", codes "L") ∷ []

unfoldable pub memory : Names
memory = (codes "HL", codes "M") ∷ []

unfoldable pub pairs : Names
pairs = (codes "BC", codes "B") ∷ (codes "DE", codes "D") ∷ (codes "HL", codes "H") ∷ (codes "SP", codes "SP") ∷ []

unfoldable pub stack_pairs : Names
stack_pairs = (codes "BC", codes "B") ∷ (codes "DE", codes "D") ∷ (codes "HL", codes "H") ∷ (codes "AF", codes "PSW") ∷ []

unfoldable pub indirects : Names
indirects = (codes "BC", codes "B") ∷ (codes "DE", codes "D") ∷ []

-- ---- in Intel's spelling

abbrev pub renamed : Names → List ℕ → Option (List Operand)
renamed names n = option_map (λ (x : List ℕ × List ℕ). Whole (Named x.1) ∷ []) (find (λ (x : List ℕ × List ℕ). bytes_eq x.0 n) names)

abbrev pub nothing_if : Bool → Option (List Operand)
nothing_if same = if same then Some [] else None

-- of a name
abbrev pub of_name : Class → List ℕ → Option (List Operand)
of_name (Is name) n = nothing_if (bytes_eq name n)
of_name Register n = renamed registers n
of_name Source n = renamed registers n
of_name Pair n = renamed pairs n
of_name StackPair n = renamed stack_pairs n
of_name c n = None

-- of a name in parentheses
abbrev pub of_name_at : Class → List ℕ → Option (List Operand)
of_name_at (At name) n = nothing_if (bytes_eq name n)
of_name_at Memory n = renamed memory n
of_name_at Source n = renamed memory n
of_name_at Indirect n = renamed indirects n
of_name_at c n = None

abbrev pub whole : Tree → Option (List Operand)
whole e = Some (Whole e ∷ [])

abbrev pub zero_of : ℕ → Option (List Operand)
zero_of zero = whole (Number 0)
zero_of (suc n) = None

-- operands class spelt: what an operand of the class is, or that it is none of the class
abbrev pub operands : Class → Spelt → Option (List Operand)
operands c (Name n) = of_name c n
operands c (AtName n) = of_name_at c n
operands Zero (Literal n) = zero_of n
operands Bare (Literal n) = whole (Number n)
operands Any (Literal n) = whole (Number n)
operands Bare (Value e) = whole e
operands Any (Value e) = whole e
operands Any (AtValue e) = whole e
operands Cell (AtValue e) = whole e
operands c a = None
