-- The grammar of expressions, as a relation between tokens and a tree (CP/M 2.2 Operating System Manual, the assembler,
-- "Arithmetic and logical operators" and "Precedence of operators"; the order of the operators is this project's).
use Rattle.std.specs.Prelude.{◌≡◌, ℕ, zero, suc, ◌<◌, List, ◌∷◌, Option, Some, None}
use Rattle.asm80_types.specs.declared.expr.Two.{Two}
use Rattle.asm80_types.specs.declared.expr.Two.TheVariants.{Mul, Div, Mod, Shl, Shr, Add, Sub, And, Or, Xor}
use Rattle.asm80_types.specs.Tree.{Tree, Number, Place, Named, Inverted, Negated, Binary}
use Rattle.asm80_text.specs.declared.token.Token.{Token}
use Rattle.asm80_text.specs.declared.token.Token.TheVariants.{Digits, Num, Here, Word, Register, Op, Not, Open, Close}

-- how tightly an operator binds: 1 is the tightest
abbrev pub level_of : Two → ℕ
level_of Mul = 1
level_of Div = 1
level_of Mod = 1
level_of Shl = 1
level_of Shr = 1
level_of Add = 2
level_of Sub = 2
level_of And = 4
level_of Or = 5
level_of Xor = 5

-- Spells k ts e rest: the tokens ts begin with an expression e of level k, and rest is what follows it.
-- Level 0 has no operator, 1 has those of products, 2 those of sums, 3 NOT, 4 AND, 5 OR and XOR.
mutual
  pub data Spells : ℕ → List Token → Tree → List Token → Type 0 where
    -- a first operand alone
    alone : {k : ℕ} {ts rest : List Token} {e : Tree} → Begins k ts e rest → Spells k ts e rest
    -- an expression of this level, an operator of this level, and an expression of the next tighter level
    joined : {k : ℕ} {ts mid rest : List Token} {a b : Tree} {o : Two} → Spells (suc k) ts a (Op o ∷ mid) → level_of o ≡ suc k → Spells k mid b rest → Spells (suc k) ts (Binary o a b) rest

  -- the same of the first operand of a level
  pub data Begins : ℕ → List Token → Tree → List Token → Type 0 where
    digits : {n : ℕ} {ts : List Token} → Begins 0 (Digits n ∷ ts) (Number n) ts
    number : {n : ℕ} {ts : List Token} → Begins 0 (Num n ∷ ts) (Number n) ts
    here : {ts : List Token} → Begins 0 (Here ∷ ts) Place ts
    name : {bytes : List ℕ} {ts : List Token} → Begins 0 (Word bytes ∷ ts) (Named bytes) ts
    register : {bytes : List ℕ} {ts : List Token} → Begins 0 (Register bytes ∷ ts) (Named bytes) ts
    parens : {ts rest : List Token} {e : Tree} → Spells 5 ts e (Close ∷ rest) → Begins 0 (Open ∷ ts) e rest
    tighter : {k : ℕ} {ts rest : List Token} {e : Tree} → Spells k ts e rest → Begins (suc k) ts e rest
    -- one sign before the first product of a sum
    minus : {ts rest : List Token} {e : Tree} → Spells 1 ts e rest → Begins 2 (Op Sub ∷ ts) (Negated e) rest
    plus : {ts rest : List Token} {e : Tree} → Spells 1 ts e rest → Begins 2 (Op Add ∷ ts) e rest
    inverse : {ts rest : List Token} {e : Tree} → Spells 3 ts e rest → Begins 3 (Not ∷ ts) (Inverted e) rest

-- the operator that is the next token
abbrev pub next_operator : List Token → Option Two
next_operator (Op o ∷ ts) = Some o
next_operator _ = None

-- an operator, if there is one, binds looser than level k
abbrev pub IsLooser : ℕ → Option Two → Type 0
IsLooser k None = Unit {0}
IsLooser k (Some o) = k < level_of o

-- an expression of level k cannot go on here: the next token is no operator of level k or of a tighter one
abbrev pub Ends : ℕ → List Token → Type 0
Ends k ts = IsLooser k (next_operator ts)

-- the same for the levels inside level k
abbrev pub EndsInside : ℕ → List Token → Type 0
EndsInside zero ts = Unit {0}
EndsInside (suc k) ts = Ends k ts
