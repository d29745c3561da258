-- What the functions on expressions return, by the definitions.
use Rattle.std.specs.Prelude.{◌≡◌, ℕ, List, Bool, true, false, zero, suc, Option, Some, None, Result, Ok, Err}
use Rattle.std.specs.Borrow.{Bor}
use Rattle.asm80_types.specs.declared.expr.Expr.{Expr}
use Rattle.asm80_types.specs.declared.expr.Two.{Two}
use Rattle.asm80_text.specs.declared.token.Token.{Token}
use Rattle.asm80_text.specs.declared.token.Token.TheVariants as tokens
use Rattle.asm80_text.specs.declared.fault.ParseFault.{ParseFault}
use Rattle.asm80_text.specs.declared.fault.ParseFault.TheVariants as parse
use Rattle.asm80_types.specs.Tree.{Tree, Number, Place, Named, tree_of, Inverted}
use Rattle.asm80_text.specs.Grammar.{level_of, next_operator}

-- The rule holds of this tree and this rest, at which it may end, and of no other with a rest at which it may end.
pub record Sure (rule : Tree → List Token → Type 0) (ends : List Token → Type 0) (e : Tree) (rest : List Token) : Type 0 where
  pub holds : rule e rest
  pub ended : ends rest
  pub only : (other : Tree) (r : List Token) → rule other r → ends r → (e ≡ other) × (rest ≡ r)

-- The rule holds of no tree with a rest at which it may end.
abbrev pub Never : (Tree → List Token → Type 0) → (List Token → Type 0) → Type 0
Never rule ends = (e : Tree) (r : List Token) → rule e r → ends r → ⊥

-- What a parser of a rule returned: the one tree and its rest, or that there is none, unless memory ran out.
abbrev pub Gives : (Tree → List Token → Type 0) → (List Token → Type 0) → Result (Expr × Bor (List Token)) ParseFault → Type 0
Gives rule ends (Ok x) = Sure rule ends (tree_of x.0) x.1.now
Gives rule ends (Err parse.Memory) = Unit {0}
Gives rule ends (Err parse.Malformed) = Never rule ends

-- the term that a token is by itself
abbrev pub term_of : Token → Option Tree
term_of (tokens.Digits n) = Some (Number n)
term_of (tokens.Num n) = Some (Number n)
term_of tokens.Here = Some Place
term_of (tokens.Word name) = Some (Named name)
term_of (tokens.Register name) = Some (Named name)
term_of _ = None

-- an operator, if there is one, is not of level k
abbrev pub IsNotOf : ℕ → Option Two → Type 0
IsNotOf k None = Unit {0}
IsNotOf k (Some o) = level_of o ≡ k → ⊥

-- the next token is no operator of level k
abbrev pub Stops : ℕ → List Token → Type 0
Stops k ts = IsNotOf k (next_operator ts)

abbrev pub is_not : Token → Bool
is_not tokens.Not = true
is_not _ = false

-- an expression under some number of NOTs
abbrev pub inverted : ℕ → Tree → Tree
inverted zero e = e
inverted (suc n) e = Inverted (inverted n e)
