-- A chain of operators of one level, read from the left.
use Rattle.std.proofs.Common.{◌≡◌, ℕ, zero, suc, ◌<◌, List, ◌∷◌, length, refl, arith, Option, Some, None}
use Rattle.asm80_types.specs.declared.expr.Two.{Two}
use Rattle.asm80_types.specs.Tree.{Tree, Binary}
use Rattle.asm80_text.specs.declared.token.Token.{Token}
use Rattle.asm80_text.specs.declared.token.Token.TheVariants.{Op}
use Rattle.asm80_text.specs.Grammar.{level_of, next_operator, IsLooser, Spells, Begins, Ends, EndsInside, alone, joined, digits, number, here, name, register, parens, tighter, minus, plus, inverse}

-- From left with the tokens ts, operators of level n and their right operands lead to e with the tokens rest.
pub data Extends (n : ℕ) : Tree → List Token → Tree → List Token → Type 0 where
  done : {a : Tree} {ts : List Token} → Extends n a ts a ts
  step : {k : ℕ} {a b e : Tree} {o : Two} {mid ts rest : List Token} → n ≡ suc k → level_of o ≡ n → Spells k mid b ts → Ends k ts → Extends n (Binary o a b) ts e rest → Extends n a (Op o ∷ mid) e rest

snoc : (n k : ℕ) {a b e : Tree} {o : Two} {ts mid rest : List Token} → Extends n a ts e (Op o ∷ mid) → n ≡ suc k → level_of o ≡ n → Spells k mid b rest → Ends k rest → Extends n a ts (Binary o e b) rest
snoc n k done e lv s h = step e lv s h done
snoc n k (step e' lv' s' h' x) e lv s h = step e' lv' s' h' (snoc n k x e lv s h)

-- an operator that binds looser than a level ends it
ends_looser : (k : ℕ) (o : Two) (mid : List Token) → level_of o ≡ suc k → Ends k (Op o ∷ mid)
ends_looser k o mid h = omega arith

looser_inside : (k : ℕ) (o : Option Two) → IsLooser (suc k) o → IsLooser k o
looser_inside k None h = tt
looser_inside k (Some o) h = omega arith

ends_inside : (k : ℕ) (ts : List Token) → Ends (suc k) ts → Ends k ts
ends_inside k ts h = looser_inside k (next_operator ts) h

pub ends_inside_all : (k : ℕ) (ts : List Token) → Ends k ts → EndsInside k ts
ends_inside_all zero ts h = tt
ends_inside_all (suc k) ts h = ends_inside k ts h

-- how an expression of a level goes on from its first operand
pub record Unrolled (k : ℕ) (ts : List Token) (e : Tree) (rest : List Token) : Type 0 where
  pub first : Tree
  pub after : List Token
  pub begins : Begins k ts first after
  pub ends : EndsInside k after
  pub extends : Extends k first after e rest

pub unrolled : {k : ℕ} {ts rest : List Token} {e : Tree} → Spells k ts e rest → EndsInside k rest → Unrolled k ts e rest
unrolled (alone b) h = record { first = _; after = _; begins = b; ends = h; extends = done }
unrolled (joined {k = k} {mid = mid} {o = o} l lv r) h =
    let u = unrolled l (ends_looser k o mid lv) in
    record { first = u.first; after = u.after; begins = u.begins; ends = u.ends; extends = snoc (suc k) k u.extends refl lv r h }

-- what a loop over the operators of one level keeps
pub record Chained (n : ℕ) (tokens : List Token) (left : Tree) (rest : List Token) : Type 0 where
  pub so_far : Spells n tokens left rest
  pub ended : EndsInside n rest
  pub only : (e : Tree) (r : List Token) → Spells n tokens e r → Ends n r → Extends n left rest e r

mutual
  pub spells_shorter : {k : ℕ} {ts rest : List Token} {e : Tree} → Spells k ts e rest → length rest < length ts
  spells_shorter (alone b) = begins_shorter b
  spells_shorter (joined l lv r) = omega (arith, spells_shorter l, spells_shorter r)

  pub begins_shorter : {k : ℕ} {ts rest : List Token} {e : Tree} → Begins k ts e rest → length rest < length ts
  begins_shorter digits = omega arith
  begins_shorter number = omega arith
  begins_shorter here = omega arith
  begins_shorter name = omega arith
  begins_shorter register = omega arith
  begins_shorter (parens s) = omega (arith, spells_shorter s)
  begins_shorter (tighter s) = spells_shorter s
  begins_shorter (minus s) = omega (arith, spells_shorter s)
  begins_shorter (plus s) = omega (arith, spells_shorter s)
  begins_shorter (inverse s) = omega (arith, spells_shorter s)
