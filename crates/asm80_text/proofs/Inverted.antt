-- A row of NOTs before a sum.
use Rattle.std.proofs.Common.{◌≡◌, suc, ◌+◌, List, [], ◌∷◌, drop, Option, Some, None, Err, refl, arith}
use Rattle.std.specs.List.{prefix_len}
use Rattle.asm80_types.specs.declared.expr.Two.{Two}
use Rattle.asm80_types.specs.declared.expr.Two.TheVariants.{Mul, Div, Mod, Shl, Shr, Add, Sub, And, Or, Xor}
use Rattle.asm80_text.specs.declared.fault.ParseFault.{ParseFault}
use Rattle.asm80_text.specs.declared.fault.ParseFault.TheVariants as faults
use Rattle.asm80_text.specs.declared.token.Token.{Token}
use Rattle.asm80_text.specs.declared.token.Token.TheVariants.{Not}
use Rattle.asm80_types.specs.Tree.{Tree}
use Rattle.asm80_text.specs.Grammar.{next_operator, Spells, Begins, Ends, EndsInside}
use Rattle.asm80_text.specs.TreeResults.{Sure, Never, Gives, IsNotOf, is_not, inverted}
use Rattle.asm80_text.proofs.Cases.{inverse_read, inverse_never, upright_read, upright_never, chain_starts, chain_never, chain_ends}

-- no operator has the level of NOT
no_three : (o : Option Two) → IsNotOf 3 o
no_three None = tt
no_three (Some Mul) = λ h. omega arith
no_three (Some Div) = λ h. omega arith
no_three (Some Mod) = λ h. omega arith
no_three (Some Shl) = λ h. omega arith
no_three (Some Shr) = λ h. omega arith
no_three (Some Add) = λ h. omega arith
no_three (Some Sub) = λ h. omega arith
no_three (Some And) = λ h. omega arith
no_three (Some Or) = λ h. omega arith
no_three (Some Xor) = λ h. omega arith

-- so an expression of that level is what it begins with
whole_three : (ts r : List Token) (e : Tree) → Sure (Begins 3 ts) (EndsInside 3) e r → Sure (Spells 3 ts) (Ends 3) e r
whole_three ts r e s = chain_ends 3 ts r e (chain_starts 3 ts r e s) (no_three (next_operator r))

pub row_read : (ts r : List Token) (e : Tree) → Sure (Spells 2 (drop (prefix_len is_not ts) ts)) (Ends 2) e r → Sure (Begins 3 ts) (EndsInside 3) (inverted (prefix_len is_not ts) e) r
row_read [] r e s = upright_read [] r e (λ rest x. cc) s
row_read (Not ∷ ts) r e s =
    let one : 1 + prefix_len is_not ts ≡ suc (prefix_len is_not ts) = omega arith in
    rw one (inverse_read (Not ∷ ts) ts r (inverted (prefix_len is_not ts) e) refl (whole_three ts r (inverted (prefix_len is_not ts) e) (row_read ts r e (rw one at s))))
row_read (t ∷ ts) r e s = upright_read (t ∷ ts) r e (λ rest x. cc) s

row_never : (ts : List Token) → Never (Spells 2 (drop (prefix_len is_not ts) ts)) (Ends 2) → Never (Begins 3 ts) (EndsInside 3)
row_never [] n = upright_never [] (λ rest x. cc) n
row_never (Not ∷ ts) n =
    let one : 1 + prefix_len is_not ts ≡ suc (prefix_len is_not ts) = omega arith in
    inverse_never (Not ∷ ts) ts refl (chain_never 3 ts (row_never ts (rw one at n)))
row_never (t ∷ ts) n = upright_never (t ∷ ts) (λ rest x. cc) n

pub row_fails : (ts behind : List Token) (f : ParseFault) → behind ≡ drop (prefix_len is_not ts) ts → Gives (Spells 2 behind) (Ends 2) (Err f) → Gives (Begins 3 ts) (EndsInside 3) (Err f)
row_fails ts behind faults.Memory e g = tt
row_fails ts behind faults.Malformed e g = row_never ts (rw e at g)
