-- What an expression begins with, and what each way to begin leaves.
use Rattle.std.proofs.Common.{◌≡◌, ◌≢◌, ℕ, zero, suc, ◌<◌, ◌-◌, List, [], ◌∷◌, refl, sym, ap, subst, ◌∙◌, arith, Option, Some, None, Result, Ok, Err}
use Rattle.asm80_types.specs.declared.expr.Two.{Two}
use Rattle.asm80_types.specs.declared.expr.Two.TheVariants.{Mul, Div, Mod, Shl, Shr, Add, Sub, And, Or, Xor}
use Rattle.std.specs.Borrow.{Bor}
use Rattle.std.proofs.lemmas.Option.{same_Some}
use Rattle.asm80_types.specs.declared.expr.Expr.{Expr}
use Rattle.asm80_types.specs.Tree.{tree_of, Tree, Number, Place, Named, Inverted, Negated, Binary}
use Rattle.asm80_text.specs.declared.token.Token.{Token}
use Rattle.asm80_text.specs.declared.token.Token.TheVariants.{Digits, Num, Here, Word, Register, Op, Not, Open, Close}
use Rattle.asm80_text.specs.declared.fault.ParseFault.{ParseFault}
use Rattle.asm80_text.specs.declared.fault.ParseFault.TheVariants as faults
use Rattle.asm80_text.specs.TreeResults.{Sure, Never, Gives, Stops, IsNotOf, term_of}
use Rattle.asm80_text.specs.Grammar.{level_of, next_operator, IsLooser, Spells, Begins, Ends, EndsInside, alone, joined, digits, number, here, name, register, parens, tighter, minus, plus, inverse}
use Rattle.asm80_text.proofs.Chain.{Extends, done, step, Chained, unrolled, ends_inside_all}

-- ---- operands

term_begins : (t : Token) (rest : List Token) (e : Tree) → term_of t ≡ Some e → Begins 0 (t ∷ rest) e rest
term_begins (Digits n) rest e h = rw (sym (same_Some (Number n) e h)) digits
term_begins (Num n) rest e h = rw (sym (same_Some (Number n) e h)) number
term_begins Here rest e h = rw (sym (same_Some Place e h)) here
term_begins (Word n) rest e h = rw (sym (same_Some (Named n) e h)) name
term_begins (Register n) rest e h = rw (sym (same_Some (Named n) e h)) register
term_begins _ rest e h = absurd cc

term_is : {t : Token} {rest r : List Token} {e f : Tree} → term_of t ≡ Some e → Begins 0 (t ∷ rest) f r → (e ≡ f) × (rest ≡ r)
term_is {e = e} h (digits {n = n}) = (sym (same_Some (Number n) e h), refl)
term_is {e = e} h (number {n = n}) = (sym (same_Some (Number n) e h), refl)
term_is {e = e} h here = (sym (same_Some Place e h), refl)
term_is {e = e} h (name {bytes = n}) = (sym (same_Some (Named n) e h), refl)
term_is {e = e} h (register {bytes = n}) = (sym (same_Some (Named n) e h), refl)
term_is h (parens s) = absurd cc

parens_is : {ts r : List Token} {e : Tree} → Begins 0 (Open ∷ ts) e r → Spells 5 ts e (Close ∷ r)
parens_is (parens s) = s

-- ---- an operator or NOT begins no operand and no product

mutual
  pub no_operator : {k : ℕ} {o : Two} {ts r : List Token} {e : Tree} → Spells k (Op o ∷ ts) e r → k < 2 → ⊥
  no_operator (alone b) h = no_operator_begins b h
  no_operator (joined l lv x) h = no_operator l h

  no_operator_begins : {k : ℕ} {o : Two} {ts r : List Token} {e : Tree} → Begins k (Op o ∷ ts) e r → k < 2 → ⊥
  no_operator_begins (tighter s) h = no_operator s (omega arith)
  no_operator_begins (minus s) h = omega arith
  no_operator_begins (plus s) h = omega arith

mutual
  pub no_not : {k : ℕ} {ts r : List Token} {e : Tree} → Spells k (Not ∷ ts) e r → k < 3 → ⊥
  no_not (alone b) h = no_not_begins b h
  no_not (joined l lv x) h = no_not l h

  no_not_begins : {k : ℕ} {ts r : List Token} {e : Tree} → Begins k (Not ∷ ts) e r → k < 3 → ⊥
  no_not_begins (tighter s) h = no_not s (omega arith)
  no_not_begins (inverse s) h = omega arith

minus_is : {ts r : List Token} {e : Tree} → Begins 2 (Op Sub ∷ ts) e r → (inner : Tree) × (Negated inner ≡ e) × Spells 1 ts inner r
minus_is (minus s) = (_, refl, s)
minus_is (tighter s) = absurd (no_operator s (omega arith))

plus_is : {ts r : List Token} {e : Tree} → Begins 2 (Op Add ∷ ts) e r → Spells 1 ts e r
plus_is (plus s) = s
plus_is (tighter s) = absurd (no_operator s (omega arith))

inverse_is : {ts r : List Token} {e : Tree} → Begins 3 (Not ∷ ts) e r → (inner : Tree) × (Inverted inner ≡ e) × Spells 3 ts inner r
inverse_is (inverse s) = (_, refl, s)
inverse_is (tighter s) = absurd (no_not s (omega arith))

tighter_is : {n : ℕ} {ts r : List Token} {e : Tree} → Begins n ts e r → n ≢ 0 → n ≢ 2 → n ≢ 3 → Spells (n - 1) ts e r
tighter_is digits a b c = absurd (a refl)
tighter_is number a b c = absurd (a refl)
tighter_is here a b c = absurd (a refl)
tighter_is name a b c = absurd (a refl)
tighter_is register a b c = absurd (a refl)
tighter_is (parens s) a b c = absurd (a refl)
tighter_is (tighter {k = k} s) a b c = let e : suc k - 1 ≡ k = omega arith in rw e s
tighter_is (minus s) a b c = absurd (b refl)
tighter_is (plus s) a b c = absurd (b refl)
tighter_is (inverse s) a b c = absurd (c refl)

-- ---- operands, as the reader meets them

abbrev pub Operand : List Token → Tree → List Token → Type 0
Operand ts = Sure (Begins 0 ts) (EndsInside 0)

pub term_first : (ts rest : List Token) (t : Token) (e : Tree) → ts ≡ t ∷ rest → term_of t ≡ Some e → Begins 0 ts e rest
term_first ts rest t e p h = rw p (term_begins t rest e h)

pub term_read : (ts rest : List Token) (t : Token) (e : Tree) → ts ≡ t ∷ rest → term_of t ≡ Some e → Operand ts e rest
term_read ts rest t e p h = rw p (record { holds = term_begins t rest e h; ended = tt; only = λ o r b x. term_is h b })

pub parens_read : (ts after rest : List Token) (e : Tree) → after ≡ Close ∷ rest → Sure (Spells 5 ts) (Ends 5) e after → Operand (Open ∷ ts) e rest
parens_read ts after rest e p s = record {
  holds = parens (rw p at s.holds);
  ended = tt;
  only = λ o r b h. let f = s.only o (Close ∷ r) (parens_is b) tt in (f.0, cc (p, f.1));
}

empty_is : {ts r : List Token} {e : Tree} → ts ≡ [] → Begins 0 ts e r → ⊥
empty_is none (digits) = absurd cc
empty_is none (number) = absurd cc
empty_is none (here) = absurd cc
empty_is none (name) = absurd cc
empty_is none (register) = absurd cc
empty_is none (parens s) = absurd cc

pub nothing_never : (ts : List Token) → ts ≡ [] → Never (Begins 0 ts) (EndsInside 0)
nothing_never ts none e r b ends = empty_is none b

stray_is : {t : Token} {ts r : List Token} {e : Tree} → term_of t ≡ None → (t ≡ Open → ⊥) → Begins 0 (t ∷ ts) e r → ⊥
stray_is none shut digits = absurd cc
stray_is none shut number = absurd cc
stray_is none shut here = absurd cc
stray_is none shut name = absurd cc
stray_is none shut register = absurd cc
stray_is none shut (parens s) = shut refl

pub stray_never : (ts rest : List Token) (t : Token) → ts ≡ t ∷ rest → term_of t ≡ None → (t ≡ Open → ⊥) → Never (Begins 0 ts) (EndsInside 0)
stray_never ts rest t is none shut e r b ends = let Begun : List Token → Type 0 = λ us. Begins 0 us e r in stray_is none shut (subst Begun is b)

pub parens_never : (ts : List Token) → Never (Spells 5 ts) (Ends 5) → Never (Begins 0 (Open ∷ ts)) (EndsInside 0)
parens_never ts never e r b ends = never e (Close ∷ r) (parens_is b) tt

pub unclosed_never : (ts after : List Token) (e : Tree) → Sure (Spells 5 ts) (Ends 5) e after → ((rest : List Token) → after ≢ Close ∷ rest) → Never (Begins 0 (Open ∷ ts)) (EndsInside 0)
unclosed_never ts after e sure unclosed other r b ends = unclosed r (sure.only other (Close ∷ r) (parens_is b) tt).1

-- ---- signs and NOT

pub minus_read : (ts rest r : List Token) (e : Tree) → ts ≡ Op Sub ∷ rest → Sure (Spells 1 rest) (Ends 1) e r → Sure (Begins 2 ts) (EndsInside 2) (Negated e) r
minus_read ts rest r e p s = rw p (record {
  holds = minus s.holds;
  ended = s.ended;
  only = λ o t b h. let m = minus_is b in let f = s.only m.0 t m.2 h in (cc (f.0, m.1), f.1);
})

pub plus_read : (ts rest r : List Token) (e : Tree) → ts ≡ Op Add ∷ rest → Sure (Spells 1 rest) (Ends 1) e r → Sure (Begins 2 ts) (EndsInside 2) e r
plus_read ts rest r e p s = rw p (record { holds = plus s.holds; ended = s.ended; only = λ o t b h. s.only o t (plus_is b) h })

-- no operator has the level of NOT
looser_three : (o : Option Two) → IsLooser 2 o → IsLooser 3 o
looser_three None h = tt
looser_three (Some Mul) h = omega arith
looser_three (Some Div) h = omega arith
looser_three (Some Mod) h = omega arith
looser_three (Some Shl) h = omega arith
looser_three (Some Shr) h = omega arith
looser_three (Some Add) h = omega arith
looser_three (Some Sub) h = omega arith
looser_three (Some And) h = omega arith
looser_three (Some Or) h = omega arith
looser_three (Some Xor) h = omega arith

pub ends_three : (ts : List Token) → Ends 2 ts → Ends 3 ts
ends_three ts h = looser_three (next_operator ts) h

pub inverse_read : (ts rest r : List Token) (e : Tree) → ts ≡ Not ∷ rest → Sure (Spells 3 rest) (Ends 3) e r → Sure (Begins 3 ts) (EndsInside 3) (Inverted e) r
inverse_read ts rest r e p s = rw p (record {
  holds = inverse s.holds;
  ended = ends_inside_all 3 r s.ended;
  only = λ o t b h. let m = inverse_is b in let f = s.only m.0 t m.2 (ends_three t h) in (ap Inverted f.0 ∙ m.1, f.1);
})

pub inverse_never : (ts rest : List Token) → ts ≡ Not ∷ rest → Never (Spells 3 rest) (Ends 3) → Never (Begins 3 ts) (EndsInside 3)
inverse_never ts rest p n = rw p (λ o t b h. let m = inverse_is b in n m.0 t m.2 (ends_three t h))

-- ---- a tighter level

ends_before : (n : ℕ) (ts : List Token) → n ≢ 0 → EndsInside n ts → Ends (n - 1) ts
ends_before zero ts ne h = absurd (ne refl)
ends_before (suc k) ts ne h = let e : suc k - 1 ≡ k = omega arith in rw e h

ends_behind : (n : ℕ) (ts : List Token) → n ≢ 0 → Ends (n - 1) ts → EndsInside n ts
ends_behind zero ts ne h = tt
ends_behind (suc k) ts ne h = let e : suc k - 1 ≡ k = omega arith in rw e at h

begins_tighter : (n : ℕ) (ts r : List Token) (e : Tree) → n ≢ 0 → Spells (n - 1) ts e r → Begins n ts e r
begins_tighter zero ts r e ne s = absurd (ne refl)
begins_tighter (suc k) ts r e ne s = let p : suc k - 1 ≡ k = omega arith in tighter (rw p at s)

pub tighter_read : (n : ℕ) (ts r : List Token) (e : Tree) → n ≢ 0 → n ≢ 2 → n ≢ 3 → Sure (Spells (n - 1) ts) (Ends (n - 1)) e r → Sure (Begins n ts) (EndsInside n) e r
tighter_read n ts r e a b c s = record {
  holds = begins_tighter n ts r e a s.holds;
  ended = ends_behind n r a s.ended;
  only = λ o t x h. s.only o t (tighter_is x a b c) (ends_before n t a h);
}

pub tighter_never : (n : ℕ) (ts : List Token) → n ≢ 0 → n ≢ 2 → n ≢ 3 → Never (Spells (n - 1) ts) (Ends (n - 1)) → Never (Begins n ts) (EndsInside n)
tighter_never n ts a b c s = λ o t x h. s o t (tighter_is x a b c) (ends_before n t a h)

-- a sum with no sign before it
unsigned_is : {ts r : List Token} {e : Tree} → Begins 2 ts e r → Stops 2 ts → Spells 1 ts e r
unsigned_is (minus s) a = absurd (a refl)
unsigned_is (plus s) a = absurd (a refl)
unsigned_is (tighter s) a = s

pub unsigned_read : (ts r : List Token) (e : Tree) → Stops 2 ts → Sure (Spells 1 ts) (Ends 1) e r → Sure (Begins 2 ts) (EndsInside 2) e r
unsigned_read ts r e a s = record { holds = tighter s.holds; ended = s.ended; only = λ o t x h. s.only o t (unsigned_is x a) h }

pub unsigned_never : (ts : List Token) → Stops 2 ts → Never (Spells 1 ts) (Ends 1) → Never (Begins 2 ts) (EndsInside 2)
unsigned_never ts a n = λ o t x h. n o t (unsigned_is x a) h

signed_is : {o : Two} {ts r : List Token} {e : Tree} → Begins 2 (Op o ∷ ts) e r → (inner : Tree) × Spells 1 ts inner r
signed_is (minus s) = (_, s)
signed_is (plus s) = (_, s)
signed_is (tighter s) = absurd (no_operator s (omega arith))

pub signed_never : (o : Two) (ts rest : List Token) → ts ≡ Op o ∷ rest → Never (Spells 1 rest) (Ends 1) → Never (Begins 2 ts) (EndsInside 2)
signed_never o ts rest p n = rw p (λ e t b h. let m = signed_is b in n m.0 t m.1 h)

pub added : (o : Two) (ts rest r : List Token) (e : Tree) → o ≡ Add → ts ≡ Op o ∷ rest → Sure (Spells 1 rest) (Ends 1) e r → Sure (Begins 2 ts) (EndsInside 2) e r
added o ts rest r e q p s = plus_read ts rest r e (p ∙ ap (λ x. Op x ∷ rest) q) s

minus_left : (o : Two) → level_of o ≡ 2 → o ≢ Add → o ≡ Sub
minus_left Add lv ne = absurd (ne refl)
minus_left Sub lv ne = refl
minus_left Mul lv ne = absurd (omega arith)
minus_left Div lv ne = absurd (omega arith)
minus_left Mod lv ne = absurd (omega arith)
minus_left Shl lv ne = absurd (omega arith)
minus_left Shr lv ne = absurd (omega arith)
minus_left And lv ne = absurd (omega arith)
minus_left Or lv ne = absurd (omega arith)
minus_left Xor lv ne = absurd (omega arith)

pub taken_off : (o : Two) (ts rest r : List Token) (e : Tree) → level_of o ≡ 2 → o ≢ Add → ts ≡ Op o ∷ rest → Sure (Spells 1 rest) (Ends 1) e r → Sure (Begins 2 ts) (EndsInside 2) (Negated e) r
taken_off o ts rest r e lv ne p s = minus_read ts rest r e (p ∙ ap (λ x. Op x ∷ rest) (minus_left o lv ne)) s

upright_is : {ts r : List Token} {e : Tree} → Begins 3 ts e r → ((rest : List Token) → ts ≢ Not ∷ rest) → Spells 2 ts e r
upright_is (inverse {ts = ts} s) a = absurd (a ts refl)
upright_is (tighter s) a = s

pub upright_read : (ts r : List Token) (e : Tree) → ((rest : List Token) → ts ≢ Not ∷ rest) → Sure (Spells 2 ts) (Ends 2) e r → Sure (Begins 3 ts) (EndsInside 3) e r
upright_read ts r e a s = record { holds = tighter s.holds; ended = s.ended; only = λ o t x h. s.only o t (upright_is x a) h }

pub upright_never : (ts : List Token) → ((rest : List Token) → ts ≢ Not ∷ rest) → Never (Spells 2 ts) (Ends 2) → Never (Begins 3 ts) (EndsInside 3)
upright_never ts a n = λ o t x h. n o t (upright_is x a) h

-- ---- a chain

no_zero : (o : Two) → level_of o ≡ 0 → ⊥
no_zero Mul h = omega arith
no_zero Div h = omega arith
no_zero Mod h = omega arith
no_zero Shl h = omega arith
no_zero Shr h = omega arith
no_zero Add h = omega arith
no_zero Sub h = omega arith
no_zero And h = omega arith
no_zero Or h = omega arith
no_zero Xor h = omega arith

pub chain_starts : (n : ℕ) (ts rest : List Token) (a : Tree) → Sure (Begins n ts) (EndsInside n) a rest → Chained n ts a rest
chain_starts n ts rest a s = record {
  so_far = alone s.holds;
  ended = s.ended;
  only = λ e r x h.
      let u = unrolled x (ends_inside_all n r h) in
      let f = s.only u.first u.after u.begins u.ends in
      rw (f.0, f.1) u.extends;
}

pub chain_never : (n : ℕ) (ts : List Token) → Never (Begins n ts) (EndsInside n) → Never (Spells n ts) (Ends n)
chain_never n ts s = λ e r x h. let u = unrolled x (ends_inside_all n r h) in s u.first u.after u.begins u.ends

-- from an operator of the level a chain goes on with its right operand
extends_on : {n : ℕ} {a e : Tree} {o : Two} {after r : List Token} → Extends n a (Op o ∷ after) e r → level_of o ≡ n → Ends n r → (b : Tree) (more : List Token) → Sure (Spells (n - 1) after) (Ends (n - 1)) b more → Extends n (Binary o a b) more e r
extends_on done lv h b more s = absurd (omega arith)
extends_on {n} (step {k = k} {b = b'} {ts = ts} p lv' x en y) lv h b more s =
    let q : n - 1 ≡ k = omega arith in
    let f = s.only b' ts (rw q x) (rw q en) in
    rw (f.0, f.1) y

extends_never : {n : ℕ} {a e : Tree} {o : Two} {after r : List Token} → Extends n a (Op o ∷ after) e r → level_of o ≡ n → Ends n r → Never (Spells (n - 1) after) (Ends (n - 1)) → ⊥
extends_never done lv h s = omega arith
extends_never {n} (step {k = k} {b = b'} {ts = ts} p lv' x en y) lv h s =
    let q : n - 1 ≡ k = omega arith in s b' ts (rw q x) (rw q en)

joins : (n : ℕ) (ts after more : List Token) (a b : Tree) (o : Two) → Spells n ts a (Op o ∷ after) → level_of o ≡ n → Spells (n - 1) after b more → Spells n ts (Binary o a b) more
joins zero ts after more a b o x lv y = absurd (no_zero o lv)
joins (suc k) ts after more a b o x lv y = let q : suc k - 1 ≡ k = omega arith in joined x lv (rw q at y)

pub chain_goes_on : (n : ℕ) (ts rest after more : List Token) (a b : Tree) (o : Two) → Chained n ts a rest → rest ≡ Op o ∷ after → level_of o ≡ n → Sure (Spells (n - 1) after) (Ends (n - 1)) b more → Chained n ts (Binary o a b) more
chain_goes_on n ts rest after more a b o c p lv s = record {
  so_far = joins n ts after more a b o (rw p at c.so_far) lv s.holds;
  ended = ends_behind n more (λ z. no_zero o (lv ∙ z)) s.ended;
  only = λ e r x h. extends_on (rw p at (c.only e r x h)) lv h b more s;
}

pub chain_breaks : (n : ℕ) (ts rest after : List Token) (a : Tree) (o : Two) → Chained n ts a rest → rest ≡ Op o ∷ after → level_of o ≡ n → Never (Spells (n - 1) after) (Ends (n - 1)) → Never (Spells n ts) (Ends n)
chain_breaks n ts rest after a o c p lv s = λ e r x h. extends_never (rw p at (c.only e r x h)) lv h s

-- no operator has level 0
positive : (o : Two) → 0 < level_of o
positive Mul = omega arith
positive Div = omega arith
positive Mod = omega arith
positive Shl = omega arith
positive Shr = omega arith
positive Add = omega arith
positive Sub = omega arith
positive And = omega arith
positive Or = omega arith
positive Xor = omega arith

looser_zero : (o : Option Two) → IsNotOf 0 o → IsLooser 0 o
looser_zero None st = tt
looser_zero (Some o) st = positive o

above_next : (k l : ℕ) → k < l → l ≢ suc k → suc k < l
above_next k zero h st = absurd (omega arith)
above_next zero (suc zero) h st = absurd (st refl)
above_next zero (suc (suc l)) h st = omega arith
above_next (suc k) (suc l) h st = let r = above_next k l (omega arith) (λ e. st (ap suc e)) in omega arith

looser_next : (k : ℕ) (o : Option Two) → IsLooser k o → IsNotOf (suc k) o → IsLooser (suc k) o
looser_next k None h st = tt
looser_next k (Some o) h st = above_next k (level_of o) h st

-- where no tighter operator and none of this level stands next, an expression of this level ends
ends_stopped : (n : ℕ) (ts : List Token) → EndsInside n ts → Stops n ts → Ends n ts
ends_stopped zero ts h st = looser_zero (next_operator ts) st
ends_stopped (suc k) ts h st = looser_next k (next_operator ts) h st

extends_ends : {n : ℕ} {a e : Tree} {ts r : List Token} → Extends n a ts e r → Stops n ts → (a ≡ e) × (ts ≡ r)
extends_ends done st = (refl, refl)
extends_ends (step p lv x en y) st = absurd (st lv)

pub chain_ends : (n : ℕ) (ts rest : List Token) (a : Tree) → Chained n ts a rest → Stops n rest → Sure (Spells n ts) (Ends n) a rest
chain_ends n ts rest a c st = record { holds = c.so_far; ended = ends_stopped n rest c.ended st; only = λ e r x h. extends_ends (c.only e r x h) st }

-- ---- what is passed on

pub gives_on : (r1 r2 : Tree → List Token → Type 0) (e1 e2 : List Token → Type 0) (result : Result (Expr × Bor (List Token)) ParseFault)
    → ((e : Tree) (r : List Token) → Sure r1 e1 e r → Sure r2 e2 e r) → (Never r1 e1 → Never r2 e2) → Gives r1 e1 result → Gives r2 e2 result
gives_on r1 r2 e1 e2 (Ok x) f g h = f (tree_of x.0) x.1.now h
gives_on r1 r2 e1 e2 (Err faults.Memory) f g h = tt
gives_on r1 r2 e1 e2 (Err faults.Malformed) f g h = g h

-- the exit of a `?`
pub fails_on : (r1 r2 : Tree → List Token → Type 0) (e1 e2 : List Token → Type 0) (e : ParseFault)
    → (Never r1 e1 → Never r2 e2) → Gives r1 e1 (Err e) → Gives r2 e2 (Err e)
fails_on r1 r2 e1 e2 faults.Memory g h = tt
fails_on r1 r2 e1 e2 faults.Malformed g h = g h
