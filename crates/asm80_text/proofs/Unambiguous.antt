-- Tokens spell one expression.
use Rattle.std.proofs.Common.{◌≡◌, ℕ, zero, suc, ◌<◌, ◌≤◌, ◌+◌, ◌*◌, List, ◌∷◌, length, refl, ap, arith}
use Rattle.asm80_types.specs.Tree.{Tree, Inverted, Negated, Binary}
use Rattle.asm80_text.specs.declared.token.Token.{Token}
use Rattle.asm80_text.specs.declared.token.Token.TheVariants.{Close}
use Rattle.asm80_text.specs.Grammar.{Spells, Begins, Ends, EndsInside, alone, digits, number, here, name, register, parens, tighter, minus, plus, inverse}
use Rattle.asm80_text.specs.TreeResults.{Sure}
use Rattle.asm80_text.proofs.Chain.{Extends, done, step, unrolled, ends_inside_all, spells_shorter, begins_shorter}
use Rattle.asm80_text.proofs.Cases.{ends_three, no_operator, no_not}

-- what two readings of the same tokens have in common
pub record Same (e f : Tree) (r s : List Token) : Type 0 where
  pub trees : e ≡ f
  pub rests : r ≡ s

-- what is known of all shorter or tighter readings: the measure of a reading at level k of m tokens is 6 * m + k
abbrev Known : ℕ → Type 0
Known d = (k : ℕ) (ts r s : List Token) (e f : Tree) → 6 * length ts + k < d → k ≤ 5 → Spells k ts e r → Spells k ts f s → Ends k r → Ends k s → Same e f r s

close_same : (r s : List Token) → ◌≡◌ {A = List Token} (Close ∷ r) (Close ∷ s) → r ≡ s
close_same r s e = cc

begins_once : (d : ℕ) → Known d → (k : ℕ) (ts r s : List Token) (e f : Tree) → 6 * length ts + k ≤ d → k ≤ 5 → Begins k ts e r → Begins k ts f s → EndsInside k r → EndsInside k s → Same e f r s
begins_once d known k ts r s e f le five digits digits x y = record { trees = refl; rests = refl }
begins_once d known k ts r s e f le five number number x y = record { trees = refl; rests = refl }
begins_once d known k ts r s e f le five here here x y = record { trees = refl; rests = refl }
begins_once d known k ts r s e f le five name name x y = record { trees = refl; rests = refl }
begins_once d known k ts r s e f le five register register x y = record { trees = refl; rests = refl }
begins_once d known k ts r s e f le five (parens {ts = us} a) (parens b) x y =
    let h = known 5 us (Close ∷ r) (Close ∷ s) e f (omega arith) (omega arith) a b tt tt in record { trees = h.trees; rests = close_same r s h.rests }
begins_once d known k ts r s e f le five (tighter {k = j} a) (tighter b) x y = known j ts r s e f (omega arith) (omega arith) a b x y
begins_once d known k ts r s e f le five (tighter a) (minus b) x y = absurd (no_operator a (omega arith))
begins_once d known k ts r s e f le five (tighter a) (plus b) x y = absurd (no_operator a (omega arith))
begins_once d known k ts r s e f le five (tighter a) (inverse b) x y = absurd (no_not a (omega arith))
begins_once d known k ts r s e f le five (minus a) (tighter b) x y = absurd (no_operator b (omega arith))
begins_once d known k ts r s e f le five (minus {ts = us} {e = g} a) (minus {e = h} b) x y = let t = known 1 us r s g h (omega arith) (omega arith) a b x y in record { trees = ap Negated t.trees; rests = t.rests }
begins_once d known k ts r s e f le five (plus a) (tighter b) x y = absurd (no_operator b (omega arith))
begins_once d known k ts r s e f le five (plus {ts = us} a) (plus b) x y = known 1 us r s e f (omega arith) (omega arith) a b x y
begins_once d known k ts r s e f le five (inverse a) (tighter b) x y = absurd (no_not b (omega arith))
begins_once d known k ts r s e f le five (inverse {ts = us} {e = g} a) (inverse {e = h} b) x y = let t = known 3 us r s g h (omega arith) (omega arith) a b (ends_three r x) (ends_three s y) in record { trees = ap Inverted t.trees; rests = t.rests }

extends_once : (d : ℕ) → Known d → (n : ℕ) (a : Tree) (ts r s : List Token) (e f : Tree) → 6 * length ts ≤ d → n ≤ 5 → Extends n a ts e r → Extends n a ts f s → Ends n r → Ends n s → Same e f r s
extends_once d known n a ts r s e f le five done done x y = record { trees = refl; rests = refl }
extends_once d known n a ts r s e f le five done (step p lv u en v) x y = absurd (omega arith)
extends_once d known n a ts r s e f le five (step p lv u en v) done x y = absurd (omega arith)
extends_once d known n a ts r s e f le five (step {k = j} {b = b} {o = o} {mid = mid} {ts = us} p lv u en v) (step {k = i} {b = c} {ts = vs} p' lv' u' en' v') x y =
    let q : i ≡ j = omega arith in
    let h = known j mid us vs b c (omega arith) (omega arith) u (rw q at u') en (rw q at en') in
    let shorter = spells_shorter u in
    extends_once d known n (Binary o a b) us r s e f (omega arith) five v (rw (← h.trees, ← h.rests) at v') x y

spells_once : (d : ℕ) → Known d → (k : ℕ) (ts r s : List Token) (e f : Tree) → 6 * length ts + k ≤ d → k ≤ 5 → Spells k ts e r → Spells k ts f s → Ends k r → Ends k s → Same e f r s
spells_once d known k ts r s e f le five a b x y =
    let u = unrolled a (ends_inside_all k r x) in
    let v = unrolled b (ends_inside_all k s y) in
    let h = begins_once d known k ts u.after v.after u.first v.first le five u.begins v.begins u.ends v.ends in
    let shorter = begins_shorter u.begins in
    extends_once d known k u.first u.after r s e f (omega arith) five u.extends (rw (← h.trees, ← h.rests) at v.extends) x y

known_all : (d : ℕ) → Known d
known_all zero = λ k ts r s e f lt five a b x y. absurd (omega arith)
known_all (suc d) = λ k ts r s e f lt five a b x y. spells_once d (known_all d) k ts r s e f (omega arith) five a b x y

-- of each level there is one expression up to where it ends
pub one_expression : (k : ℕ) (ts r s : List Token) (e f : Tree) → k ≤ 5 → Spells k ts e r → Spells k ts f s → Ends k r → Ends k s → Same e f r s
one_expression k ts r s e f five a b x y = known_all (suc (6 * length ts + k)) k ts r s e f (omega arith) five a b x y

-- ---- a term alone

at_each_level : (k : ℕ) {ts rest : List Token} {e : Tree} → Begins 0 ts e rest → Spells k ts e rest
at_each_level zero b = alone b
at_each_level (suc k) b = alone (tighter (at_each_level k b))

-- a term that an operator of the level does not follow is the expression of that level
pub term_sure : (k : ℕ) (ts rest : List Token) (e : Tree) → k ≤ 5 → Begins 0 ts e rest → Ends k rest → Sure (Spells k ts) (Ends k) e rest
term_sure k ts rest e five b x = record {
  holds = at_each_level k b;
  ended = x;
  only = λ o r s y. let h = one_expression k ts rest r e o five (at_each_level k b) s x y in (h.trees, h.rests);
}
