-- How an operand is spelt: in one way, and with numbers in range.
use Rattle.std.proofs.Common.{◌≡◌, List, [], ◌∷◌, Option, Some, None, sym, ap, ◌∙◌, subst, arith}
use Rattle.std.specs.List.{AllByRecursion}
use Rattle.asm80_types.specs.Tree.{Tree, Whole}
use Rattle.asm80_types.specs.Ranges.{IsInRange}
use Rattle.asm80_text.specs.declared.token.Token.{Token}
use Rattle.asm80_text.specs.declared.token.Token.TheVariants.{Digits, Num, Register as Reserved, Open, Close}
use Rattle.asm80_text.specs.Small.{AreSmall}
use Rattle.asm80_text.specs.Grammar.{Spells, alone, tighter, parens}
use Rattle.asm80_text.specs.Statement.{value as expression, last, full}
use Rattle.asm80_text.proofs.Unambiguous.{one_expression}
use Rattle.asm80_text.proofs.Ranges.{list_range}
use Rattle.zilog80.specs.Operands.{Spelt, Name, AtName, Literal, Value, AtValue, atom_of, IsEnclosed, IsSpelt, atom, value, at_value}
use Rattle.zilog80.specs.Read.{value_in}

-- ---- one way

some_is : {X : Type 0} (x y : X) → ◌≡◌ {A = Option X} (Some x) (Some y) → x ≡ y
some_is x y e = cc

some_none : {X : Type 0} (x : X) (o : Option X) → o ≡ Some x → o ≡ None → ⊥
some_none x o e f = cc

tail_is : (ts us : List Token) → ◌≡◌ {A = List Token} (Open ∷ ts) (Open ∷ us) → ts ≡ us
tail_is ts us e = cc

one_whole : (ts : List Token) (e f : Tree) → Spells 5 ts e [] → Spells 5 ts f [] → e ≡ f
one_whole ts e f x y = (one_expression 5 ts [] [] e f (omega arith) x y tt tt).trees

one_enclosed : (ts : List Token) (e f : Tree) → IsEnclosed ts e → IsEnclosed ts f → e ≡ f
one_enclosed ts e f x y =
    let same = tail_is y.inside x.inside (sym y.opens ∙ x.opens) in
    (one_expression 5 x.inside (Close ∷ []) (Close ∷ []) e f (omega arith) x.spells (subst (λ us. Spells 5 us f (Close ∷ [])) same y.spells) tt tt).trees

pub one_spelt : {ts : List Token} {a b : Spelt} → IsSpelt ts a → IsSpelt ts b → a ≡ b
one_spelt {ts} {a} {b} (atom e) (atom f) = some_is a b (sym e ∙ f)
one_spelt {ts} {a} (atom e) (value n h s q) = absurd (some_none a (atom_of ts) e n)
one_spelt {ts} {a} (atom e) (at_value n h s) = absurd (some_none a (atom_of ts) e n)
one_spelt {ts} {a} {b} (value n h s q) (atom f) = absurd (some_none b (atom_of ts) f n)
one_spelt {ts} (value {e = e} n h s q) (value {e = f} m k t r) = ap Value (one_whole ts e f s t)
one_spelt (value {e = e} n h s q) (at_value {e = f} m k t) = absurd (q f t)
one_spelt {ts} {a} {b} (at_value n h s) (atom f) = absurd (some_none b (atom_of ts) f n)
one_spelt (at_value {e = e} n h s) (value {e = f} m k t r) = absurd (r e s)
one_spelt {ts} (at_value {e = e} n h s) (at_value {e = f} m k t) = ap AtValue (one_enclosed ts e f s t)

-- ---- in range

abbrev Ranged : Spelt → Type 0
Ranged a = AllByRecursion IsInRange (value_in a)

atom_range : (ts : List Token) (a : Spelt) → atom_of ts ≡ Some a → AreSmall ts → Ranged a
atom_range (Reserved n ∷ []) a e h = subst Ranged (some_is (Name n) a e) tt
atom_range (Digits n ∷ []) a e h = subst Ranged (some_is (Literal n) a e) (h.0, tt)
atom_range (Num n ∷ []) a e h = subst Ranged (some_is (Literal n) a e) (h.0, tt)
atom_range (Open ∷ Reserved n ∷ Close ∷ []) a e h = subst Ranged (some_is (AtName n) a e) tt
atom_range ts a e h = absurd cc

whole_range : (ts : List Token) (e : Tree) → Spells 5 ts e [] → AreSmall ts → AllByRecursion IsInRange (Whole e ∷ [])
whole_range ts e s h = list_range (full (last (expression s))) h

in_parentheses : (ts : List Token) (e : Tree) → Spells 5 ts e (Close ∷ []) → Spells 5 (Open ∷ ts) e []
in_parentheses ts e s = alone (tighter (alone (tighter (alone (tighter (alone (tighter (alone (tighter (alone (parens s)))))))))))

pub enclosed_whole : (ts : List Token) (e : Tree) → IsEnclosed ts e → Spells 5 ts e []
enclosed_whole ts e x = subst (λ us. Spells 5 us e []) (sym x.opens) (in_parentheses x.inside e x.spells)

pub spelt_range : {ts : List Token} {a : Spelt} → IsSpelt ts a → AreSmall ts → Ranged a
spelt_range {ts} {a} (atom e) h = atom_range ts a e h
spelt_range {ts} (value {e = e} n r s q) h = whole_range ts e s h
spelt_range {ts} (at_value {e = e} n r s) h = whole_range ts e (enclosed_whole ts e s) h
