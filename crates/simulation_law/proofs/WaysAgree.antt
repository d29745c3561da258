-- The ways that exits which agree take.
use Rattle.std.proofs.Common.{◌≡◌, ℕ, Bool, true, false, cond, ◌&&◌, Option, Some, refl, sym, ap, ◌∙◌, subst}
use Rattle.std.proofs.lemmas.Bool.{and_parts}
use Rattle.cells.specs.declared.Place.{Place}
use Rattle.cells.specs.declared.Part.{Part}
use Rattle.cells.specs.Parts.{has}
use Rattle.sym_terms.specs.Term.{Term, same_bool}
use Rattle.sym_terms.specs.Values80.{Env80}
use Rattle.sym_terms.specs.Values86.{Env86}
use Rattle.sym_block_def.specs.Outcome.{Way, Goto, ByTerms, Call, Sys, SysReturn, Boot, Leave, In, Out, Exit, One, Two}
use Rattle.sym_block_def.specs.Agree.{agrees, way_agrees, ways_agree, exit_agrees}
use Rattle.sym_block_def.specs.BlockMatch.{Keeps, kept_after_way, kept_by_exit, is_last, is_boot_alone}
use Rattle.sym_block_def.specs.Sorts.{WayIsSorted, ExitIsSorted}
use Rattle.simulation_def.specs.Runs80.{Takes80}
use Rattle.simulation_def.specs.Runs86.{Takes86}
use Rattle.simulation_law.specs.Linked.{EnvsStand, AgreeingTermsStand}
use Rattle.simulation_law.proofs.Reasons.{in_first, in_second}

one_agrees : (a b : Way) → exit_agrees (One a) (One b) ≡ true → way_agrees a b ≡ true
one_agrees (Goto q) b h = h
one_agrees (ByTerms x y) b h = h
one_agrees (Call q back) b h = h
one_agrees (Sys back) b h = h
one_agrees SysReturn b h = h
one_agrees Boot b h = h
one_agrees Leave b h = refl
one_agrees (In port next) b h = h
one_agrees (Out port next) b h = h

-- one way agrees with two where it leaves the profile
one_leaves : (a : Way) (g : Term) (w : Bool) (x y b : Way) → exit_agrees (One a) (Two g w x y) ≡ true → way_agrees a b ≡ true
one_leaves (Goto q) g w x y b h = absurd (cc)
one_leaves (ByTerms i j) g w x y b h = absurd (cc)
one_leaves (Call q back) g w x y b h = absurd (cc)
one_leaves (Sys back) g w x y b h = absurd (cc)
one_leaves SysReturn g w x y b h = absurd (cc)
one_leaves Boot g w x y b h = absurd (cc)
one_leaves Leave g w x y b h = refl
one_leaves (In port next) g w x y b h = absurd (cc)
one_leaves (Out port next) g w x y b h = absurd (cc)

-- of two and two, the ways that one value of the flag takes
taken_agree : (v w b : Bool) (p q x y : Way) → ways_agree (same_bool v w) p q x y ≡ true → way_agrees (cond (same_bool b v) p q) (cond (same_bool b w) x y) ≡ true
taken_agree true true true p q x y h = (and_parts (way_agrees p x) (way_agrees q y) h).0
taken_agree true true false p q x y h = (and_parts (way_agrees p x) (way_agrees q y) h).1
taken_agree false false true p q x y h = (and_parts (way_agrees p x) (way_agrees q y) h).1
taken_agree false false false p q x y h = (and_parts (way_agrees p x) (way_agrees q y) h).0
taken_agree true false true p q x y h = (and_parts (way_agrees p y) (way_agrees q x) h).0
taken_agree true false false p q x y h = (and_parts (way_agrees p y) (way_agrees q x) h).1
taken_agree false true true p q x y h = (and_parts (way_agrees p y) (way_agrees q x) h).1
taken_agree false true false p q x y h = (and_parts (way_agrees p y) (way_agrees q x) h).0

module _ (terms : AgreeingTermsStand) (offset : Place → Option ℕ) (e : Env80) (d : Env86) (envs : EnvsStand offset e d) where
  pub ways_meet : (x y : Exit) (a b : Way) → exit_agrees x y ≡ true → Takes80 e x a → Takes86 d y b → way_agrees a b ≡ true
  ways_meet (One way) (One way') a b h t u = subst (λ z. way_agrees z b ≡ true) (sym t) (subst (λ z. way_agrees way z ≡ true) (sym u) (one_agrees way way' h))
  ways_meet (One way) (Two g w i j) a b h t u = subst (λ z. way_agrees z b ≡ true) (sym t) (one_leaves way g w i j b h)
  ways_meet (Two f v p q) (One way') a b h t u = absurd (cc)
  ways_meet (Two f v p q) (Two g w i j) a b h t u =
      let both = and_parts (agrees f g) (ways_agree (same_bool v w) p q i j) h in
      let same : u.0 ≡ t.0 = terms.flag offset e d f g (Some t.0) u.0 envs both.0 t.1 u.1 in
      subst (λ z. way_agrees z b ≡ true) (sym t.2)
      (subst (λ z. way_agrees (cond (same_bool t.0 v) p q) z ≡ true) (sym (u.2 ∙ ap (λ c. cond (same_bool c w) i j) same)) (taken_agree v w t.0 p q i j both.1))

of_two : (b : Bool) (P : Way → Type 0) (x y : Way) → P x → P y → P (cond b x y)
of_two true P x y h g = h
of_two false P x y h g = g

pub way_sorted : (d : Env86) (y : Exit) (b : Way) → ExitIsSorted y → Takes86 d y b → WayIsSorted b
way_sorted d (One way) b h u = subst WayIsSorted (sym u) h
way_sorted d (Two g w i j) b h u = subst WayIsSorted (sym u.2) (of_two (same_bool u.0 w) WayIsSorted i j h.1 h.2)

pub kept_way : (k : Keeps) (e : Env80) (x : Exit) (a : Way) (q : Part) → Takes80 e x a → has (kept_after_way k a) q ≡ true → has (kept_by_exit k x) q ≡ true
kept_way k e (One way) a q t h = subst (λ z. has (kept_after_way k z) q ≡ true) t h
kept_way k e (Two f v m n) a q t h =
    of_two (same_bool t.0 v) (λ z. has (kept_after_way k z) q ≡ true → has (kept_by_exit k (Two f v m n)) q ≡ true) m n
    (in_first (kept_after_way k m) (kept_after_way k n) q) (in_second (kept_after_way k m) (kept_after_way k n) q)
    (subst (λ z. has (kept_after_way k z) q ≡ true) t.2 h)

not_and : (a b : Bool) → b ≡ false → (a && b) ≡ false
not_and true b e = e
not_and false b e = refl

pub goes_on : (e : Env80) (x : Exit) (a : Way) → Takes80 e x a → is_last a ≡ false → is_boot_alone x ≡ false
goes_on e (One way) a t h = subst (λ z. is_last z ≡ false) t h
goes_on e (Two f v m n) a t h =
    of_two (same_bool t.0 v) (λ z. is_last z ≡ false → is_boot_alone (Two f v m n) ≡ false) m n
    (λ g. ap (λ z. z && is_last n) g) (not_and (is_last m) (is_last n))
    (subst (λ z. is_last z ≡ false) t.2 h)
