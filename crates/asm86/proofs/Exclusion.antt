-- An image and a refusal exclude one another, and a refusal every other.
use Rattle.std.proofs.Common.{◌≡◌, ℕ, List, [], ◌∷◌, ◌++◌, sym, ap, subst, ◌∙◌, ◌⊎◌, inl, inr, append_assoc, arith}
use Rattle.std.proofs.lemmas.List.{map-append}
use Rattle.asm86_line_types.specs.declared.line.Stmt86.{Stmt86}
use Rattle.asm86_line_types.specs.declared.line.Line86.{Line86}
use Rattle.asm86_line_types.specs.declared.line.TextRule.TheVariants.{M1, M2, M3, M4, M5, M6}
use Rattle.asm86_line_types.specs.Layout.{place_of}
use Rattle.asm86_line_types.specs.Image.{Image, statements, IsDefinedOnce, UsesDefined, AllReach, offset_in, IsImage}
use Rattle.asm86.specs.declared.fault.ImageFault.{ImageFault}
use Rattle.asm86.specs.declared.fault.ImageFault.TheVariants.{Line, CodeTooLarge, Short, Memory}
use Rattle.asm86.specs.Refusals.{IsFirstToBreak, ImageRefused, OneRefusal, NotBoth, HasOffsets}
use Rattle.asm86.proofs.Texts.{offset_is, once_front, uses_front, reach_front}

-- a list begins with another
abbrev Begins : List Line86 → List Line86 → Type 0
Begins front whole = (rest : List Line86) × (whole ≡ front ++ rest)

-- two ways to part a list at an item
parted : (a : List Line86) (x : Line86) (b c : List Line86) (y : Line86) (d : List Line86) → a ++ (x ∷ b) ≡ c ++ (y ∷ d) → Begins (a ++ x ∷ []) c ⊎ (Begins (c ++ y ∷ []) a ⊎ (x ≡ y))
parted [] x b [] y d e = let h : x ≡ y = cc in inr (inr h)
parted [] x b (z ∷ c) y d e = let h : x ≡ z = cc in inl (c, ap (λ w. w ∷ c) (sym h))
parted (z ∷ a) x b [] y d e = let h : z ≡ y = cc in inr (inl (a, ap (λ w. w ∷ a) h))
parted (z ∷ a) x b (w ∷ c) y d e =
    let h : z ≡ w = cc in
    let t : a ++ (x ∷ b) ≡ c ++ (y ∷ d) = cc in
    elim (parted a x b c y d t) [
      | inl p ↦ inl (p.0, ap (λ v. v ∷ c) (sym h) ∙ ap (λ r. z ∷ r) p.1)
      | inr q ↦ elim q [
        | inl p ↦ inr (inl (p.0, ap (λ v. v ∷ a) h ∙ ap (λ r. w ∷ r) p.1))
        | inr s ↦ inr (inr s)
      ]
    ]

-- a rule that each list keeps where a longer one keeps it
module _ (Keeps : List Stmt86 → Type 0) (front : (xs ys : List Stmt86) → Keeps (xs ++ ys) → Keeps xs) where
  keeps_front : (xs ys : List Line86) → Keeps (statements (xs ++ ys)) → Keeps (statements xs)
  keeps_front xs ys k = front (statements xs) (statements ys) (subst Keeps (map-append (λ (x : Line86). x.stmt) xs ys) k)

  -- is not broken by lines that keep it
  pub not_broken : (lines : List Line86) (n : ℕ) → Keeps (statements lines) → IsFirstToBreak Keeps lines n → ⊥
  not_broken lines n kept h =
      h.broken (keeps_front (h.before ++ h.here ∷ []) h.after
      (subst (λ xs. Keeps (statements xs)) (h.split ∙ sym (append_assoc h.before (h.here ∷ []) h.after)) kept))

  -- nor by lines before the first that breaks it
  not_earlier : (lines : List Line86) (n : ℕ) (h : IsFirstToBreak Keeps lines n) (whole : List Line86) → Keeps (statements whole) → Begins (h.before ++ h.here ∷ []) whole → ⊥
  not_earlier lines n h whole kept b = h.broken (keeps_front (h.before ++ h.here ∷ []) b.0 (subst (λ xs. Keeps (statements xs)) b.1 kept))

  -- so there is one line that breaks it first
  pub one_line : (lines : List Line86) (n m : ℕ) → IsFirstToBreak Keeps lines n → IsFirstToBreak Keeps lines m → n ≡ m
  one_line lines n m h k =
      elim (parted h.before h.here h.after k.before k.here k.after (sym h.split ∙ k.split)) [
        | inl p ↦ absurd (not_earlier lines n h k.before k.kept p)
        | inr q ↦ elim q [
          | inl p ↦ absurd (not_earlier lines m k h.before h.kept p)
          | inr s ↦ h.numbered ∙ ap (λ (x : Line86). x.line) s ∙ sym k.numbered
        ]
      ]

-- the rules at the statements of a text
module _ (lines : List Line86) where
  abbrev all : List Stmt86
  all = statements lines

  again : (n : ℕ) → IsDefinedOnce all → IsFirstToBreak IsDefinedOnce lines n → ⊥
  again n = not_broken IsDefinedOnce once_front lines n

  undefined : (n : ℕ) → UsesDefined all all → IsFirstToBreak (UsesDefined all) lines n → ⊥
  undefined n = not_broken (UsesDefined all) (uses_front all) lines n

  far : (n : ℕ) → AllReach (place_of all) 0 all → IsFirstToBreak (AllReach (place_of all) 0) lines n → ⊥
  far n = not_broken (AllReach (place_of all) 0) (reach_front (place_of all) 0) lines n

  pub image_not_refused : (image : Image) (fault : ImageFault) → IsImage lines image → ImageRefused lines fault → ⊥
  image_not_refused image (Line n M1) i r = r
  image_not_refused image (Line n M2) i r = r
  image_not_refused image (Line n M3) i r = again n i.assembles.once r
  image_not_refused image (Line n M4) i r = undefined n i.assembles.defined r.1
  image_not_refused image (Line n M5) i r = r
  image_not_refused image (Line n M6) i r = r
  image_not_refused image (CodeTooLarge n) i r =
      let small = i.assembles.small in
      let large = r.2 in
      let is = r.3 in
      omega (arith, small, large, is)
  image_not_refused image (Short n) i r = far n i.assembles.short r.3
  image_not_refused image Memory i r = r

  after_again : (n : ℕ) (fault : ImageFault) → IsFirstToBreak IsDefinedOnce lines n → ImageRefused lines fault → Line n M3 ≡ fault
  after_again n (Line m M1) h r = absurd r
  after_again n (Line m M2) h r = absurd r
  after_again n (Line m M3) h r = ap (λ k. Line k M3) (one_line IsDefinedOnce once_front lines n m h r)
  after_again n (Line m M4) h r = absurd (again n r.0 h)
  after_again n (Line m M5) h r = absurd r
  after_again n (Line m M6) h r = absurd r
  after_again n (CodeTooLarge m) h r = absurd (again n r.0 h)
  after_again n (Short m) h r = absurd (again n r.0 h)
  after_again n Memory h r = absurd r

  after_undefined : (n : ℕ) (fault : ImageFault) → ImageRefused lines (Line n M4) → ImageRefused lines fault → Line n M4 ≡ fault
  after_undefined n (Line m M1) h r = absurd r
  after_undefined n (Line m M2) h r = absurd r
  after_undefined n (Line m M3) h r = absurd (again m h.0 r)
  after_undefined n (Line m M4) h r = ap (λ k. Line k M4) (one_line (UsesDefined all) (uses_front all) lines n m h.1 r.1)
  after_undefined n (Line m M5) h r = absurd r
  after_undefined n (Line m M6) h r = absurd r
  after_undefined n (CodeTooLarge m) h r = absurd (undefined n r.1 h.1)
  after_undefined n (Short m) h r = absurd (undefined n r.1 h.1)
  after_undefined n Memory h r = absurd r

  after_large : (n : ℕ) (fault : ImageFault) → ImageRefused lines (CodeTooLarge n) → ImageRefused lines fault → CodeTooLarge n ≡ fault
  after_large n (Line m M1) h r = absurd r
  after_large n (Line m M2) h r = absurd r
  after_large n (Line m M3) h r = absurd (again m h.0 r)
  after_large n (Line m M4) h r = absurd (undefined m h.1 r.1)
  after_large n (Line m M5) h r = absurd r
  after_large n (Line m M6) h r = absurd r
  after_large n (CodeTooLarge m) h r = ap CodeTooLarge (h.3 ∙ sym r.3)
  after_large n (Short m) h r = let large = h.2 in let is = h.3 in let small = r.2 in absurd (omega (arith, large, is, small))
  after_large n Memory h r = absurd r

  after_short : (n : ℕ) (fault : ImageFault) → ImageRefused lines (Short n) → ImageRefused lines fault → Short n ≡ fault
  after_short n (Line m M1) h r = absurd r
  after_short n (Line m M2) h r = absurd r
  after_short n (Line m M3) h r = absurd (again m h.0 r)
  after_short n (Line m M4) h r = absurd (undefined m h.1 r.1)
  after_short n (Line m M5) h r = absurd r
  after_short n (Line m M6) h r = absurd r
  after_short n (CodeTooLarge m) h r = let large = r.2 in let is = r.3 in let small = h.2 in absurd (omega (arith, large, is, small))
  after_short n (Short m) h r = ap Short (one_line (AllReach (place_of all) 0) (reach_front (place_of all) 0) lines n m h.3 r.3)
  after_short n Memory h r = absurd r

  pub same_refusal : (fault other : ImageFault) → ImageRefused lines fault → ImageRefused lines other → fault ≡ other
  same_refusal (Line n M1) other h r = absurd h
  same_refusal (Line n M2) other h r = absurd h
  same_refusal (Line n M3) other h r = after_again n other h r
  same_refusal (Line n M4) other h r = after_undefined n other h r
  same_refusal (Line n M5) other h r = absurd h
  same_refusal (Line n M6) other h r = absurd h
  same_refusal (CodeTooLarge n) other h r = after_large n other h r
  same_refusal (Short n) other h r = after_short n other h r
  same_refusal Memory other h r = absurd h

pub one_refusal : OneRefusal
one_refusal lines fault other h r = same_refusal lines fault other h r

pub not_both : NotBoth
not_both lines image fault i r = image_not_refused lines image fault i r

pub has_offsets : HasOffsets
has_offsets lines image label i = ap (λ (m : Image). offset_in m.labels label) i.is ∙ sym (offset_is 0 (statements lines) label)
