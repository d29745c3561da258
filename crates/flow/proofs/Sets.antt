-- Sets of parts, by their members.
use Rattle.std.proofs.Common.{◌≡◌, ◌≢◌, ℕ, ◌+◌, ◌<◌, ◌≤◌, Bool, true, false, ◌||◌, ◌&&◌, List, ◌∷◌, get_or, drop, drop_of_length-le, refl, sym, ap, ◌∙◌, ⊎_elim, arith}
use Rattle.std.proofs.lemmas.List.{drop_more}
use Rattle.std.proofs.lemmas.Bool.{false≢true, cases_lt}
use mathlib.Core.Bool.{or-false}
use Rattle.cells.specs.declared.Part.{Part}
use Rattle.cells.specs.declared.Part.TheVariants.{A, B, C, D, E, H, L, S, Z, Ac, P, Cy}
use Rattle.cells.specs.Parts.{Parts, nothing, union, only, has, these, weight, all_parts}
use Rattle.cells.proofs.Unions.{has_union}
use Rattle.flow.specs.Search.{size, is_left}

pub has-nothing : (x : Part) → has nothing x ≡ false
has-nothing A = refl
has-nothing B = refl
has-nothing C = refl
has-nothing D = refl
has-nothing E = refl
has-nothing H = refl
has-nothing L = refl
has-nothing S = refl
has-nothing Z = refl
has-nothing Ac = refl
has-nothing P = refl
has-nothing Cy = refl

-- a set of one part has no other
pub only-has : (q x : Part) → has (only q) x ≡ true → q ≡ x
only-has A A h = refl
only-has A x h = absurd (false≢true h)
only-has B B h = refl
only-has B x h = absurd (false≢true h)
only-has C C h = refl
only-has C x h = absurd (false≢true h)
only-has D D h = refl
only-has D x h = absurd (false≢true h)
only-has E E h = refl
only-has E x h = absurd (false≢true h)
only-has H H h = refl
only-has H x h = absurd (false≢true h)
only-has L L h = refl
only-has L x h = absurd (false≢true h)
only-has S S h = refl
only-has S x h = absurd (false≢true h)
only-has Z Z h = refl
only-has Z x h = absurd (false≢true h)
only-has Ac Ac h = refl
only-has Ac x h = absurd (false≢true h)
only-has P P h = refl
only-has P x h = absurd (false≢true h)
only-has Cy Cy h = refl
only-has Cy x h = absurd (false≢true h)

-- what a part counts for, in a smaller set and a larger one
weight-le : (b d : Bool) → (b ≡ true → d ≡ true) → weight b 1 ≤ weight d 1
weight-le true true h = omega arith
weight-le true false h = absurd (false≢true (h refl))
weight-le false d h = omega arith

weight-same : (b d : Bool) → weight b 1 ≡ weight d 1 → b ≡ d
weight-same true true h = refl
weight-same true false h = absurd (omega arith)
weight-same false true h = absurd (omega arith)
weight-same false false h = refl

weight-bit : (b : Bool) → weight b 1 ≤ 1
weight-bit true = omega arith
weight-bit false = omega arith

pub size-le : (k : Parts) → size k ≤ 12
size-le k = omega (arith, weight-bit k.a, weight-bit k.b, weight-bit k.c, weight-bit k.d, weight-bit k.e, weight-bit k.h, weight-bit k.l, weight-bit k.s, weight-bit k.z, weight-bit k.ac, weight-bit k.p, weight-bit k.cy)

abbrev made : Bool → Bool → Bool → Bool → Bool → Bool → Bool → Bool → Bool → Bool → Bool → Bool → Parts
made a b c d e h l s z ac p cy = record { a = a; b = b; c = c; d = d; e = e; h = h; l = l; s = s; z = z; ac = ac; p = p; cy = cy }

-- sets with the same members are equal
pub same_members : (k m : Parts) → ((x : Part) → has k x ≡ has m x) → k ≡ m
same_members k m h =
    let a' : k.a ≡ m.a = h A in
    let b' : k.b ≡ m.b = h B in
    let c' : k.c ≡ m.c = h C in
    let d' : k.d ≡ m.d = h D in
    let e' : k.e ≡ m.e = h E in
    let h' : k.h ≡ m.h = h H in
    let l' : k.l ≡ m.l = h L in
    let s' : k.s ≡ m.s = h S in
    let z' : k.z ≡ m.z = h Z in
    let ac' : k.ac ≡ m.ac = h Ac in
    let p' : k.p ≡ m.p = h P in
    let cy' : k.cy ≡ m.cy = h Cy in
    let same : made k.a k.b k.c k.d k.e k.h k.l k.s k.z k.ac k.p k.cy ≡ made m.a m.b m.c m.d m.e m.h m.l m.s m.z m.ac m.p m.cy = cc in
    same

module _ (k m : Parts) (grows : (x : Part) → has k x ≡ true → has m x ≡ true) where
  part-le : (x : Part) → weight (has k x) 1 ≤ weight (has m x) 1
  part-le x = weight-le (has k x) (has m x) (grows x)

  pub size-grows : size k ≤ size m
  size-grows = omega (arith, part-le A, part-le B, part-le C, part-le D, part-le E, part-le H, part-le L, part-le S, part-le Z, part-le Ac, part-le P, part-le Cy)

  same_size : size m ≤ size k → (x : Part) → has k x ≡ has m x
  same_size h A = weight-same k.a m.a (omega (arith, h, part-le A, part-le B, part-le C, part-le D, part-le E, part-le H, part-le L, part-le S, part-le Z, part-le Ac, part-le P, part-le Cy))
  same_size h B = weight-same k.b m.b (omega (arith, h, part-le A, part-le B, part-le C, part-le D, part-le E, part-le H, part-le L, part-le S, part-le Z, part-le Ac, part-le P, part-le Cy))
  same_size h C = weight-same k.c m.c (omega (arith, h, part-le A, part-le B, part-le C, part-le D, part-le E, part-le H, part-le L, part-le S, part-le Z, part-le Ac, part-le P, part-le Cy))
  same_size h D = weight-same k.d m.d (omega (arith, h, part-le A, part-le B, part-le C, part-le D, part-le E, part-le H, part-le L, part-le S, part-le Z, part-le Ac, part-le P, part-le Cy))
  same_size h E = weight-same k.e m.e (omega (arith, h, part-le A, part-le B, part-le C, part-le D, part-le E, part-le H, part-le L, part-le S, part-le Z, part-le Ac, part-le P, part-le Cy))
  same_size h H = weight-same k.h m.h (omega (arith, h, part-le A, part-le B, part-le C, part-le D, part-le E, part-le H, part-le L, part-le S, part-le Z, part-le Ac, part-le P, part-le Cy))
  same_size h L = weight-same k.l m.l (omega (arith, h, part-le A, part-le B, part-le C, part-le D, part-le E, part-le H, part-le L, part-le S, part-le Z, part-le Ac, part-le P, part-le Cy))
  same_size h S = weight-same k.s m.s (omega (arith, h, part-le A, part-le B, part-le C, part-le D, part-le E, part-le H, part-le L, part-le S, part-le Z, part-le Ac, part-le P, part-le Cy))
  same_size h Z = weight-same k.z m.z (omega (arith, h, part-le A, part-le B, part-le C, part-le D, part-le E, part-le H, part-le L, part-le S, part-le Z, part-le Ac, part-le P, part-le Cy))
  same_size h Ac = weight-same k.ac m.ac (omega (arith, h, part-le A, part-le B, part-le C, part-le D, part-le E, part-le H, part-le L, part-le S, part-le Z, part-le Ac, part-le P, part-le Cy))
  same_size h P = weight-same k.p m.p (omega (arith, h, part-le A, part-le B, part-le C, part-le D, part-le E, part-le H, part-le L, part-le S, part-le Z, part-le Ac, part-le P, part-le Cy))
  same_size h Cy = weight-same k.cy m.cy (omega (arith, h, part-le A, part-le B, part-le C, part-le D, part-le E, part-le H, part-le L, part-le S, part-le Z, part-le Ac, part-le P, part-le Cy))

  -- a larger set that is another one has more members
  pub size-rises : k ≢ m → size k < size m
  size-rises other = ⊎_elim (λ lt. lt) (λ le. absurd (other (same_members k m (same_size le)))) (cases_lt (size k) (size m))

pub without_left : (left k m : Parts) (q x : Part) → is_left k m q ≡ false → has left x ≡ (has left x || (has (only q) x && is_left k m x))
without_left left k m q x is = sym (ap (λ b. has left x || b) (none (has (only q) x) refl) ∙ or-false (has left x))
  where
    none : (b : Bool) → has (only q) x ≡ b → (b && is_left k m x) ≡ false
    none true one = ap (is_left k m) (sym (only-has q x one)) ∙ is
    none false one = refl

-- a part that is left joins those that are
pub with_part_left : (left new k m : Parts) (q x : Part) → is_left k m q ≡ true → new ≡ union left (only q) → has new x ≡ (has left x || (has (only q) x && is_left k m x))
with_part_left left new k m q x is joined = ap (λ n. has n x) joined ∙ has_union left (only q) x ∙ ap (λ b. has left x || b) (kept (has (only q) x) refl)
  where
    kept : (b : Bool) → has (only q) x ≡ b → b ≡ (b && is_left k m x)
    kept true one = sym (ap (is_left k m) (sym (only-has q x one)) ∙ is)
    kept false one = refl

-- the parts that are left, of some of the parts
abbrev pub left_of : Part → Parts → Parts → Parts → List Part → Bool
left_of x left k m qs = has left x || (has (these qs) x && is_left k m x)

spread : (a b c t : Bool) → (a || ((b || c) && t)) ≡ ((a || (b && t)) || (c && t))
spread true b c t = refl
spread false true c true = refl
spread false true true false = refl
spread false true false false = refl
spread false false c t = refl

pub left-more : (x q : Part) (left left' k m : Parts) (qs : List Part) → has left' x ≡ (has left x || (has (only q) x && is_left k m x)) → left_of x left' k m qs ≡ left_of x left k m (q ∷ qs)
left-more x q left left' k m qs is =
    ap (λ a. a || (has (these qs) x && is_left k m x)) is
    ∙ sym (spread (has left x) (has (only q) x) (has (these qs) x) (is_left k m x))
    ∙ sym (ap (λ b. has left x || (b && is_left k m x)) (has_union (only q) (these qs) x))

pub left-step : (x : Part) (left left' k m : Parts) (d : Part) (i : ℕ) (t : Bool) → i < 12 → has left' x ≡ (has left x || (has (only (get_or all_parts i d)) x && is_left k m x)) → left_of x left k m (drop i all_parts) ≡ t → left_of x left' k m (drop (i + 1) all_parts) ≡ t
left-step x left left' k m d i t lt is before =
    left-more x (get_or all_parts i d) left left' k m (drop (i + 1) all_parts) is
    ∙ ap (left_of x left k m) (sym (drop_more all_parts i d lt))
    ∙ before

-- before the first part all are left, and after the last none
pub left-first : (x : Part) (left k m : Parts) → left ≡ nothing → left_of x left k m all_parts ≡ is_left k m x
left-first x left k m e = ap (λ l. left_of x l k m all_parts) e ∙ by_part x
  where
    by_part : (y : Part) → left_of y nothing k m all_parts ≡ is_left k m y
    by_part A = refl
    by_part B = refl
    by_part C = refl
    by_part D = refl
    by_part E = refl
    by_part H = refl
    by_part L = refl
    by_part S = refl
    by_part Z = refl
    by_part Ac = refl
    by_part P = refl
    by_part Cy = refl

pub left-last : (x : Part) (left k m : Parts) (i : ℕ) (t : Bool) → 12 ≤ i → left_of x left k m (drop i all_parts) ≡ t → has left x ≡ t
left-last x left k m i t le before =
    let none : (has (these (drop i all_parts)) x && is_left k m x) ≡ false = ap (λ qs. has (these qs) x && is_left k m x) (drop_of_length-le all_parts le) ∙ ap (λ b. b && is_left k m x) (has-nothing x) in
    sym (or-false (has left x)) ∙ ap (λ b. has left x || b) (sym none) ∙ before
