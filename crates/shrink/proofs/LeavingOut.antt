-- Lines that assemble still do where an instruction is left out: labels stay what they are, and no jump goes farther.
use Rattle.std.proofs.Common.{◌≡◌, ℕ, ◌+◌, ◌≤◌, Bool, true, false, cond, not, ◌&&◌, ◌||◌, List, [], ◌∷◌, ◌++◌, Option, None, Some, refl, sym, ap, subst, arith}
use Rattle.std.specs.Prelude.{is_some, unwrap_or}
use Rattle.std.proofs.lemmas.Bool.Decides.{nat_tests}
use Rattle.i86.specs.declared.Instr86.{Instr86}
use Rattle.asm86_line_types.specs.declared.line.Label.{Label}
use Rattle.asm86_line_types.specs.declared.line.Stmt86.{Stmt86}
use Rattle.asm86_line_types.specs.declared.line.Stmt86.TheVariants.{Run, Jmps, Jcc}
use Rattle.asm86_line_types.specs.declared.line.Line86.{Line86}
use Rattle.asm86_line_types.specs.Layout.{size_of, sizes_of, marks, offset_from, offset_of, place_of}
use Rattle.asm86_line_types.specs.Order.{Reading, reading_after, may_stand, ends_text, has_no_statement, in_order, at_start}
use Rattle.asm86_line_types.specs.Image.{Assembles, statements, used_in, IsDefinedOnce, AllDefined, UsesDefined, jump_reaches, short_reaches, AllReach}
use Rattle.asm86_line_types.proofs.Sizes.{sizes_of-append, count_marks-append}

-- ---- the order

in_order_step : (m e f g i j : Bool) → f ≡ false → (i ≡ true → j ≡ true) → (m && ((not e || f) && i)) ≡ true → (m && ((not e || g) && j)) ≡ true
in_order_step false e f g i j none h k = absurd cc
in_order_step true false f g i j none h k = h k
in_order_step true true true g i j none h k = absurd cc
in_order_step true true false g i j none h k = absurd cc

has_one : (xs : List Stmt86) (x : Stmt86) (ys : List Stmt86) → has_no_statement (xs ++ x ∷ ys) ≡ false
has_one [] x ys = refl
has_one (y ∷ xs) x ys = refl

last_of_two : (a b : Bool) → (a && b) ≡ true → b ≡ true
last_of_two true b h = h
last_of_two false b h = absurd cc

order_without : (r : Reading) (xs : List Stmt86) (i : Instr86) (ys : List Stmt86) → in_order r (xs ++ Run i ∷ ys) ≡ true → in_order r (xs ++ ys) ≡ true
order_without r [] i ys h = last_of_two (may_stand r (Run i)) (in_order r ys) h
order_without r (x ∷ xs) i ys h =
    in_order_step (may_stand r x) (ends_text x) (has_no_statement (xs ++ Run i ∷ ys)) (has_no_statement (xs ++ ys)) (in_order (reading_after r x) (xs ++ Run i ∷ ys)) (in_order (reading_after r x) (xs ++ ys))
    (has_one xs (Run i) ys) (order_without (reading_after r x) xs i ys) h

-- ---- where labels are

-- where a label is with the instruction, and where without it: nowhere, or before it, or after it
data Moved (cut size : ℕ) : Option ℕ → Option ℕ → Type 0 where
  nowhere : Moved cut size None None
  before : (a : ℕ) → a ≤ cut → Moved cut size (Some a) (Some a)
  after : (a : ℕ) → cut ≤ a → Moved cut size (Some (a + size)) (Some a)

moved_after : (at cut size : ℕ) → cut ≤ at → (ys : List Stmt86) (l : Label) → Moved cut size (offset_from (at + size) ys l) (offset_from at ys l)
moved_after at cut size le [] l = nowhere
moved_after at cut size le (y ∷ ys) l =
    let e : at + size_of y + size ≡ at + size + size_of y = omega arith in
    by_mark (marks l y) (subst (λ n. Moved cut size (offset_from n ys l) (offset_from (at + size_of y) ys l)) e (moved_after (at + size_of y) cut size (omega (arith, le)) ys l))
  where
    by_mark : (t : Bool) → Moved cut size (offset_from (at + size + size_of y) ys l) (offset_from (at + size_of y) ys l)
        → Moved cut size (cond t (Some (at + size)) (offset_from (at + size + size_of y) ys l)) (cond t (Some at) (offset_from (at + size_of y) ys l))
    by_mark true m = after at le
    by_mark false m = m

moved : (at : ℕ) (xs : List Stmt86) (i : Instr86) (ys : List Stmt86) (l : Label) → Moved (at + sizes_of xs) (size_of (Run i)) (offset_from at (xs ++ Run i ∷ ys) l) (offset_from at (xs ++ ys) l)
moved at [] i ys l = moved_after at (at + 0) (size_of (Run i)) (omega arith) ys l
moved at (x ∷ xs) i ys l =
    let e : at + size_of x + sizes_of xs ≡ at + (size_of x + sizes_of xs) = omega arith in
    by_mark (marks l x) (subst (λ n. Moved n (size_of (Run i)) (offset_from (at + size_of x) (xs ++ Run i ∷ ys) l) (offset_from (at + size_of x) (xs ++ ys) l)) e (moved (at + size_of x) xs i ys l))
  where
    by_mark : (t : Bool) → Moved (at + (size_of x + sizes_of xs)) (size_of (Run i)) (offset_from (at + size_of x) (xs ++ Run i ∷ ys) l) (offset_from (at + size_of x) (xs ++ ys) l)
        → Moved (at + (size_of x + sizes_of xs)) (size_of (Run i)) (cond t (Some at) (offset_from (at + size_of x) (xs ++ Run i ∷ ys) l)) (cond t (Some at) (offset_from (at + size_of x) (xs ++ ys) l))
    by_mark true m = before at (omega arith)
    by_mark false m = m

-- the same of its place, which is 0 where it is nowhere
data MovedPlace (cut size : ℕ) : ℕ → ℕ → Type 0 where
  before : (a : ℕ) → a ≤ cut → MovedPlace cut size a a
  after : (a : ℕ) → cut ≤ a → MovedPlace cut size (a + size) a

moved_place : (cut size : ℕ) (o q : Option ℕ) → Moved cut size o q → MovedPlace cut size (unwrap_or o 0) (unwrap_or q 0)
moved_place cut size _ _ nowhere = before 0 (omega arith)
moved_place cut size _ _ (Moved.before a le) = before a le
moved_place cut size _ _ (Moved.after a le) = after a le

still_some : (cut size : ℕ) (o q : Option ℕ) → Moved cut size o q → is_some o ≡ true → is_some q ≡ true
still_some cut size _ _ nowhere h = h
still_some cut size _ _ (Moved.before a le) h = refl
still_some cut size _ _ (Moved.after a le) h = refl

-- ---- labels that are used

all_defined : (all less : List Stmt86) → ((l : Label) → is_some (offset_of all l) ≡ true → is_some (offset_of less l) ≡ true) → (ls : List Label) → AllDefined all ls → AllDefined less ls
all_defined all less still [] h = tt
all_defined all less still (l ∷ ls) h = (still l h.0, all_defined all less still ls h.1)

uses_still : (all less : List Stmt86) → ((l : Label) → is_some (offset_of all l) ≡ true → is_some (offset_of less l) ≡ true) → (xs : List Stmt86) → UsesDefined all xs → UsesDefined less xs
uses_still all less still [] h = tt
uses_still all less still (x ∷ xs) h = (all_defined all less still (used_in x) h.0, uses_still all less still xs h.1)

uses_without : (all xs : List Stmt86) (i : Instr86) (ys : List Stmt86) → UsesDefined all (xs ++ Run i ∷ ys) → UsesDefined all (xs ++ ys)
uses_without all [] i ys h = h.1
uses_without all (x ∷ xs) i ys h = (h.0, uses_without all xs i ys h.1)

-- ---- jumps

-- a jump before the instruction, and one after it
reaches_before : (at cut size p q : ℕ) → at + 2 ≤ cut → MovedPlace cut size p q → jump_reaches (at + 2) p ≡ true → jump_reaches (at + 2) q ≡ true
reaches_before at cut size _ _ le (before a h) r = r
reaches_before at cut size _ _ le (after a h) r = grind (arith, nat_tests)

reaches_after : (at cut size p q : ℕ) → cut ≤ at → MovedPlace cut size p q → jump_reaches (at + size + 2) p ≡ true → jump_reaches (at + 2) q ≡ true
reaches_after at cut size _ _ le (before a h) r = grind (arith, nat_tests)
reaches_after at cut size _ _ le (after a h) r = grind (arith, nat_tests)

module _ (cut size : ℕ) (off less : Label → ℕ) (places : (l : Label) → MovedPlace cut size (off l) (less l)) where
  short_before : (at : ℕ) (x : Stmt86) → at + size_of x ≤ cut → short_reaches off at x ≡ true → short_reaches less at x ≡ true
  short_before at (Jmps l) le r = reaches_before at cut size (off l) (less l) le (places l) r
  short_before at (Jcc j l) le r = reaches_before at cut size (off l) (less l) le (places l) r
  short_before at x le r = r

  short_after : (at : ℕ) (x : Stmt86) → cut ≤ at → short_reaches off (at + size) x ≡ true → short_reaches less at x ≡ true
  short_after at (Jmps l) le r = reaches_after at cut size (off l) (less l) le (places l) r
  short_after at (Jcc j l) le r = reaches_after at cut size (off l) (less l) le (places l) r
  short_after at x le r = r

  reach_after : (at : ℕ) (ys : List Stmt86) → cut ≤ at → AllReach off (at + size) ys → AllReach less at ys
  reach_after at [] le h = tt
  reach_after at (y ∷ ys) le h =
      let e : at + size + size_of y ≡ at + size_of y + size = omega arith in
      (short_after at y le h.0, reach_after (at + size_of y) ys (omega (arith, le)) (subst (λ n. AllReach off n ys) e h.1))

  reach_without : (at : ℕ) (xs : List Stmt86) (i : Instr86) (ys : List Stmt86) → size_of (Run i) ≡ size → at + sizes_of xs ≡ cut → AllReach off at (xs ++ Run i ∷ ys) → AllReach less at (xs ++ ys)
  reach_without at [] i ys is end h = reach_after at ys (omega (arith, end)) (subst (λ n. AllReach off (at + n) ys) is h.1)
  reach_without at (x ∷ xs) i ys is end h =
      (short_before at x (omega (arith, end)) h.0, reach_without (at + size_of x) xs i ys is (omega (arith, end)) h.1)

-- ---- all of it

module _ (xs : List Stmt86) (i : Instr86) (ys : List Stmt86) where
  place_without : (l : Label) → MovedPlace (0 + sizes_of xs) (size_of (Run i)) (place_of (xs ++ Run i ∷ ys) l) (place_of (xs ++ ys) l)
  place_without l = moved_place (0 + sizes_of xs) (size_of (Run i)) (offset_of (xs ++ Run i ∷ ys) l) (offset_of (xs ++ ys) l) (moved 0 xs i ys l)

  defined_without : (l : Label) → is_some (offset_of (xs ++ Run i ∷ ys) l) ≡ true → is_some (offset_of (xs ++ ys) l) ≡ true
  defined_without l = still_some (0 + sizes_of xs) (size_of (Run i)) (offset_of (xs ++ Run i ∷ ys) l) (offset_of (xs ++ ys) l) (moved 0 xs i ys l)

  once_without : IsDefinedOnce (xs ++ Run i ∷ ys) → IsDefinedOnce (xs ++ ys)
  once_without once l =
      let h = once l in
      let e = count_marks-append l xs (Run i ∷ ys) in
      let f = count_marks-append l xs ys in
      omega (arith, h, e, f)

  sizes_without : sizes_of (xs ++ ys) ≤ sizes_of (xs ++ Run i ∷ ys)
  sizes_without = let e = sizes_of-append xs (Run i ∷ ys) in let f = sizes_of-append xs ys in omega (arith, e, f)

  pub assembles_without : (lines less : List Line86) → statements lines ≡ xs ++ Run i ∷ ys → statements less ≡ xs ++ ys → Assembles lines → Assembles less
  assembles_without lines less is without a =
      let more = xs ++ Run i ∷ ys in
      let few = xs ++ ys in
      record {
        order = subst (λ zs. in_order at_start zs ≡ true) (sym without) (order_without at_start xs i ys (subst (λ zs. in_order at_start zs ≡ true) is a.order));
        once = subst IsDefinedOnce (sym without) (once_without (subst IsDefinedOnce is a.once));
        defined = subst (λ zs. UsesDefined zs zs) (sym without) (uses_still more few defined_without few (uses_without more xs i ys (subst (λ zs. UsesDefined zs zs) is a.defined)));
        small = (let le = sizes_without in let e = ap sizes_of is in let f = ap sizes_of without in let h = a.small in omega (arith, le, e, f, h));
        short = subst (λ zs. AllReach (place_of zs) 0 zs) (sym without)
            (reach_without (0 + sizes_of xs) (size_of (Run i)) (place_of more) (place_of few) place_without 0 xs i ys refl refl (subst (λ zs. AllReach (place_of zs) 0 zs) is a.short));
      }
