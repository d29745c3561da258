-- Statements of which the first or the last is left out: what is true of each of them is true of those that stay, and they are no more.
use Rattle.std.proofs.Common.{◌≤◌, Bool, true, false, List, [], ◌∷◌, length, arith}
use Rattle.asm86_line_types.specs.declared.line.Stmt86.{Stmt86}
use Rattle.templates.specs.Style.{without_last, without_first_if, without_last_if}

-- a property of lists that is one of each statement
pub record IsOfEach (P : List Stmt86 → Type 0) : Type 1 where
  pub Here : Stmt86 → Type 0
  pub none : P []
  pub parts : (x : Stmt86) (xs : List Stmt86) → P (x ∷ xs) → Here x × P xs
  pub whole : (x : Stmt86) (xs : List Stmt86) → Here x → P xs → P (x ∷ xs)

module _ (P : List Stmt86 → Type 0) (each : IsOfEach P) where
  without : (xs : List Stmt86) → P xs → P (without_last xs)
  without [] h = each.none
  without (x ∷ []) h = each.none
  without (x ∷ (y ∷ ys)) h = let p = each.parts x (y ∷ ys) h in each.whole x (without_last (y ∷ ys)) p.0 (without (y ∷ ys) p.1)

  by_last : (last : Bool) (xs : List Stmt86) → P xs → P (without_last_if last xs)
  by_last true xs h = without xs h
  by_last false xs h = h

  by_first : (first : Bool) (xs : List Stmt86) → P xs → P (without_first_if first xs)
  by_first true [] h = each.none
  by_first true (x ∷ xs) h = (each.parts x xs h).1
  by_first false xs h = h

  pub left_so : (first last : Bool) (xs : List Stmt86) → P xs → P (without_first_if first (without_last_if last xs))
  left_so first last xs h = by_first first (without_last_if last xs) (by_last last xs h)

fewer_without : (xs : List Stmt86) → length (without_last xs) ≤ length xs
fewer_without [] = omega arith
fewer_without (x ∷ []) = omega arith
fewer_without (x ∷ (y ∷ ys)) = let less = fewer_without (y ∷ ys) in omega (arith, less)

fewer_last : (last : Bool) (xs : List Stmt86) → length (without_last_if last xs) ≤ length xs
fewer_last true xs = fewer_without xs
fewer_last false xs = omega arith

fewer_first : (first : Bool) (xs : List Stmt86) → length (without_first_if first xs) ≤ length xs
fewer_first true [] = omega arith
fewer_first true (x ∷ xs) = omega arith
fewer_first false xs = omega arith

pub left_fewer : (first last : Bool) (xs : List Stmt86) → length (without_first_if first (without_last_if last xs)) ≤ length xs
left_fewer first last xs = let f = fewer_first first (without_last_if last xs) in let l = fewer_last last xs in omega (arith, f, l)
