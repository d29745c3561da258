-- The statements of lines are those that were numbered.
use Rattle.std.proofs.Common.{◌≡◌, ℕ, ◌+◌, ◌<◌, List, [], ◌∷◌, length, refl, ap, arith}
use Rattle.asm86_line_types.specs.declared.line.Stmt86.{Stmt86}
use Rattle.asm86_line_types.specs.declared.line.Line86.{Line86}
use Rattle.asm86_line_types.specs.Image.{statements}
use Rattle.templates.specs.Plain.{numbered_from}

pub statements-numbered : (n : ℕ) (xs : List Stmt86) → statements (numbered_from n xs) ≡ xs
statements-numbered n [] = refl
statements-numbered n (x ∷ xs) = ap (λ ys. x ∷ ys) (statements-numbered (n + 1) xs)

pub length-numbered : (n : ℕ) (xs : List Stmt86) → length (numbered_from n xs) ≡ length xs
length-numbered n [] = refl
length-numbered n (x ∷ xs) = omega (arith, length-numbered (n + 1) xs)

-- the lines of a text are as few as its statements
pub few_lines : (lines : List Line86) (text : List Stmt86) (k : ℕ) → lines ≡ numbered_from 1 text → length text < k → length lines < k
few_lines lines text k e h = omega (arith, ap length e, length-numbered 1 text, h)
