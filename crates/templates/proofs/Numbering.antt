-- Lines that are numbered as they come.
use Rattle.std.proofs.Common.{◌≡◌, ℕ, ◌+◌, List, [], ◌∷◌, ◌++◌, length, ap, arith}
use Rattle.asm86_line_types.specs.declared.line.Line86.{Line86}
use Rattle.asm86_line_types.specs.declared.line.Stmt86.{Stmt86}
use Rattle.asm86_line_types.specs.Image.{statements}
use Rattle.templates.specs.Plain.{numbered_from}

-- lines are numbered from a number on
abbrev pub IsNumbered : ℕ → List Line86 → Type 0
IsNumbered n xs = xs ≡ numbered_from n (statements xs)

line_with : Stmt86 → ℕ → Line86
line_with s n = record { line = n; stmt = s }

-- one more line has the next number
pub numbered-more : (xs : List Line86) (n : ℕ) (x : Line86) → IsNumbered n xs → x.line ≡ n + length xs → IsNumbered n (xs ++ x ∷ [])
unfolding line_with
numbered-more [] n x same next = let e : x.line ≡ n = omega arith in ap (λ (m : ℕ). line_with x.stmt m ∷ []) e
numbered-more (y ∷ ys) n x same next =
    let head : y ≡ line_with y.stmt n = cc in
    let rest : IsNumbered (n + 1) ys = cc in
    let more = numbered-more ys (n + 1) x rest (omega arith) in
    cc
