-- Statements without the last one.
use Rattle.std.proofs.Common.{◌≡◌, List, [], ◌∷◌, ◌++◌, refl, ap}
use Rattle.asm86_line_types.specs.declared.line.Stmt86.{Stmt86}
use Rattle.templates.specs.Style.{without_last}

pub without_last-added : (xs : List Stmt86) (x : Stmt86) → without_last (xs ++ x ∷ []) ≡ xs
without_last-added [] x = refl
without_last-added (y ∷ []) x = refl
without_last-added (y ∷ (z ∷ zs)) x = ap (λ ys. y ∷ ys) (without_last-added (z ∷ zs) x)
