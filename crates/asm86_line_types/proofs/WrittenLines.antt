-- Written lines of equal words and operands.
use Rattle.std.proofs.Common.{◌≡◌, ℕ, List, refl, ap, ◌∙◌}
use Rattle.asm86_line_types.specs.Written.{with_one, with_two}

pub said : (word : List ℕ) → word ≡ word
said word = refl

pub one_said : {v w f g line : List ℕ} → v ≡ w → f ≡ g → line ≡ with_one v f → line ≡ with_one w g
one_said {w = w} {f = f} word first is = is ∙ ap (λ (x : List ℕ). with_one x f) word ∙ ap (with_one w) first

pub two_said : {v w f g s t line : List ℕ} → v ≡ w → f ≡ g → s ≡ t → line ≡ with_two v f s → line ≡ with_two w g t
two_said {w = w} {f = f} {g = g} {s = s} word first second is = is ∙ ap (λ (x : List ℕ). with_two x f s) word ∙ ap (λ (x : List ℕ). with_two w x s) first ∙ ap (with_two w g) second
