-- What is told is said in just one way.
use Rattle.std.proofs.Common.{◌≡◌, ◌∙◌, ℕ, List, ◌++◌, Some, None, sym, ap}
use Rattle.block_explain.specs.Words.{words}
use Rattle.block_explain.specs.Smallest.{TermPair}
use Rattle.block_explain.specs.Explained.{Told, Nothing, Lost, Sides, AreToldLines, sides_lines, differs_lines, DiffersIn}
use Rattle.block_explain.proofs.One.{one_smallest}

one_difference : (p : TermPair) (s t : List ℕ) → DiffersIn p s → DiffersIn p t → s ≡ t
one_difference p s t g h =
    g.is ∙ (ap (λ (q : TermPair). differs_lines (words q.ours) (words q.theirs)) (one_smallest g.smallest h.smallest) ∙ sym h.is)

pub one_text : (told : Told) (s t : List ℕ) → AreToldLines told s → AreToldLines told t → s ≡ t
one_text Nothing s t g h = g ∙ sym h
one_text Lost s t g h = g ∙ sym h
one_text (Sides ours theirs None) s t g h = g ∙ sym h
one_text (Sides ours theirs (Some p)) s t g h =
    g.is ∙ (ap (λ x. sides_lines ours theirs ++ x) (one_difference p g.differing h.differing g.differ h.differ) ∙ sym h.is)
