use Rattle.std.proofs.Common.{◌≡◌, ℕ, List, [], ◌∷◌, ◌++◌, length, ap, sym, refl, ◌∙◌, arith}
use Rattle.asm80_text.specs.Letters.{significant}
use Rattle.asm80_text.proofs.Significant.{last_more, last_skipped, none}
use Rattle.asm80_text.proofs.numbers.split_last.Goals as goal

nothing : (xs : List ℕ) → length xs ≡ 0 → xs ≡ []
nothing [] e = refl
nothing (x ∷ xs) e = absurd (omega arith)

pub returns-then-last-ne36 : goal.returns-then-last-ne36
returns-then-last-ne36 c =
    c.loop-last.invariant ∙ ap significant c.in-Some.ensures.cases.0 ∙ last_more c.in-Some.front.now c.in-Some.last.now c.if-last-ne36.true
    ∙ ap (λ x. significant c.in-Some.front.now ++ x ∷ []) (sym c.upper.ensures)

pub loop-last-preserved : goal.loop-last-preserved
loop-last-preserved c = c.loop-last.invariant ∙ ap significant c.in-Some.ensures.cases.0 ∙ last_skipped c.in-Some.front.now c.in-Some.last.now c.if-last-ne36.false

pub returns : goal.returns
returns c = c.loop-last.invariant ∙ ap significant (nothing c.loop-last.rest.now c.in_default.ensures.cases) ∙ none
