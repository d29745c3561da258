-- Of two terms one pair is the smallest.
use Rattle.std.proofs.Common.{◌≡◌, ◌∙◌, Option, Some, refl, sym, subst}
use Rattle.std.proofs.lemmas.Option.{same_Some}
use Rattle.block_explain.specs.Smallest.{TermPair, Smallest, here, deeper}

none_is_some : (q : TermPair) → Option.None ≡ Some q → ⊥
none_is_some q e = absurd (cc)

pub one_smallest : {p q r : TermPair} → Smallest p q → Smallest p r → q ≡ r
one_smallest (here e) (here f) = refl
one_smallest (here e) (deeper {q = b} f h) = absurd (none_is_some b (sym e ∙ f))
one_smallest (deeper {q = a} e g) (here f) = absurd (none_is_some a (sym f ∙ e))
one_smallest (deeper {q = a} e g) (deeper {q = b} {r = z} f h) = one_smallest g (subst (λ s. Smallest s z) (same_Some b a (sym f ∙ e)) h)
