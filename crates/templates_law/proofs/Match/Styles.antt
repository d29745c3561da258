-- The style that leaves nothing out and the lean style respect what is needed.
use Rattle.std.proofs.Common.{refl}
use Rattle.templates_law.specs.Match.Own.{StylesRespectNeeds}

pub respected : StylesRespectNeeds
respected = record {
  plain = λ p n. record { saves = λ x h e f. refl; directs = λ x h e. absurd (cc) };
  lean = λ p n. record { saves = λ x h e f. f; directs = λ x h e. e };
}
