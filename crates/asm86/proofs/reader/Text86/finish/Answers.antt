use Rattle.std.proofs.Common.{◌≡◌, refl, ap, ◌∙◌, subst}
use Rattle.std.specs.Prelude.{MatchResult}
use Rattle.asm86.specs.Reader.{TextReader}
use Rattle.asm86.specs.Stream.{has_end}
use Rattle.asm86.proofs.Whole.{agrees, fault_stands}
use Rattle.asm86.proofs.reader.Text86.finish.Goals as goal

pub returns-clause-only : goal.returns-clause-only
returns-clause-only c = λ stream outcome h g. agrees stream c.outcome.result outcome (c.outcome.ensures.value stream (λ ne. c.end.ensures.whole ne stream h)) g

pub returns-clause-outcome : goal.returns-clause-outcome
returns-clause-outcome c = λ stream h. c.outcome.ensures.value stream (λ ne. c.end.ensures.whole ne stream h)

pub returns-clause-stands : goal.returns-clause-stands
returns-clause-stands c = fault_stands c.args.self c.end.new.self c.outcome.result c.args.self.fault refl c.end.ensures.stands c.outcome.ensures.stands

pub returns-clause-ended : goal.returns-clause-ended
returns-clause-ended c = λ none ended.
    let same = c.end.ensures.ended ended in
    subst (λ (reader : TextReader). MatchResult c.outcome.result (λ v. v.items ≡ reader.lines) (λ _. ⊥)) same
    (c.outcome.ensures.ended (ap (λ (reader : TextReader). reader.fault) same ∙ none) (ap (λ (reader : TextReader). has_end reader.lines) same ∙ ended))
