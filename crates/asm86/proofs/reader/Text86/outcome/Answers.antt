use Rattle.std.proofs.Common.{◌≡◌, ◌∙◌, ap, sym, subst, Ok, None, false}
use Rattle.std.proofs.lemmas.Bool.{false≢true}
use Rattle.asm86.specs.Reader.{TextReader}
use Rattle.asm86.specs.Stream.{TextGives, has_end}
use Rattle.asm86.proofs.Whole.{finish_open, finish_ended}
use Rattle.asm86.proofs.reader.Text86.outcome.Goals as goal

pub returns-then-not-is_ended : goal.returns-then-not-is_ended
returns-then-not-is_ended c =
    let none : c.args.self.fault ≡ None = sym (ap (λ (r : TextReader). r.fault) c.self.view_is) ∙ c.in_default.is in
    let goes_on : has_end c.args.self.lines ≡ false = sym (ap (λ (r : TextReader). has_end r.lines) c.self.view_is) ∙ sym (c.is_ended.ensures (c.self.invariant c.in_default.is)) ∙ c.if-not-is_ended.true in
    record {
      value = λ text h. finish_open text c.args.self none goes_on h;
      stands = rw none tt;
      ended = λ _ end. false≢true (sym goes_on ∙ end);
      in_order = tt;
      few = tt;
    }

pub returns-clause-value : goal.returns-clause-value
returns-clause-value c = λ text h.
    subst (λ (r : TextReader). TextGives text (Ok r.lines)) (sym c.self.view_is)
    (finish_ended text c.args.self (sym (ap (λ (r : TextReader). r.fault) c.self.view_is) ∙ c.in_default.is)
    (sym (ap (λ (r : TextReader). has_end r.lines) c.self.view_is) ∙ sym (c.is_ended.ensures (c.self.invariant c.in_default.is)) ∙ c.if-not-is_ended.false) h)

pub returns-clause-stands : goal.returns-clause-stands
returns-clause-stands c = rw (sym (ap (λ (r : TextReader). r.fault) c.self.view_is) ∙ c.in_default.is) tt

pub returns-clause-ended : goal.returns-clause-ended
returns-clause-ended c = λ _ _. ap (λ (r : TextReader). r.lines) c.self.view_is
