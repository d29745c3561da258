use Rattle.std.proofs.Common.{length, ap, arith}
use Rattle.asm80_text.proofs.Quotes.{goes_on, doubled, closes, open_ended}
use Rattle.asm80_text.proofs.strings.quoted.Goals as goal

pub loop-b-preserved-then-b-ne39 : goal.loop-b-preserved-then-b-ne39
loop-b-preserved-then-b-ne39 c = record { value = rw c.in_ok-push.ensures.items (goes_on _ _ _ _ _ c.in-Some.ensures c.if-b-ne39.true c.loop-b.invariant.value); shorter = omega (arith, ap length c.in-Some.ensures) }

pub returns-in_default-after_quote-clause-value : goal.returns-in_default-after_quote-clause-value
returns-in_default-after_quote-clause-value c = closes _ _ _ _ (rw c.if-b-ne39.false at c.in-Some.ensures) c.in_default-after_quote.ensures c.loop-b.invariant.value

pub loop-b-preserved : goal.loop-b-preserved
loop-b-preserved c = record { value = rw c.in_ok-push-2.ensures.items (doubled _ _ _ _ _ (rw c.if-b-ne39.false at c.in-Some.ensures) c.in-Some-after_quote.ensures c.loop-b.invariant.value); shorter = omega (arith, ap length c.in-Some.ensures, ap length c.in-Some-after_quote.ensures) }

pub returns-clause-value : goal.returns-clause-value
returns-clause-value c = open_ended _ _ _ c.in_default.ensures c.loop-b.invariant.value
