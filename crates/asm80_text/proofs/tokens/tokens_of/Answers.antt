use Rattle.std.proofs.Common.{◌∷◌, [], Some, None, sym, ◌∙◌, append_assoc}
use Rattle.std.proofs.lemmas.List.{append-nil}
use Rattle.std.proofs.lemmas.List.Elements.{All-push}
use Rattle.asm80_text.specs.Tokens.{IsLawful, ends, blank, comment, token, faulty}
use Rattle.asm80_text.proofs.tokens.tokens_of.Goals as goal

pub loop-b-preserved-then-is_blank : goal.loop-b-preserved-then-is_blank
loop-b-preserved-then-is_blank g c = record { reads = λ ts f x. c.loop-b.invariant.reads ts f (rw c.in-Some.ensures (blank (sym c.is_blank.ensures ∙ c.if-is_blank.true) x)); lawful = c.loop-b.invariant.lawful }

pub loop-b-preserved-then-b-eq59 : goal.loop-b-preserved-then-b-eq59
loop-b-preserved-then-b-eq59 g c = record { reads = λ ts f x. c.loop-b.invariant.reads ts f (rw (c.in-Some.ensures, c.if-b-eq59.true) (comment (rw (c.split_at.ensures.back, c.comment_len.ensures.value) at x))); lawful = c.loop-b.invariant.lawful }

pub loop-b-preserved : goal.loop-b-preserved
loop-b-preserved g c = record {
  reads = λ ts f x.
      rw (c.in_ok-push-in-Ok.ensures.items, append_assoc)
      (c.loop-b.invariant.reads (c.in-Ok.token ∷ ts) f (rw c.in-Some.ensures (token (sym c.is_blank.ensures ∙ c.if-is_blank.false) c.if-b-eq59.false (rw c.in-Some.ensures at c.in-Ok.ensures.value) x)));
  lawful = rw c.in_ok-push-in-Ok.ensures.items (All-push (IsLawful g.N.Notation.spelling) _ _ c.loop-b.invariant.lawful c.in-Ok.ensures.lawful);
}

pub returns-in-Rule-clause-tokens : goal.returns-in-Rule-clause-tokens
returns-in-Rule-clause-tokens g c = rw append-nil at (c.loop-b.invariant.reads [] (Some c.in-Rule.rule) (rw c.in-Some.ensures (faulty (sym c.is_blank.ensures ∙ c.if-is_blank.false) c.if-b-eq59.false (rw (c.in-Some.ensures, c.in-Rule.is) at c.in-Err.ensures.value))))

pub returns-clause-tokens : goal.returns-clause-tokens
returns-clause-tokens g c = rw append-nil at (c.loop-b.invariant.reads [] None (rw c.in_default.ensures ends))
