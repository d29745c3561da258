use Rattle.std.proofs.Common.{◌≡◌, ◌==◌, ℕ, ◌+◌, ◌≤◌, not, length, ap, sym, subst, arith}
use borrow.Author.Tests.{eq-eqb}
use Rattle.std.proofs.lemmas.Bool.{ne_eqb}
use Rattle.std.proofs.lemmas.List.Sums.{prefix_len-drop_yes, prefix_len-drop_no, prefix_len-drop_all}
use Rattle.commented_text.proofs.lines.len_before.Goals as goal

step : (i rest all next : ℕ) → all ≡ i + rest → rest ≡ 1 + next → all ≡ i + 1 + next
step i rest all next so_far one = omega (arith, so_far, one)

stop : (count i rest all : ℕ) → count ≡ i → all ≡ i + rest → rest ≡ 0 → count ≡ all
stop count i rest all at so_far none = omega (arith, at, so_far, none)

pub loop-b-preserved : goal.loop-b-preserved
loop-b-preserved c = record {
  at = ap (λ n. n + 1) c.loop-b.invariant.at;
  so_far = step c.loop-b.b-index _ _ _ c.loop-b.invariant.so_far (prefix_len-drop_yes (λ b. not (b == c.args.end)) c.args.bytes.now c.loop-b.b-index 0 c.loop-b-test.true (ap not (ne_eqb _ c.args.end c.if-b-end.false)));
}

pub returns-then-b-end : goal.returns-then-b-end
returns-then-b-end c = record {
  value = stop c.loop-b.count c.loop-b.b-index _ _ c.loop-b.invariant.at c.loop-b.invariant.so_far (prefix_len-drop_no (λ b. not (b == c.args.end)) c.args.bytes.now c.loop-b.b-index 0 c.loop-b-test.true (ap not (eq-eqb _ c.args.end c.if-b-end.true)));
  within = subst (λ n. n ≤ length c.args.bytes.now) (sym c.loop-b.invariant.at) c.loop-b.auto.b-index-end;
}

pub returns : goal.returns
returns c = record {
  value = stop c.loop-b.count c.loop-b.b-index _ _ c.loop-b.invariant.at c.loop-b.invariant.so_far (prefix_len-drop_all (λ b. not (b == c.args.end)) c.args.bytes.now c.loop-b.b-index c.loop-b-test.false);
  within = subst (λ n. n ≤ length c.args.bytes.now) (sym c.loop-b.invariant.at) c.loop-b.auto.b-index-end;
}
