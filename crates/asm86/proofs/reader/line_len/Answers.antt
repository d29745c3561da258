use Rattle.std.proofs.Common.{◌≡◌, ℕ, ◌+◌, ◌≤◌, true, false, cond, length, ap, sym, subst, arith}
use Rattle.std.proofs.lemmas.Bool.{ne_eqb}
use Rattle.std.proofs.lemmas.List.Sums.{prefix_len-drop_yes, prefix_len-drop_no, prefix_len-drop_all}
use Rattle.asm86.specs.Stream.{is_not_lf}
use Rattle.asm86.proofs.reader.line_len.Goals as goal

step : (i rest all next : ℕ) → all ≡ i + rest → rest ≡ 1 + next → all ≡ i + 1 + next
step i rest all next so_far one = omega (arith, so_far, one)

stop : (count i rest all : ℕ) → count ≡ i → all ≡ i + rest → rest ≡ 0 → count ≡ all
stop count i rest all at so_far none = omega (arith, at, so_far, none)

pub loop-b-preserved : goal.loop-b-preserved
loop-b-preserved c = record {
  at = ap (λ n. n + 1) c.loop-b.invariant.at;
  so_far = step c.loop-b.b-index _ _ _ c.loop-b.invariant.so_far (prefix_len-drop_yes is_not_lf c.args.bytes.now c.loop-b.b-index 0 c.loop-b-test.true (ap (λ b. cond b false true) (ne_eqb _ 10 c.if-b-eq10.false)));
}

pub returns-then-b-eq10 : goal.returns-then-b-eq10
returns-then-b-eq10 c = record {
  value = stop c.loop-b.count c.loop-b.b-index _ _ c.loop-b.invariant.at c.loop-b.invariant.so_far (prefix_len-drop_no is_not_lf c.args.bytes.now c.loop-b.b-index 0 c.loop-b-test.true (ap is_not_lf c.if-b-eq10.true));
  within = subst (λ n. n ≤ length c.args.bytes.now) (sym c.loop-b.invariant.at) c.loop-b.auto.b-index-end;
}

pub returns : goal.returns
returns c = record {
  value = stop c.loop-b.count c.loop-b.b-index _ _ c.loop-b.invariant.at c.loop-b.invariant.so_far (prefix_len-drop_all is_not_lf c.args.bytes.now c.loop-b.b-index c.loop-b-test.false);
  within = subst (λ n. n ≤ length c.args.bytes.now) (sym c.loop-b.invariant.at) c.loop-b.auto.b-index-end;
}
