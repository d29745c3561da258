use Rattle.std.proofs.Common.{arith}
use Rattle.std.proofs.lemmas.List.{drop_all}
use Rattle.asm80_text.proofs.Deep.{deep_step, deep_found, deep_end}
use Rattle.asm80_text.proofs.parts.is_deep.Goals as goal

pub returns-then-count-gt-MOST_OPEN : goal.returns-then-count-gt-MOST_OPEN
returns-then-count-gt-MOST_OPEN c = deep_found c.loop-token.count c.open_after-count.result c.loop-token.token-index _ _ _ c.loop-token-test.true c.token-item.is c.open_after-count.ensures c.loop-token.invariant.few c.if-count-gt-MOST_OPEN.true c.loop-token.invariant.same

pub loop-token-preserved : goal.loop-token-preserved
loop-token-preserved c = record {
  same = deep_step c.loop-token.count c.open_after-count.result c.loop-token.token-index _ _ _ c.loop-token-test.true c.token-item.is c.open_after-count.ensures c.loop-token.invariant.few c.loop-token.invariant.same;
  few = omega (arith, c.if-count-gt-MOST_OPEN.false);
}

pub returns : goal.returns
returns c = deep_end c.loop-token.count _ _ (drop_all c.loop-token.token-index c.args.part.now c.loop-token-test.false) c.loop-token.invariant.few c.loop-token.invariant.same
