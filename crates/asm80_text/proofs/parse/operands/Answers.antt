use Rattle.std.proofs.Common.{length, ap, arith}
use Rattle.std.proofs.lemmas.List.{map_push}
use Rattle.asm80_text.proofs.Operands.{ended, breaks, holds_on, only_on, operand_shorter, is_nil, is_no_nil}
use Rattle.asm80_text.proofs.parse.operands.Goals as goal

pub returns-then-is_empty : goal.returns-then-is_empty
returns-then-is_empty c = rw (c.in_ok-push.ensures.items, map_push) (ended _ _ _ _ _ c.loop-args.invariant.holds c.loop-args.invariant.only c.in_ok-arg.ensures (is_nil _ _ c.is_empty.ensures c.if-is_empty.true))

pub returns-in_default : goal.returns-in_default
returns-in_default c = breaks _ _ _ _ _ c.loop-args.invariant.holds c.loop-args.invariant.only c.in_ok-arg.ensures (is_no_nil _ _ c.is_empty.ensures c.if-is_empty.false) c.in_default.ensures

pub loop-args-smaller : goal.loop-args-smaller
loop-args-smaller c = omega (arith, operand_shorter c.in_ok-arg.ensures.holds, ap length c.in-Some.ensures)

pub loop-args-preserved : goal.loop-args-preserved
loop-args-preserved c = rw (c.in_ok-push.ensures.items, map_push) (record {
  holds = holds_on _ _ _ _ _ c.loop-args.invariant.holds c.loop-args.invariant.only c.in_ok-arg.ensures _ c.in-Some.ensures;
  only = only_on _ _ _ _ _ c.loop-args.invariant.holds c.loop-args.invariant.only c.in_ok-arg.ensures _ c.in-Some.ensures;
})
