use Rattle.std.proofs.Common.{◌∙◌}
use Rattle.asm86.proofs.Listings.{add_fails, add_more}
use Rattle.asm86.proofs.listing.Listing.add.Goals as goal

pub returns-in_err-push : goal.returns-in_err-push
returns-in_err-push c = add_fails c.args.number c.loop-stmt.stmt-index c.args.stmts.now _ c.args.self.now c.loop-stmt.self c.push.new.self c.in_err-push.field-0.0 c.from_residual.result c.loop-stmt.invariant.lines c.loop-stmt-test.true c.in_err-push.ensures c.from_residual.ensures.1

pub loop-stmt-preserved : goal.loop-stmt-preserved
loop-stmt-preserved c = record {
  listed = c.in_ok-push.ensures.0;
  lines = add_more c.args.number c.loop-stmt.stmt-index c.args.stmts.now _ c.args.self.now.lines.items c.loop-stmt.self.lines.items c.push.new.self.lines.items c.loop-stmt.invariant.lines c.loop-stmt-test.true c.in_ok-push.ensures.1;
  number = c.in_ok-push.ensures.2 ∙ c.loop-stmt.invariant.number;
}
