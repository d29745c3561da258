use Rattle.std.proofs.Common.{◌≡◌, length}
use Rattle.cmd_explain.proofs.Opening.{Remains, NeverBegins}
use Rattle.cmd_explain.proofs.frame.tell_unlike.Given as goal

abbrev pub invariant-loop-statement : goal.invariant-loop-statement
invariant-loop-statement l = record {
  kept : l.told.items ≡ l.initial.told.items;
  remains : Remains l.wanted l.lines l.left l.rest;
  never : NeverBegins l.left l.rest;
}

abbrev pub decreases-loop-statement : goal.decreases-loop-statement
decreases-loop-statement l = length l.left
