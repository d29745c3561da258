use Rattle.std.proofs.Common.{◌≡◌, length}
use Rattle.sym_micro.specs.Stands.{trees_of_actions, ActionsAreGiven}
use Rattle.block_explain.specs.Apart.{first_apart}
use Rattle.block_explain.proofs.apart.first_apart.Given as goal

abbrev pub invariant-loop-one : goal.invariant-loop-one
invariant-loop-one l = record {
  ours : ActionsAreGiven l.work.terms l.rest;
  theirs : ActionsAreGiven l.work.terms l.partners;
  same : first_apart (trees_of_actions l.work.terms l.rest) (trees_of_actions l.work.terms l.partners) ≡ first_apart (trees_of_actions l.work.terms l.ours) (trees_of_actions l.work.terms l.theirs);
}

abbrev pub decreases-loop-one : goal.decreases-loop-one
decreases-loop-one l = length l.rest
