use Rattle.std.proofs.Common.{◌≡◌, length}
use Rattle.sym_block_def.specs.Agree.{actions_agree}
use Rattle.sym_micro.specs.Stands.{trees_of_actions, ActionsAreGiven}
use Rattle.block_check.proofs.actions.actions_agree.Given as goal

abbrev pub invariant-loop-one : goal.invariant-loop-one
invariant-loop-one l = record {
  ours : ActionsAreGiven l.work.terms l.rest;
  theirs : ActionsAreGiven l.work.terms l.partners;
  same : actions_agree (trees_of_actions l.work.terms l.rest) (trees_of_actions l.work.terms l.partners) ≡ actions_agree (trees_of_actions l.work.terms l.ours) (trees_of_actions l.work.terms l.theirs);
}

abbrev pub decreases-loop-one : goal.decreases-loop-one
decreases-loop-one l = length l.rest
