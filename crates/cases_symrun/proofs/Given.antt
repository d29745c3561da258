-- What stands for an outcome is given.
use Rattle.std.proofs.Common.{◌≡◌, Option, Some, None, MatchOption, Result, Ok, Err}
use Rattle.xlt_pool.specs.Contents.{Contents}
use Rattle.sym_block_def.specs.declared.reason.Reason.{Reason}
use Rattle.sym_block_def.specs.Outcome.{Outcome}
use Rattle.sym_run.specs.Outcomes.{OutcomeIds, OutcomeStands, WorkState, WalkComesTo}
use Rattle.block_check.specs.Comparing.{OutcomeIsGiven}
use Rattle.cases_symrun.specs.Given.{IsRun}

outcome_given : (pool : Contents) (ids : OutcomeIds) (x : Outcome) → OutcomeStands pool ids x → OutcomeIsGiven pool ids
outcome_given pool ids x h = record { held = h.held_given; sp = h.sp_given; actions = h.actions_given; exit = h.exit.given }

pub is_run : (r : Option (Result (Unit {0}) Reason)) (w : WorkState) (tree : Result Outcome Reason) (x : Outcome) → MatchOption r (w.terms.spare ≡ 0) (λ came. WalkComesTo w.terms w.second tree came) → OutcomeStands w.terms w.first x → IsRun r w
is_run None w tree x h first = tt
is_run (Some (Err r)) w tree x h first = tt
is_run (Some (Ok u)) w (Err r) x h first = absurd h
is_run (Some (Ok u)) w (Ok y) x h first = record { first = outcome_given w.terms w.first x first; second = outcome_given w.terms w.second y h }
