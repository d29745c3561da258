-- A walk that came to its end.
use Rattle.std.proofs.Common.{Result, Ok, Err}
use Rattle.xlt_pool.specs.Contents.{Contents}
use Rattle.sym_block_def.specs.declared.reason.Reason.{Reason}
use Rattle.sym_block_def.specs.Outcome.{Outcome}
use Rattle.sym_micro.specs.declared.run.Run.{Run}
use Rattle.sym_run.specs.declared.ends.End.{End}
use Rattle.sym_run.specs.Ends.{EndStands}
use Rattle.sym_run.specs.Outcomes.{OutcomeIds, WalkComesTo}

abbrev pub ids_of : Run → End → OutcomeIds
ids_of r end = record { actions = r.actions.items; held = r.held; sp = r.sp; exit = end.exit; direct = end.direct }

pub comes_to_end : (pool : Contents) (r : Run) (tree : Result Outcome Reason) (end : End) → EndStands pool r tree (Ok end) → WalkComesTo pool (ids_of r end) tree (Ok tt)
comes_to_end pool r (Ok x) end h = record {
  held_given = h.held_given;
  held = h.held;
  sp_given = h.sp_given;
  sp = h.sp;
  actions_given = h.actions_given;
  actions = h.actions;
  exit = h.exit;
  direct = h.direct;
}
comes_to_end pool r (Err reason) end h = absurd h

pub comes_to_reason : (pool : Contents) (r : Run) (ids : OutcomeIds) (tree : Result Outcome Reason) (q : Reason) → EndStands pool r tree (Err q) → WalkComesTo pool ids tree (Err q)
comes_to_reason pool r ids (Ok x) q h = absurd h
comes_to_reason pool r ids (Err reason) q h = h
