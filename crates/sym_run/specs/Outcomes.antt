-- What a Work holds: a pool of terms, an outcome over its ids, and the parts that are kept.
use Rattle.std.specs.Prelude.{◌≡◌, Bool, List, Result, Ok, Err}
use Rattle.cells.specs.Parts.{Parts}
use Rattle.xlt_pool.specs.Contents.{Contents}
use Rattle.sym_terms.specs.declared.head.Term.{Term as TermId}
use Rattle.sym_terms.specs.Trees.{tree_in, IsGiven}
use Rattle.sym_block_def.specs.declared.reason.Reason.{Reason}
use Rattle.sym_block_def.specs.Outcome.{Outcome}
use Rattle.sym_micro.specs.declared.outcome.Action.{Action as ActionId}
use Rattle.sym_micro.specs.declared.outcome.Held.{Held as HeldIds}
use Rattle.sym_micro.specs.declared.outcome.Exit.{Exit as ExitIds}
use Rattle.sym_micro.specs.Stands.{trees_of_held, trees_of_actions, HeldIsGiven, ActionsAreGiven}
use Rattle.sym_micro.specs.Exits.{ExitIs}

-- an outcome over ids
pub record OutcomeIds : Type 0 where
  pub actions : List ActionId
  pub held : HeldIds
  pub sp : TermId
  pub exit : ExitIds
  pub direct : Bool

-- the ids of an outcome are given, and it stands for this one, its terms one by one
pub record OutcomeStands (pool : Contents) (ids : OutcomeIds) (x : Outcome) : Type 0 where
  pub held_given : HeldIsGiven pool ids.held
  pub held : trees_of_held pool ids.held ≡ x.held
  pub sp_given : IsGiven pool ids.sp
  pub sp : tree_in pool ids.sp ≡ x.sp
  pub actions_given : ActionsAreGiven pool ids.actions
  pub actions : trees_of_actions pool ids.actions ≡ x.actions
  pub exit : ExitIs pool x.exit ids.exit
  pub direct : ids.direct ≡ x.direct

-- a walk through a text comes to an outcome, or to the same reason
abbrev pub WalkComesTo : Contents → OutcomeIds → Result Outcome Reason → Result (Unit {0}) Reason → Type 0
WalkComesTo pool ids (Ok x) (Ok u) = OutcomeStands pool ids x
WalkComesTo pool ids (Err r) (Err q) = q ≡ r
WalkComesTo pool ids tree came = ⊥

pub record WorkState : Type 0 where
  pub terms : Contents
  pub first : OutcomeIds
  pub second : OutcomeIds
  pub keep : Parts
