-- Two outcomes over ids, and what is found of them.
use Rattle.std.specs.Prelude.{◌≡◌, Bool, ◌&&◌, ◌||◌, not, cond, Option, Some, None, Result, Ok}
use Rattle.std.specs.List.{find}
use Rattle.cells.specs.declared.Part.{Part}
use Rattle.cells.specs.Parts.{Parts, has, all_parts}
use Rattle.xlt_pool.specs.Contents.{Contents}
use Rattle.sym_terms.specs.Trees.{tree_in, IsGiven}
use Rattle.sym_block_def.specs.declared.reason.Reason.{Reason}
use Rattle.sym_block_def.specs.declared.reason.Reason.TheVariants.{Missing, Length, Form, Actions, Exits}
use Rattle.sym_block_def.specs.Outcome.{Outcome, term_in}
use Rattle.sym_block_def.specs.Agree.{agrees, actions_agree, exit_agrees}
use Rattle.sym_block_def.specs.BlockMatch.{kept_reason}
use Rattle.sym_micro.specs.Stands.{trees_of_held, trees_of_actions, HeldIsGiven, ActionsAreGiven}
use Rattle.sym_micro.specs.Exits.{tree_of_exit, ExitIsGiven}
use Rattle.sym_run.specs.Outcomes.{OutcomeIds, OutcomeStands, WalkComesTo}
pub use Rattle.sym_run.specs.Outcomes.{WorkState}
use Rattle.block_check.specs.declared.block.Verdict.{Verdict}
use Rattle.block_check.specs.declared.block.Verdict.TheVariants.{Shown, NotShown}

-- the outcome of ids
abbrev pub outcome_of : Contents → OutcomeIds → Outcome
outcome_of pool ids = record {
  actions = trees_of_actions pool ids.actions;
  held = trees_of_held pool ids.held;
  sp = tree_in pool ids.sp;
  exit = tree_of_exit pool ids.exit;
  direct = ids.direct;
}

pub record OutcomeIsGiven (pool : Contents) (ids : OutcomeIds) : Type 0 where
  pub actions : ActionsAreGiven pool ids.actions
  pub held : HeldIsGiven pool ids.held
  pub sp : IsGiven pool ids.sp
  pub exit : ExitIsGiven pool ids.exit

-- both outcomes of a work are given
pub record AreReady (w : WorkState) : Type 0 where
  pub first : OutcomeIsGiven w.terms w.first
  pub second : OutcomeIsGiven w.terms w.second

abbrev pub first_outcome : WorkState → Outcome
first_outcome w = outcome_of w.terms w.first

abbrev pub second_of : WorkState → Outcome
second_of w = outcome_of w.terms w.second

-- a part that is lost, or is kept and does not agree
abbrev pub is_bad_by : Parts → Parts → Outcome → Outcome → Part → Bool
is_bad_by kept lost x y q =
    (y.direct && has lost q) || (has kept q && not (agrees (term_in x.held q) (term_in y.held q)))

-- the first reason, of two outcomes, the parts that are kept and those that a direct call loses
abbrev pub reason_by : Parts → Parts → Outcome → Outcome → Option Reason
reason_by kept lost x y =
    cond (actions_agree x.actions y.actions)
    (cond (exit_agrees x.exit y.exit) (kept_reason x y (find (is_bad_by kept lost x y) all_parts)) (Some Exits))
    (Some Actions)

-- what is answered
abbrev pub verdict_of : Option Reason → Verdict
verdict_of None = Shown
verdict_of (Some r) = NotShown r

-- a work holds two outcomes: that of a block, and that of the walk through the text
pub record AreCompared (w : WorkState) (block walked : Outcome) : Type 0 where
  pub ready : AreReady w
  pub first : first_outcome w ≡ block
  pub second : second_of w ≡ walked

-- both outcomes of the work are given, unless the reason is one that the walk has met
abbrev pub AreReadyFor : Reason → WorkState → Type 0
AreReadyFor Missing w = Unit {0}
AreReadyFor Length w = Unit {0}
AreReadyFor Form w = Unit {0}
AreReadyFor r w = AreReady w

abbrev pub AreReadyAfter : Verdict → WorkState → Type 0
AreReadyAfter Shown w = AreReady w
AreReadyAfter (NotShown r) w = AreReadyFor r w

-- after Shown the outcomes of the work are those of the block and of the walk through the text
pub record HoldsOutcomes (w : WorkState) (block : Outcome) (walked : Result Outcome Reason) : Type 0 where
  pub first : OutcomeStands w.terms w.first block
  pub second : WalkComesTo w.terms w.second walked (Ok tt)

abbrev pub AfterShown : Verdict → Type 0 → Type 0
AfterShown Shown claim = claim
AfterShown (NotShown r) claim = Unit {0}
