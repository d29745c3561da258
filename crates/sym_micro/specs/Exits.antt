-- What the ids of an exit and of an outcome stand for.
use Rattle.std.specs.Prelude.{◌≡◌, ℕ, ◌≤◌, Bool, Option, IsSome, MatchOption}
use Rattle.std.specs.Vec.{vec_capacity}
use Rattle.xlt_pool.specs.Contents.{Contents}
use Rattle.sym_terms.specs.Trees.{tree_in, IsGiven, AreTerms, PoolGrows}
use Rattle.sym_block_def.specs.Outcome.{Way, Goto, ByTerms, Call, Sys, SysReturn, Boot, Leave, In, Out, Exit, One, Two, Outcome}
use Rattle.sym_micro.specs.declared.outcome.Way.{Way as WayIds}
use Rattle.sym_micro.specs.declared.outcome.Way.TheVariants.{Goto as GotoIds, ByTerms as ByTermsIds, Call as CallIds, Sys as SysIds, SysReturn as SysReturnIds, Boot as BootIds, Leave as LeaveIds, In as InIds, Out as OutIds}
use Rattle.sym_micro.specs.declared.outcome.Exit.{Exit as ExitIds}
use Rattle.sym_micro.specs.declared.run.Run.{Run}
use Rattle.sym_micro.specs.Stands.{trees_of_held, trees_of_actions, HeldIsGiven, ActionsAreGiven}
use Rattle.sym_micro.specs.declared.outcome.Exit.TheVariants.{One as OneIds, Two as TwoIds}

abbrev pub tree_of_way : Contents → WayIds → Way
tree_of_way pool (GotoIds q) = Goto q
tree_of_way pool (ByTermsIds h l) = ByTerms (tree_in pool h) (tree_in pool l)
tree_of_way pool (CallIds q back) = Call q back
tree_of_way pool (SysIds back) = Sys back
tree_of_way pool SysReturnIds = SysReturn
tree_of_way pool BootIds = Boot
tree_of_way pool LeaveIds = Leave
tree_of_way pool (InIds port next) = In port next
tree_of_way pool (OutIds port next) = Out port next

abbrev pub WayIsGiven : Contents → WayIds → Type 0
WayIsGiven pool (ByTermsIds h l) = IsGiven pool h × IsGiven pool l
WayIsGiven pool way = Unit {0}

abbrev pub tree_of_exit : Contents → ExitIds → Exit
tree_of_exit pool (OneIds way) = One (tree_of_way pool way)
tree_of_exit pool (TwoIds f value a b) = Two (tree_in pool f) value (tree_of_way pool a) (tree_of_way pool b)

abbrev pub ExitIsGiven : Contents → ExitIds → Type 0
ExitIsGiven pool (OneIds way) = WayIsGiven pool way
ExitIsGiven pool (TwoIds f value a b) = IsGiven pool f × WayIsGiven pool a × WayIsGiven pool b

-- ids stand for this way, and for this exit
pub record WayIs (pool : Contents) (tree : Way) (way : WayIds) : Type 0 where
  pub given : WayIsGiven pool way
  pub is : tree_of_way pool way ≡ tree

pub record ExitIs (pool : Contents) (tree : Exit) (exit : ExitIds) : Type 0 where
  pub given : ExitIsGiven pool exit
  pub is : tree_of_exit pool exit ≡ tree

-- A way is found, for which so many nodes join at most; there is none only where there is no room for a node more, and with so much room
-- there is one.
pub record FindsWay (old new : Contents) (nodes : ℕ) (tree : Way) (found : Option WayIds) : Type 0 where
  pub grows : PoolGrows old new nodes
  pub terms : AreTerms new
  pub gives : MatchOption found (new.spare ≡ 0) (WayIs new tree)
  pub enough : nodes ≤ old.spare → IsSome found

pub record FindsExit (old new : Contents) (nodes : ℕ) (tree : Exit) (found : Option ExitIds) : Type 0 where
  pub grows : PoolGrows old new nodes
  pub terms : AreTerms new
  pub gives : MatchOption found (new.spare ≡ 0) (ExitIs new tree)
  pub enough : nodes ≤ old.spare → IsSome found

-- a run and its exit stand for an outcome; `asks` says whether the system is called by INT 224 itself
pub record OutcomeIs (pool : Contents) (r : Run) (end : ExitIds) (asks : Bool) (x : Outcome) : Type 0 where
  pub held_given : HeldIsGiven pool r.held
  pub held : trees_of_held pool r.held ≡ x.held
  pub sp_given : IsGiven pool r.sp
  pub sp : tree_in pool r.sp ≡ x.sp
  pub actions_given : ActionsAreGiven pool r.actions.items
  pub actions : trees_of_actions pool r.actions.items ≡ x.actions
  pub exit : ExitIs pool x.exit end
  pub direct : asks ≡ x.direct

-- A run to its end: so many nodes join at most, and with its exit it stands for an outcome. There is no answer only where there is no
-- room for a node more; with so much room there is one.
pub record RunsTo (old new : Contents) (r : Run) (nodes : ℕ) (direct : Bool) (x : Outcome) (exit : Option ExitIds) : Type 0 where
  pub grows : PoolGrows old new nodes
  pub terms : AreTerms new
  pub capacity : vec_capacity r.actions ≡ 512
  pub gives : MatchOption exit (new.spare ≡ 0) (λ e. OutcomeIs new r e direct x)
  pub enough : nodes ≤ old.spare → IsSome exit
