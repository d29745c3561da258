-- Pairs of terms, and of loads and stores, by their ids.
use Rattle.std.specs.Prelude.{◌≡◌, List, [], ◌∷◌, map, Option, Some, None}
use Rattle.xlt_pool.specs.Contents.{Contents}
use Rattle.sym_terms.specs.Trees.{tree_in, IsGiven}
use Rattle.sym_block_def.specs.Outcome.{Action}
use Rattle.sym_micro.specs.declared.outcome.Action.{Action as ActionId}
use Rattle.sym_micro.specs.Stands.{tree_of_action, ActionIsGiven}
use Rattle.block_explain.specs.declared.apart.ActionPair.{ActionPair as ActionIds}
use Rattle.block_explain.specs.declared.smallest.TermPair.{TermPair as PairIds}
use Rattle.block_explain.specs.Smallest.{TermPair, pair}
use Rattle.block_explain.specs.Apart.{ActionPair}

abbrev pub trees_of : Contents → PairIds → TermPair
trees_of pool p = pair (tree_in pool p.ours) (tree_in pool p.theirs)

abbrev pub trees_of_all : Contents → List PairIds → List TermPair
trees_of_all pool ps = map (trees_of pool) ps

pub record AreBothGiven (pool : Contents) (p : PairIds) : Type 0 where
  pub ours : IsGiven pool p.ours
  pub theirs : IsGiven pool p.theirs

abbrev pub AreAllGiven : Contents → List PairIds → Type 0
AreAllGiven pool [] = Unit {0}
AreAllGiven pool (p ∷ ps) = AreBothGiven pool p × AreAllGiven pool ps

abbrev pub trees_if_any : Contents → Option PairIds → Option TermPair
trees_if_any pool (Some p) = Some (trees_of pool p)
trees_if_any pool None = None

abbrev pub GivenIfAny : Contents → Option PairIds → Type 0
GivenIfAny pool (Some p) = AreBothGiven pool p
GivenIfAny pool None = Unit {0}

-- a pair is found where there is one, and stands for it
pub record PairIsFound (pool : Contents) (trees : Option TermPair) (found : Option PairIds) : Type 0 where
  pub given : GivenIfAny pool found
  pub is : trees_if_any pool found ≡ trees

-- a load or a store, where there is one
abbrev pub tree_of_one : Contents → Option ActionId → Option Action
tree_of_one pool (Some x) = Some (tree_of_action pool x)
tree_of_one pool None = None

abbrev pub IsOneGiven : Contents → Option ActionId → Type 0
IsOneGiven pool (Some x) = ActionIsGiven pool x
IsOneGiven pool None = Unit {0}

pub record AreActionsGiven (pool : Contents) (p : ActionIds) : Type 0 where
  pub ours : IsOneGiven pool p.ours
  pub theirs : IsOneGiven pool p.theirs

pub record ActionsStand (pool : Contents) (p : ActionIds) (trees : ActionPair) : Type 0 where
  pub given : AreActionsGiven pool p
  pub ours : tree_of_one pool p.ours ≡ trees.ours
  pub theirs : tree_of_one pool p.theirs ≡ trees.theirs
