use Rattle.std.proofs.Common.{rules, ◌≡◌, ◌∙◌, ◌==◌, ◌&&◌, Bool, true, false, List, [], ◌∷◌, length, ap, subst, sym}
use Rattle.xlt_pool.specs.Contents.{Contents}
use Rattle.sym_block_def.specs.Agree.{action_agrees, actions_agree}
use Rattle.sym_micro.specs.declared.outcome.Action.{Action}
use Rattle.sym_micro.specs.Stands.{ActionsAreGiven, tree_of_action, trees_of_actions}
use Rattle.block_check.proofs.actions.actions_agree.Goals as goal

none_left : (pool : Contents) (rest partners : List Action) (is_empty : Bool) → length rest ≡ 0 → is_empty ≡ (length partners == 0) → is_empty ≡ actions_agree (trees_of_actions pool rest) (trees_of_actions pool partners)
none_left pool [] [] is_empty h e = e
none_left pool [] (y ∷ ys) is_empty h e = let no : (length (y ∷ ys) == 0) ≡ false = search rules in e ∙ no
none_left pool (x ∷ xs) partners is_empty h e = absurd (cc)

one_more : (pool : Contents) (rest partners xs ys : List Action) (x y : Action) → rest ≡ x ∷ xs → partners ≡ y ∷ ys → action_agrees (tree_of_action pool x) (tree_of_action pool y) ≡ true → actions_agree (trees_of_actions pool xs) (trees_of_actions pool ys) ≡ actions_agree (trees_of_actions pool rest) (trees_of_actions pool partners)
one_more pool rest partners xs ys x y left right agree = rw (left, right) (ap (λ b. b && actions_agree (trees_of_actions pool xs) (trees_of_actions pool ys)) (sym agree))

pub loop-one-preserved : goal.loop-one-preserved
loop-one-preserved c =
    let pool = c.args.work.now.terms in
    let left = c.in-Some.ensures.cases.0 in
    let right = c.in-Some-split_first.ensures.cases.0 in
    record {
      ours = (subst (ActionsAreGiven pool) left c.loop-one.invariant.ours).1;
      theirs = (subst (ActionsAreGiven pool) right c.loop-one.invariant.theirs).1;
      same =
          one_more pool c.loop-one.rest.now c.loop-one.partners.now c.in-Some.others.now c.in-Some-split_first.more.now c.in-Some.one.now c.in-Some-split_first.other.now left right (sym c.action_agrees.ensures ∙ c.if-action_agrees.true)
          ∙ c.loop-one.invariant.same;
    }

pub returns : goal.returns
returns c =
    none_left c.args.work.now.terms c.loop-one.rest.now c.loop-one.partners.now c.is_empty.result c.in_default.ensures.cases c.is_empty.ensures
    ∙ c.loop-one.invariant.same
