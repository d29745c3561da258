use Rattle.std.proofs.Common.{◌≡◌, ◌∙◌, ℕ, suc, ◌+◌, ◌≤◌, ◌⊎◌, inl, inr, [], ◌∷◌, ◌++◌, Some, refl, sym, ap, subst, arith, add-one, le_refl}
use Rattle.xlt_pool.specs.Contents.{Contents}
use Rattle.sym_terms.specs.declared.head.Term.{Term as TermId}
use Rattle.sym_micro.specs.declared.outcome.Action.{Action as ActionId}
use Rattle.sym_micro.specs.declared.outcome.Action.TheVariants.{Load8, Load16, Store8, Store16}
use Rattle.sym_micro.specs.declared.run.Run.{Run}
use Rattle.sym_micro.specs.Machine.{Machine, acts_at, loads_at, stores_at}
use Rattle.sym_micro.specs.Stands.{trees_of_actions, tree_of_action, machine_of}
use Rattle.sym_micro.proofs.Ready.{moved, goes_on_as}
use Rattle.sym_micro.proofs.performing.act.Goals as goal

-- a load counts, and a store does not
is_load : (pool : Contents) (m : Machine) (x : ActionId) → ((a : TermId) × (x ≡ Load8 a)) ⊎ ((a : TermId) × (x ≡ Load16 a)) → loads_at m (tree_of_action pool x) ≡ acts_at m (tree_of_action pool x)
is_load pool m x (inl h) = subst (λ (y : ActionId). loads_at m (tree_of_action pool y) ≡ acts_at m (tree_of_action pool y)) (sym h.1) refl
is_load pool m x (inr h) = subst (λ (y : ActionId). loads_at m (tree_of_action pool y) ≡ acts_at m (tree_of_action pool y)) (sym h.1) refl

is_store : (pool : Contents) (m : Machine) (x : ActionId) → ((a : TermId) × (v : TermId) × (x ≡ Store8 a v)) ⊎ ((a : TermId) × (v : TermId) × (x ≡ Store16 a v)) → stores_at m (tree_of_action pool x) ≡ acts_at m (tree_of_action pool x)
is_store pool m x (inl h) = subst (λ (y : ActionId). stores_at m (tree_of_action pool y) ≡ acts_at m (tree_of_action pool y)) (sym h.2) refl
is_store pool m x (inr h) = subst (λ (y : ActionId). stores_at m (tree_of_action pool y) ≡ acts_at m (tree_of_action pool y)) (sym h.2) refl

pub returns-in-Load8 : goal.returns-in-Load8
returns-in-Load8 c =
    let pool = c.args.terms.now in
    let r = c.args.run.now in
    let s : Run = record (c.args.run.now) { actions = c.push_reserved.new.self; loads = c.args.run.now.loads + 1 } in
    let below : c.args.run.now.loads + 1 ≤ suc c.args.run.now.loads = (omega arith) in
    let trees = trees_of_actions pool r.actions.items ++ tree_of_action pool c.args.action ∷ [] in
    goes_on_as pool pool r s 0 0 1 1
    (λ m. m ≡ record (machine_of pool r) { trace = record { actions = trees; loads = c.args.run.now.loads + 1 } })
    (λ m. m ≡ acts_at (machine_of pool r) (tree_of_action pool c.args.action))
    (Some tt) (le_refl 0) (le_refl 1)
    (moved pool r s c.args.action refl c.push_reserved.ensures.items c.push_reserved.ensures.capacity below c.requires.ready c.requires.given c.requires.room)
    (λ m e. e ∙ ap (λ (n : ℕ). record (machine_of c.args.terms.now c.args.run.now) { trace = record { actions = trees_of_actions c.args.terms.now c.args.run.now.actions.items ++ tree_of_action c.args.terms.now c.args.action ∷ []; loads = n } }) (add-one c.args.run.now.loads)
    ∙ is_load c.args.terms.now (machine_of c.args.terms.now c.args.run.now) c.args.action c.in-Load8.is)

pub returns-in-Store8 : goal.returns-in-Store8
returns-in-Store8 c =
    let pool = c.args.terms.now in
    let r = c.args.run.now in
    let s : Run = record (c.args.run.now) { actions = c.push_reserved.new.self } in
    let below : c.args.run.now.loads ≤ suc c.args.run.now.loads = (omega arith) in
    let trees = trees_of_actions pool r.actions.items ++ tree_of_action pool c.args.action ∷ [] in
    goes_on_as pool pool r s 0 0 1 1
    (λ m. m ≡ record (machine_of pool r) { trace = record { actions = trees; loads = c.args.run.now.loads } })
    (λ m. m ≡ acts_at (machine_of pool r) (tree_of_action pool c.args.action))
    (Some tt) (le_refl 0) (le_refl 1)
    (moved pool r s c.args.action refl c.push_reserved.ensures.items c.push_reserved.ensures.capacity below c.requires.ready c.requires.given c.requires.room)
    (λ m e. e ∙ is_store c.args.terms.now (machine_of c.args.terms.now c.args.run.now) c.args.action c.in-Store8.is)
