use Rattle.std.proofs.Common.{◌≡◌, ℕ, ◌+◌, ◌%◌, length, Option, None, Some, sym, ap, subst, ◌∙◌, get_or, below_more, MatchOption}
use Rattle.xlt_pool.specs.Table.{HasId, home_of}
use Rattle.xlt_pool.proofs.Nodes.{stands_at, stands_not_at}
use Rattle.xlt_pool.proofs.Tables.{free_after, search_ends}
use Rattle.xlt_pool.proofs.table.slot_of.Goals as goal

match_at : (P : Type 0) (Q : ℕ → Type 0) (o v : Option ℕ) → o ≡ v → MatchOption v P Q → MatchOption o P Q
match_at P Q o v e m = subst (λ w. MatchOption w P Q) (sym e) m

pub returns-in-None-clause-slot : goal.returns-in-None-clause-slot
returns-in-None-clause-slot c =
    let nodes = c.args.nodes.now in
    let slots = c.args.slots.now in
    let node = c.args.node in
    let distance = c.loop-distance.distance in
    let at = c.round-slot.result in
    let ends : at ≡ (home_of node (length slots) + distance) % length slots = c.round-slot.ensures.value ∙ ap (λ h. (h + distance) % length slots) c.home-home.ensures.value in
    let empty : get_or slots at None ≡ None = c.in-None.is in
    match_at _ _ (get_or slots at None) None empty (free_after nodes slots node distance at c.requires c.loop-distance.invariant ends empty)

pub returns-then-eq-clause-slot : goal.returns-then-eq-clause-slot
returns-then-eq-clause-slot c =
    let nodes = c.args.nodes.now in
    let slots = c.args.slots.now in
    let at = c.round-slot.result in
    let has : HasId slots at c.in-Some.id = c.in-Some.is in
    match_at _ _ (get_or slots at None) (Some c.in-Some.id) has
    (stands_at nodes c.in-Some.id _ c.args.node (c.requires.held at c.in-Some.id has) (sym c.eq.ensures ∙ c.if-eq.true))

pub loop-distance-preserved : goal.loop-distance-preserved
loop-distance-preserved c =
    let nodes = c.args.nodes.now in
    let slots = c.args.slots.now in
    let node = c.args.node in
    let distance = c.loop-distance.distance in
    let at = c.round-slot.result in
    let ends : at ≡ (home_of node (length slots) + distance) % length slots = c.round-slot.ensures.value ∙ ap (λ h. (h + distance) % length slots) c.home-home.ensures.value in
    let has : HasId slots at c.in-Some.id = c.in-Some.is in
    below_more _ _ c.loop-distance.invariant
    (c.in-Some.id, subst (λ k. HasId slots k c.in-Some.id) ends has, stands_not_at nodes c.in-Some.id _ node (sym c.eq.ensures ∙ c.if-eq.false))

pub unreachable-requires : goal.unreachable-requires
unreachable-requires c = search_ends c.args.nodes.now c.args.slots.now c.args.node c.loop-distance.distance c.requires c.loop-distance.invariant c.loop-distance-test.false
