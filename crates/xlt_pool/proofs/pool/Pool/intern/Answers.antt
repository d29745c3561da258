use Rattle.std.proofs.Common.{◌≡◌, ℕ, ◌+◌, ◌<◌, ◌≤◌, ◌∷◌, [], length, None, Some, Option, ap, sym, ◌∙◌, subst, arith, length-append, get_or, MatchOption}
use Rattle.std.specs.Vec.{vec_len}
use Rattle.std.proofs.lemmas.List.{get_or_default}
use Rattle.xlt_pool.specs.Contents.{NodeStandsAt}
use Rattle.xlt_pool.specs.Table.{IsFreeFor}
use Rattle.xlt_pool.proofs.Tables.{distinct_with, table_with, set_at_slot, placed_with}
use Rattle.xlt_pool.proofs.pool.Pool.intern.Goals as goal

when_none : (P : Type 0) (Q : ℕ → Type 0) (o : Option ℕ) → o ≡ None → MatchOption o P Q → P
when_none P Q o e m = let M : Option ℕ → Type 0 = λ w. MatchOption w P Q in subst M e m

pub invariant_of-self : goal.invariant_of-self
invariant_of-self c =
    let nodes = c.self.inside.nodes.items in
    let slots = c.self.inside.slots.items in
    let node = c.args.node in
    let at = c.slot_of-slot.result in
    let within : at < length slots = rw c.deref-2.ensures.value at c.slot_of-slot.ensures.within in
    let found : MatchOption (get_or slots at None) (IsFreeFor nodes slots node at) (λ id. NodeStandsAt nodes id node) = rw (c.deref.ensures.value, c.deref-2.ensures.value) at c.slot_of-slot.ensures.slot in
    let read : get_or slots at c.index.result.now ≡ get_or slots at None = get_or_default slots at c.index.result.now None within in
    let empty : get_or slots at None ≡ None = sym read ∙ sym c.index.ensures ∙ c.in_default.is in
    let free : IsFreeFor nodes slots node at = when_none _ _ (get_or slots at None) empty found in
    let fits : length nodes ≤ c.self.inside.room = c.self.invariant.fits in
    let len : vec_len c.self.inside.nodes ≡ length nodes = sym c.deref.ensures.len ∙ ap length c.deref.ensures.value in
    let room : length nodes < c.self.inside.room = omega arith in
    let wide : c.self.inside.room < length slots = c.self.invariant.slots in
    let more : length nodes + 1 < length slots = omega arith in
    let id : c.len-id.result ≡ length nodes = c.len-id.ensures ∙ len in
    let table = table_with nodes slots node at c.self.invariant.table free within empty more in
    let long : length c.push_reserved.new.self.items ≡ length nodes + 1 = ap length c.push_reserved.ensures.items ∙ length-append nodes (node ∷ []) in
    let counted : length c.self.inside.places.items ≡ length nodes = c.self.invariant.counted in
    let placed = placed_with slots c.self.inside.places.items at (length nodes) counted c.self.invariant.placed within empty in
    record {
      table = rw (c.push_reserved.ensures.items, id) table;
      fits = omega arith;
      small = c.self.invariant.small;
      reserved = rw c.push_reserved.ensures.capacity c.self.invariant.reserved;
      slots = set_at_slot slots at (Some c.len-id.result) c.self.inside.room c.self.invariant.slots;
      counted = ap length c.push_reserved-2.ensures.items ∙ length-append c.self.inside.places.items (at ∷ []) ∙ ap (λ n. n + 1) counted ∙ sym long;
      placed = rw (c.push_reserved-2.ensures.items, id, long) placed;
      noted = rw c.push_reserved-2.ensures.capacity c.self.invariant.noted;
    }

pub returns-clause-distinct : goal.returns-clause-distinct
returns-clause-distinct c =
    let nodes = c.self.inside.nodes.items in
    let slots = c.self.inside.slots.items in
    let at = c.slot_of-slot.result in
    let within : at < length slots = rw c.deref-2.ensures.value at c.slot_of-slot.ensures.within in
    let found : MatchOption (get_or slots at None) (IsFreeFor nodes slots c.args.node at) (λ id. NodeStandsAt nodes id c.args.node) = rw (c.deref.ensures.value, c.deref-2.ensures.value) at c.slot_of-slot.ensures.slot in
    let read : get_or slots at c.index.result.now ≡ get_or slots at None = get_or_default slots at c.index.result.now None within in
    let empty : get_or slots at None ≡ None = sym read ∙ sym c.index.ensures ∙ c.in_default.is in
    let free : IsFreeFor nodes slots c.args.node at = when_none _ _ (get_or slots at None) empty found in
    rw c.push_reserved.ensures.items (distinct_with nodes c.args.node c.self.invariant.table.distinct free.absent)
