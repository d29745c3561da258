use Rattle.std.proofs.Common.{◌≡◌, ℕ, ◌+◌, ◌-◌, ◌<◌, ◌≤◌, ◌++◌, ◌∷◌, [], length, None, ap, subst, ◌∙◌, arith, rules, length-append, get_or}
use Rattle.std.specs.Option.{option_to_list}
use Rattle.std.specs.Vec.{vec_len}
use Rattle.xlt_pool.specs.declared.node.Node.{Node}
use Rattle.xlt_pool.specs.Table.{HasId}
use Rattle.xlt_pool.proofs.Slots.{slot_within}
use Rattle.xlt_pool.proofs.Tables.{table_popped, set_at_slot, last_place, placed_without}
use Rattle.xlt_pool.proofs.pool.Pool.drop_last.Goals as goal

pub index_mut-requires : goal.index_mut-requires
index_mut-requires c =
    let slots = c.self.inside.slots.items in
    let count = length c.self.inside.nodes.items in
    let has : HasId slots c.in-Some.slot (count - 1) = last_place slots c.self.inside.places.items c.pop.new.self.items c.in-Some.slot count c.in-Some.ensures.items c.self.invariant.counted c.self.invariant.placed in
    let within : c.in-Some.slot < length slots = slot_within slots c.in-Some.slot (count - 1) has in
    let len : vec_len c.self.inside.slots ≡ length slots = search rules in
    omega arith

-- read where there is no node
nothing : Node
nothing = record { op = 0; num = 0; a = 0; b = 0; c = 0 }

pub invariant_of-self : goal.invariant_of-self
invariant_of-self c =
    let nodes = c.self.inside.nodes.items in
    let slots = c.self.inside.slots.items in
    let places = c.self.inside.places.items in
    let at = c.in-Some.slot in
    let rest = c.pop-in-Some.new.self.items in
    let earlier = c.pop.new.self.items in
    let gone : places ≡ earlier ++ at ∷ [] = c.in-Some.ensures.items in
    let counted : length places ≡ length nodes = c.self.invariant.counted in
    let noted : length places ≡ length earlier + 1 = ap length gone ∙ length-append earlier (at ∷ []) in
    let has : HasId slots at (length nodes - 1) = last_place slots places earlier at (length nodes) gone counted c.self.invariant.placed in
    let len : vec_len c.self.inside.nodes ≡ length nodes = search rules in
    let filled : 0 < vec_len c.self.inside.nodes = omega arith in
    let node = get_or nodes (vec_len c.self.inside.nodes - 1) nothing in
    let popped : nodes ≡ rest ++ node ∷ [] = c.pop-in-Some.ensures.items ∙ ap (λ o. rest ++ option_to_list o) (c.pop-in-Some.ensures.value nothing filled) in
    let long : length nodes ≡ length rest + 1 = ap length popped ∙ length-append rest (node ∷ []) in
    let shorter : length earlier ≡ length rest = omega arith in
    let last : length nodes - 1 ≡ length rest = omega arith in
    let placed : (k : ℕ) → k < length rest + 1 → HasId slots (get_or places k 0) k = subst (λ n. (k : ℕ) → k < n → HasId slots (get_or places k 0) k) long c.self.invariant.placed in
    record {
      table = table_popped nodes rest node slots at popped c.self.invariant.table has;
      fits = let fits : length nodes ≤ c.self.inside.room = c.self.invariant.fits in omega arith;
      small = c.self.invariant.small;
      reserved = rw c.pop-in-Some.ensures.capacity c.self.invariant.reserved;
      slots = set_at_slot slots at None c.self.inside.room c.self.invariant.slots;
      counted = shorter;
      placed = placed_without slots places earlier at at (length rest) gone shorter placed (subst (λ n. HasId slots at n) last has);
      noted = rw c.pop.ensures.capacity c.self.invariant.noted;
    }
