use Rattle.std.proofs.Common.{◌≡◌, ℕ, ◌+◌, ◌-◌, ◌*◌, ◌<◌, ◌≤◌, List, [], ◌∷◌, length, replicate, zero, suc, Option, None, refl, sym, ap, subst, ◌∙◌, arith, rules}
use Rattle.std.specs.Prelude.{is_none, count_by, cond}
use Rattle.std.proofs.lemmas.List.{length-replicate}
use Rattle.std.proofs.lemmas.List.Sums.{sum_by-cons}
use Rattle.xlt_pool.specs.declared.node.Node.{Node}
use Rattle.xlt_pool.specs.Table.{HasId, IsTable}
use Rattle.xlt_pool.proofs.pool.Pool.new.Goals as goal
use Rattle.xlt_pool.proofs.pool.Pool.new.Goals.{then-room-eq0, else-room-eq0}

abbrev slots_of : ℕ → List (Option ℕ)
slots_of n = replicate n None

no_id : (n k id : ℕ) → HasId (slots_of n) k id → ⊥
no_id zero k id h = absurd (cc)
no_id (suc n) zero id h = absurd (cc)
no_id (suc n) (suc k) id h = no_id n k id h

all_none : (n : ℕ) → count_by is_none (slots_of n) ≡ n
all_none zero = refl
all_none (suc n) =
    let joined : count_by is_none (slots_of (suc n)) ≡ 1 + count_by is_none (slots_of n) = sum_by-cons (λ s. cond (is_none s) 1 0) None (slots_of n) in
    let rest = all_none n in
    omega (arith, joined, rest)

-- a table of empty slots
empty_table : (nodes : List Node) (slots : List (Option ℕ)) (n : ℕ) → nodes ≡ [] → slots ≡ slots_of n → 0 < n → IsTable nodes slots
empty_table [] slots n e f some = record {
  distinct = λ i j node h. absurd (cc);
  reached = λ id node h. absurd (cc);
  held = λ k id h. absurd (no_id n k id (subst (λ xs. HasId xs k id) f h));
  once = λ j k id h. absurd (no_id n j id (subst (λ xs. HasId xs j id) f h));
  empty = let count = ap (count_by is_none) f ∙ all_none n in let size = ap length f ∙ length-replicate n None in omega (arith, count, size);
  room = let size = ap length f ∙ length-replicate n None in omega (arith, size, some);
}
empty_table (x ∷ nodes) slots n e f some = absurd (cc)

one_more : (room slots : ℕ) → slots ≡ 1 → room ≡ 0 → room < slots
one_more room slots e none = omega (arith, e, none)

doubled : (room slots : ℕ) → slots ≡ 2 * room → (room ≡ 0 → ⊥) → room < slots
doubled room slots e some = omega (arith, e, some)

above_none : (room slots : ℕ) → room < slots → 0 < slots
above_none room slots more = omega (arith, more)

-- the length of no node
none_fits : (nodes : List Node) (room : ℕ) → nodes ≡ [] → length nodes ≤ room
none_fits nodes room e = let none = ap length e in omega (arith, none)

none_below : (nodes : List Node) (id : ℕ) → nodes ≡ [] → id < length nodes → ⊥
none_below nodes id e lt = let none = ap length e in omega (arith, none, lt)

none_taken : (nodes : List Node) (room : ℕ) → nodes ≡ [] → room - length nodes ≡ room
none_taken nodes room e = let none = ap length e in omega (arith, none)

pub invariant_of-result : goal.invariant_of-result
invariant_of-result c =
    let room = c.args.room in
    let nodes = c.in_ok-with_capacity.field-0.items in
    let slots = c.if-room-eq0.slots in
    let no_node = c.in_ok-with_capacity.ensures.items in
    let zeros : c.in_ok-from_elem.field-0.items ≡ replicate slots None = c.in_ok-from_elem.ensures.items_if_clones_equal (λ y h. search rules) in
    let more : room < slots = elim c.if-room-eq0.branch [ then-room-eq0 w ↦ one_more room slots w.slots-is w.if-room-eq0.true | else-room-eq0 w ↦ doubled room slots w.slots-is w.if-room-eq0.false ] in
    record {
      table = empty_table nodes c.in_ok-from_elem.field-0.items slots no_node zeros (above_none room slots more);
      fits = none_fits nodes room no_node;
      small = c.ranges.room.fits;
      reserved = c.in_ok-with_capacity.ensures.capacity;
      slots = subst (λ n. room < n) (sym (ap length zeros ∙ length-replicate slots None)) more;
      counted = ap length c.in_ok-with_capacity-2.ensures.items ∙ sym (ap length no_node);
      placed = λ id lt. absurd (none_below nodes id no_node lt);
      noted = c.in_ok-with_capacity-2.ensures.capacity;
    }

pub returns : goal.returns
returns c =
    let no_node = c.in_ok-with_capacity.ensures.items in
    (no_node, none_taken c.in_ok-with_capacity.field-0.items c.args.room no_node)
