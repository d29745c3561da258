use Rattle.std.proofs.Common.{◌≡◌, ◌∙◌, ◌+◌, ◌<◌, ◌++◌, ◌∷◌, [], List, ℕ, length, get_or, ap, arith, Vec, Global}
use Rattle.std.proofs.lemmas.Grind.{common_steps}
use Rattle.std.proofs.lemmas.List.{length_push}
use Rattle.std.specs.Vec.{vec_len, vec_capacity}
use Rattle.flow.proofs.begin.numbers.Goals as goal

room_for : (work : Vec ℕ Global) (n count : ℕ) → length work.items ≡ n → vec_capacity work ≡ count → n < count → vec_len work < vec_capacity work
room_for work n count sized room lt = omega (arith, sized, room, lt, work.ok)

number_at : (xs new : List ℕ) (n : ℕ) → new ≡ xs ++ n ∷ [] → length xs ≡ n → ((k : ℕ) → k < n → get_or xs k 0 ≡ k) → (k : ℕ) → k < n + 1 → get_or new k 0 ≡ k
number_at xs new n put sized each k lt = grind (arith, common_steps, each k)

pub push_reserved-requires : goal.push_reserved-requires
push_reserved-requires c = room_for c.loop-number.work _ _ c.loop-number.invariant.count c.loop-number.invariant.room c.loop-number-test.true

pub loop-number-preserved : goal.loop-number-preserved
loop-number-preserved c =
    let before = c.loop-number.invariant in
    let put = c.push_reserved.ensures.items in
    record {
      count = ap length put ∙ length_push c.loop-number.work.items c.loop-number.number ∙ ap (λ n. n + 1) before.count;
      each = number_at c.loop-number.work.items _ c.loop-number.number put before.count before.each;
      room = c.push_reserved.ensures.capacity ∙ before.room;
    }
