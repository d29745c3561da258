use Rattle.std.proofs.Common.{◌≡◌, ◌∙◌, ◌+◌, ◌<◌, ◌≤◌, ◌++◌, ◌∷◌, [], List, ℕ, length, ap, replicate, arith, Vec, Global}
use Rattle.std.proofs.lemmas.List.{length_push, map-append, replicate_more}
use Rattle.std.specs.Vec.{vec_len, vec_capacity}
use Rattle.flow.specs.declared.sources.Row.{Row}
use Rattle.flow.specs.declared.sources.Row.TheVariants.{None as NoRow}
use Rattle.flow.specs.Wiring.{items_of, rows_of}
use Rattle.flow.proofs.sources.Sources.new.Goals as goal

one_more : (rows new : List Row) (n : ℕ) → new ≡ rows ++ NoRow ∷ [] → rows_of rows ≡ replicate n [] → rows_of new ≡ replicate (n + 1) []
one_more rows new n put so_far = ap rows_of put ∙ map-append items_of rows (NoRow ∷ []) ∙ ap (λ xs. xs ++ [] ∷ []) so_far ∙ replicate_more n []

all_of : (rows : List Row) (n count : ℕ) → n ≤ count → count ≤ n → rows_of rows ≡ replicate n [] → rows_of rows ≡ replicate count []
all_of rows n count le ge so_far = let same : n ≡ count = omega arith in so_far ∙ ap (λ k. replicate k []) same

room_for : (rows : Vec Row Global) (n count : ℕ) → length rows.items ≡ n → vec_capacity rows ≡ count → n < count → vec_len rows < vec_capacity rows
room_for rows n count sized room lt = omega (arith, sized, room, lt, rows.ok)

pub push_reserved-requires : goal.push_reserved-requires
push_reserved-requires c = room_for c.loop.rows _ _ c.loop.invariant.count c.loop.invariant.room c.loop-test.true

pub loop-preserved : goal.loop-preserved
loop-preserved c =
    let before = c.loop.invariant in
    let put = c.push_reserved.ensures.items in
    record {
      rows = one_more c.loop.rows.items _ c.loop.counter put before.rows;
      count = ap length put ∙ length_push c.loop.rows.items NoRow ∙ ap (λ n. n + 1) before.count;
      room = c.push_reserved.ensures.capacity ∙ before.room;
    }

pub returns : goal.returns
returns c = all_of c.loop.rows.items c.loop.counter c.args.count c.loop.auto.counter-end c.loop-test.false c.loop.invariant.rows
