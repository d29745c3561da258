use Rattle.std.proofs.Common.{◌≡◌, ◌∙◌, ◌+◌, ◌<◌, ◌≤◌, ◌++◌, ◌∷◌, [], List, ℕ, length, get_or, ap, sym, subst, map, take, true, arith, Vec, Global}
use Rattle.std.proofs.lemmas.List.{length_push, map_more, take_all}
use Rattle.std.specs.Vec.{vec_len, vec_capacity}
use Rattle.cells.specs.Parts.{Parts, nothing}
use Rattle.i80.specs.Columns.{defs80}
use Rattle.i80.specs.declared.Instr80.TheVariants.{Nop}
use Rattle.asm80_types.specs.declared.program.Placed.{Placed}
use Rattle.flow.specs.declared.search.Vertex.{Vertex}
use Rattle.flow.specs.Begin.{vertex_placed, vertex_return}
use Rattle.flow.proofs.begin.vertices_of.Goals as goal

-- the nodes of the first instructions, and the next one
more : (xs ys : List Placed) (vs new : List Vertex) (i : ℕ) (d : Placed) (v : Vertex) → xs ≡ ys → i < length xs → new ≡ vs ++ v ∷ [] → vs ≡ map vertex_placed (take i ys) → v ≡ vertex_placed (get_or xs i d) → new ≡ map vertex_placed (take (i + 1) ys)
more xs ys vs new i d v same lt put so_far is =
    put
    ∙ ap (λ ws. ws ++ v ∷ []) so_far
    ∙ ap (λ w. map vertex_placed (take i ys) ++ w ∷ []) (is ∙ ap (λ zs. vertex_placed (get_or zs i d)) same)
    ∙ sym (map_more vertex_placed ys i d (subst (λ zs. i < length zs) same lt))

-- the nodes of all instructions, and the return
last : (xs ys : List Placed) (vs new : List Vertex) (i : ℕ) (a b : Parts) → xs ≡ ys → length xs ≤ i → new ≡ vs ++ (record { defines = a; need = b; waits = true }) ∷ [] → vs ≡ map vertex_placed (take i ys) → a ≡ nothing → b ≡ nothing → new ≡ map vertex_placed ys ++ vertex_return ∷ []
last xs ys vs new i a b same ge put so_far none none_2 =
    put
    ∙ ap (λ ws. ws ++ (record { defines = a; need = b; waits = true }) ∷ []) (so_far ∙ ap (map vertex_placed) (take_all i ys (subst (λ zs. length zs ≤ i) same ge)))
    ∙ ap (λ x. map vertex_placed ys ++ (record { defines = x; need = b; waits = true }) ∷ []) none
    ∙ ap (λ x. map vertex_placed ys ++ (record { defines = nothing; need = x; waits = true }) ∷ []) none_2

abbrev none : Placed
none = record { at = 0; line = 0; instr = Nop }

room_for : (vertices : Vec Vertex Global) (n count : ℕ) → length vertices.items ≡ n → vec_capacity vertices ≡ count + 1 → n ≤ count → vec_len vertices < vec_capacity vertices
room_for vertices n count sized room le = omega (arith, sized, room, le, vertices.ok)

pub push_reserved-requires : goal.push_reserved-requires
push_reserved-requires c =
    let lt : c.loop-placed.placed-index ≤ length c.instrs-instrs.result.now = omega (arith, c.loop-placed-test.true) in
    room_for c.loop-placed.vertices _ _ c.loop-placed.invariant.count c.loop-placed.invariant.room lt

pub push_reserved-requires-2 : goal.push_reserved-requires-2
push_reserved-requires-2 c = room_for c.loop-placed.vertices _ _ c.loop-placed.invariant.count c.loop-placed.invariant.room c.loop-placed.auto.placed-index-end

pub loop-placed-preserved : goal.loop-placed-preserved
loop-placed-preserved c =
    let before = c.loop-placed.invariant in
    let put = c.push_reserved.ensures.items in
    record {
      items = more c.instrs-instrs.result.now c.args.program.now.instrs c.loop-placed.vertices.items _ c.loop-placed.placed-index _ _ c.instrs-instrs.ensures.value c.loop-placed-test.true put before.items (ap (λ x. record { defines = x; need = c.uses.result; waits = true }) c.defs.ensures ∙ ap (λ x. record { defines = defs80 (get_or c.instrs-instrs.result.now c.loop-placed.placed-index none).instr; need = x; waits = true }) c.uses.ensures);
      count = ap length put ∙ length_push c.loop-placed.vertices.items _ ∙ ap (λ n. n + 1) before.count;
      room = c.push_reserved.ensures.capacity ∙ before.room;
    }

pub returns : goal.returns
returns c =
    last c.instrs-instrs.result.now c.args.program.now.instrs c.loop-placed.vertices.items _ c.loop-placed.placed-index c.none.result c.none-2.result c.instrs-instrs.ensures.value c.loop-placed-test.false c.push_reserved-2.ensures.items c.loop-placed.invariant.items c.none.ensures c.none-2.ensures
