use Rattle.std.proofs.Common.{◌∙◌, sym, ap, subst, ◌<◌, ◌≤◌, length, Err, None}
use Rattle.std.proofs.lemmas.List.Sums.{AllPass-from_list_all}
use Rattle.std.proofs.lemmas.Result.{err_from_is_err_and}
use Rattle.std.proofs.Math.ListN.{length-set}
use Rattle.dialogue.specs.Shape.{Seen, seen_by_view}
use Rattle.dialogue.specs.Places.{has_cells}
use Rattle.dialogue.proofs.Placed.{ArePlaced-next, ArePlaced-refused, ArePlaced-all}
use Rattle.dialogue.proofs.shape.places_within.Goals as goal

pub loop-k-preserved : goal.loop-k-preserved
loop-k-preserved g c =
    let seen : Seen = seen_by_view (g.V.View.byte_at c.args.view.now) (g.V.View.is_writable c.args.view.now) in
    let k = c.loop-k.k in
    let lt : k < length c.args.extents.now = subst (λ n. k < n) (sym c.told-extents) c.loop-k-test.true in
    record {
      size = length-set c.loop-k.places k c.in_ok-places.field-0 ∙ c.loop-k.invariant.size;
      placed = ArePlaced-next c.args.access seen c.args.de c.args.dma k c.args.extents.now c.loop-k.places c.in_ok-places.field-0 lt c.loop-k.invariant.size c.in_ok-places.ensures c.loop-k.invariant.placed;
    }

pub returns-in_err-places : goal.returns-in_err-places
returns-in_err-places g c =
    let seen : Seen = seen_by_view (g.V.View.byte_at c.args.view.now) (g.V.View.is_writable c.args.view.now) in
    let k = c.loop-k.k in
    let lt : k < length c.args.extents.now = subst (λ n. k < n) (sym c.told-extents) c.loop-k-test.true in
    let refused = err_from_is_err_and c.from_residual.result c.from_residual.ensures.1 in
    refused.1
    ∙ ap Err refused.2
    ∙ ArePlaced-refused c.args.access seen c.args.de c.args.dma k c.args.extents.now c.loop-k.places _ lt c.in_err-places.ensures c.loop-k.invariant.placed

pub returns : goal.returns
returns g c =
    let seen : Seen = seen_by_view (g.V.View.byte_at c.args.view.now) (g.V.View.is_writable c.args.view.now) in
    let all : length c.args.extents.now ≤ c.loop-k.k = subst (λ n. n ≤ c.loop-k.k) (sym c.told-extents) c.loop-k-test.false in
    ArePlaced-all c.args.access seen c.args.de c.args.dma c.loop-k.k c.args.extents.now c.loop-k.places all c.loop-k.invariant.size c.loop-k.invariant.placed

pub place_within-requires : goal.place_within-requires
place_within-requires g c =
    AllPass-from_list_all has_cells c.args.extents.now c.requires c.loop-k.k None (subst (λ n. c.loop-k.k < n) (sym c.told-extents) c.loop-k-test.true)
