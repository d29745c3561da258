use Rattle.std.proofs.Common.{◌≡◌, [], ◌∷◌, ◌++◌, sym, ap, ◌∙◌, ◌<◌, length, arith, get_or}
use Rattle.std.proofs.Math.ListN.{set}
use Rattle.std.proofs.lemmas.List.{map-set, set-set, get_or-map, length-map}
use Rattle.flow.specs.Wiring.{items_of, rows_of}
use Rattle.flow.proofs.sources.Sources.add.Goals as goal

pub returns : goal.returns
returns c =
    let rows = c.self.inside.rows.items in
    let row = c.in_ok-self-inside.field-0 in
    let within : c.args.to < length rows = omega (arith, c.requires, ap length c.self.view_is, length-map rows items_of) in
    let was : items_of c.replace-row.result ≡ get_or (rows_of rows) c.args.to [] = ap items_of (c.replace-row.ensures.value ∙ c.index_mut.ensures.value) ∙ sym (get_or-map items_of rows c.args.to c.index_mut.result.now [] within) in
    rw (← c.self.view_is)
    (ap rows_of (set-set rows c.args.to c.replace-row.new.dest row) ∙ map-set items_of rows c.args.to row ∙ ap (set (rows_of rows) c.args.to) (c.in_ok-self-inside.ensures ∙ ap (λ xs. xs ++ c.args.from ∷ []) was))
