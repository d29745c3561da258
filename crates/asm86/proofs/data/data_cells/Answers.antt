use Rattle.std.proofs.Common.{◌+◌, drop, get_or, sym, ap, subst, ◌∙◌, arith}
use Rattle.std.specs.List.{fold}
use Rattle.std.proofs.lemmas.List.{drop_all}
use Rattle.std.proofs.lemmas.Result.{IfOk-from_err, err_from_is_err_and}
use Rattle.asm86_line_types.specs.declared.line.Stmt86.TheVariants.{Cseg}
use Rattle.asm86_line_types.specs.Image.{statements, put_cell, cells_from, by_address}
use Rattle.asm86.specs.Places.{label_place}
use Rattle.asm86.proofs.Filling.{StandsFrom, stands_first, stands_rest, filled_rest, left}
use Rattle.asm86.proofs.data.data_cells.Goals as goal

pub loop-line-preserved : goal.loop-line-preserved
loop-line-preserved c =
    let lines = c.args.lines.now in
    let i = c.loop-line.line-index in
    let off = label_place c.args.offsets.now in
    let x = (get_or lines i (record { line = 0; stmt = Cseg })).stmt in
    let rest = statements (drop (i + 1) lines) in
    let e = left lines i (record { line = 0; stmt = Cseg }) c.loop-line-test.true in
    let next = c.in_ok-at.ensures.next in
    let near = c.in_ok-at.ensures.near in
    record {
      stands = subst (λ n. StandsFrom n rest) (sym next) (stands_rest c.loop-line.at x rest (subst (StandsFrom c.loop-line.at) e c.loop-line.invariant.stands));
      far = omega (arith, near);
      cells =
          ap (λ n. fold put_cell c.put.new.cells (cells_from off n rest)) next
          ∙ filled_rest off c.loop-line.at x rest c.loop-line.cells c.put.new.cells (by_address (cells_from off 0 (statements lines)))
          (ap (λ xs. fold put_cell c.loop-line.cells (cells_from off c.loop-line.at xs)) (sym e) ∙ c.loop-line.invariant.cells)
          c.in_ok-at.ensures.cells;
    }

pub put-requires-clause-stands : goal.put-requires-clause-stands
put-requires-clause-stands c =
    let lines = c.args.lines.now in
    let i = c.loop-line.line-index in
    let e = left lines i (record { line = 0; stmt = Cseg }) c.loop-line-test.true in
    stands_first c.loop-line.at (get_or lines i (record { line = 0; stmt = Cseg })).stmt (statements (drop (i + 1) lines)) (subst (StandsFrom c.loop-line.at) e c.loop-line.invariant.stands)

pub returns-in_err-at : goal.returns-in_err-at
returns-in_err-at c =
    let r = c.from_residual in
    let e = err_from_is_err_and r.result r.ensures.1 in
    record {
      cells = IfOk-from_err r.result _ r.ensures.0;
      memory = rw e.1 (e.2 ∙ c.in_err-at.ensures.memory);
    }

pub returns-in_err-into_vec : goal.returns-in_err-into_vec
returns-in_err-into_vec c =
    let r = c.from_residual-in_err-into_vec in
    let e = err_from_is_err_and r.result r.ensures.1 in
    record {
      cells = IfOk-from_err r.result _ r.ensures.0;
      memory = rw e.1 e.2;
    }

pub returns : goal.returns
returns c =
    let lines = c.args.lines.now in
    let i = c.loop-line.line-index in
    let none = drop_all i lines c.loop-line-test.false in
    record {
      cells =
          c.in_ok-into_vec.ensures.cells
          ∙ (sym (ap (λ xs. fold put_cell c.loop-line.cells (cells_from (label_place c.args.offsets.now) c.loop-line.at (statements xs))) none)
          ∙ c.loop-line.invariant.cells);
      memory = tt;
    }
