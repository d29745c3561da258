use Rattle.std.proofs.Common.{Some, sym, ap, ℕ, rules}
use Rattle.std.proofs.lemmas.List.Sorted.{answers_always}
use Rattle.cells.specs.declared.Cell.{Cell}
use Rattle.asm80_types.proofs.CellSearch.{cell_in-found, cell_in-absent}
use Rattle.asm80_types.proofs.program.Program80.cell_at.Goals as goal

pub returns-in-Ok : goal.returns-in-Ok
returns-in-Ok c =
    let found = c.in-Ok.ensures.position (λ (x : ℕ × Cell). x.0) (answers_always _ _ _ (λ f a r g called. search rules)) in
    rw (← c.self.view_is, cell_in-found _ _ _ _ c.args.at c.self.invariant.0.cells c.in-Ok.place c.index.result.now (rw c.deref.ensures.value at c.in-Ok.ensures.bound) (rw c.deref.ensures.value at found))
    (ap (λ (x : ℕ × Cell). Some x.1) c.index.ensures)

pub returns-in-Err : goal.returns-in-Err
returns-in-Err c =
    let found = c.in-Err.ensures.position (λ (x : ℕ × Cell). x.0) (answers_always _ _ _ (λ f a r g called. search rules)) in
    rw (← c.self.view_is) (sym (cell_in-absent _ _ _ _ c.args.at c.self.invariant.0.cells c.in-Err.field-0 (rw c.deref.ensures.value at found)))
