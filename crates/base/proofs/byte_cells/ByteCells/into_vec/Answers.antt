use Rattle.std.proofs.Common.{◌∙◌, ap, sym, subst}
use Rattle.std.proofs.lemmas.List.{take_all}
use Rattle.std.proofs.lemmas.Map.Keys.{IsStrictlyIncreasing-from_sorted}
use Rattle.std.specs.List.Sorted.{IsStrictlyIncreasing}
use Rattle.std.specs.Map.{keys_of}
use Rattle.base.specs.Addressed.{byte_cells_from}
use Rattle.base.proofs.Addressed.{some_more, none_more, ascend}
use Rattle.base.proofs.byte_cells.ByteCells.into_vec.Goals.{in-Some+in_ok-push, in_default}
use Rattle.base.proofs.byte_cells.ByteCells.into_vec.Goals as goal

pub loop-at-init : goal.loop-at-init
loop-at-init c = c.new-cells.ensures.items

pub loop-at-preserved : goal.loop-at-preserved
loop-at-preserved c =
    let bytes = c.deref-byte-items.result.now in
    elim c.match-byte.branch [
      | in-Some+in_ok-push w ↦ some_more bytes c.loop-at.at c.loop-at-test.true w.in-Some.byte c.loop-at.cells.items c.match-byte.cells.items w.in-Some.is c.loop-at.invariant (ap (λ v. v.items) w.cells-is ∙ w.in_ok-push.ensures.items)
      | in_default w ↦ ap (λ v. v.items) w.cells-is ∙ none_more bytes c.loop-at.at c.loop-at-test.true c.loop-at.cells.items w.in_default.is c.loop-at.invariant
    ]

pub returns-clause-cells : goal.returns-clause-cells
returns-clause-cells c = c.loop-at.invariant ∙ ap (byte_cells_from 0) (take_all _ _ c.loop-at-test.false ∙ c.deref-byte-items.ensures.value) ∙ c.self.view_is

pub returns-clause-ascend : goal.returns-clause-ascend
returns-clause-ascend c =
    let bytes = c.deref-byte-items.result.now in
    subst (λ cells. IsStrictlyIncreasing (keys_of cells)) (sym (c.loop-at.invariant ∙ ap (byte_cells_from 0) (take_all _ _ c.loop-at-test.false)))
    (IsStrictlyIncreasing-from_sorted (keys_of (byte_cells_from 0 bytes)) (ascend 0 bytes))
