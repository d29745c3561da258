use Rattle.std.proofs.Common.{◌≡◌, ◌++◌, List, [], refl, sym, ap, ◌∙◌, append-nil}
use Rattle.std.specs.List.{flat_map}
use Rattle.std.proofs.lemmas.List.{take_all}
use Rattle.cells.specs.declared.Cell.{Cell}
use Rattle.asm80_source_def.specs.Items.{laid_from}
use Rattle.asm80_values.specs.declared.form.Data.{Data as FormData}
use Rattle.asm80_values.specs.declared.form.Form.{Form}
use Rattle.asm80_values.specs.declared.form.Form.TheVariants.{Data}
use Rattle.asm80_values.specs.Programs.{data_form, data_item}
use Rattle.asm80_values.proofs.program.data_items.Goals.{in-Data+in_ok-push_cells, in_default}
use Rattle.asm80_values.proofs.program.data_items.Goals as goal
use Rattle.asm80_values.proofs.Laying.{flat_more}

no_data : (f : Form) → ((d : FormData) → f ≡ Data d → ⊥) → data_form f ≡ []
no_data (Data d) none = absurd (none d refl)
no_data f none = refl

pub loop-item-preserved : goal.loop-item-preserved
loop-item-preserved c =
    let i = c.item-item.result in
    let step : c.match-item.cells.items ≡ c.loop-item.cells.items ++ data_item i = elim c.match-item.branch [
      | in-Data+in_ok-push_cells w ↦ ap (λ v. v.items) w.cells-is ∙ w.in_ok-push_cells.ensures ∙ ap (λ (cells : List Cell). c.loop-item.cells.items ++ laid_from i.at cells) (w.deref.ensures.value ∙ ap data_form (sym w.in-Data.is))
      | in_default w ↦ ap (λ v. v.items) w.cells-is ∙ sym (append-nil c.loop-item.cells.items) ∙ ap (λ (cells : List Cell). c.loop-item.cells.items ++ laid_from i.at cells) (sym (no_data i.form w.in_default.not-Data))
    ] in
    flat_more data_item c.args.items.now c.loop-item.item-index i _ _ c.loop-item-test.true c.item-item.is c.loop-item.invariant step

pub returns : goal.returns
returns c = c.loop-item.invariant ∙ ap (flat_map data_item) (take_all _ _ c.loop-item-test.false)
