use Rattle.std.proofs.Common.{◌≡◌, ◌++◌, List, All, map, sym, ap, subst, ◌∙◌}
use Rattle.std.specs.List.{flat_map}
use Rattle.std.proofs.lemmas.List.{take_all}
use Rattle.std.proofs.lemmas.List.Elements.{All-append}
use Rattle.cells.specs.declared.Cell.{Cell}
use Rattle.asm80_types.specs.declared.arg.Arg.{Arg}
use Rattle.asm80_types.specs.Tree.{operand_of}
use Rattle.asm80_source_def.specs.Items.{cells_of_word}
use Rattle.asm80_values.specs.Forms.{HoldsByte}
use Rattle.asm80_values.specs.Settings.{setting_of}
use Rattle.asm80_values.proofs.data.cells_of_words.Goals as goal
use Rattle.asm80_values.proofs.Laying.{mapped_more}

pub loop-arg-preserved : goal.loop-arg-preserved
loop-arg-preserved c =
    let pushed = c.in_ok-extend_from_slice.ensures.items in
    let word : List Cell = cells_of_word (setting_of c.args.setting.now) (operand_of c.arg-item.result) in
    let added : c.extend_from_slice.new.self.items ≡ c.loop-arg.cells.items ++ word = pushed ∙ ap (λ (cs : List Cell). c.loop-arg.cells.items ++ cs) c.word_cells.ensures.cells in
    record {
      cells = mapped_more (cells_of_word (setting_of c.args.setting.now)) operand_of c.args.args.now c.loop-arg.arg-index c.arg-item.result _ _ c.loop-arg-test.true c.arg-item.is c.loop-arg.invariant.cells added;
      bytes = subst (All HoldsByte) (sym added) (All-append HoldsByte _ _ c.loop-arg.invariant.bytes c.word_cells.ensures.bytes);
    }

pub returns-clause-cells : goal.returns-clause-cells
returns-clause-cells c = c.loop-arg.invariant.cells ∙ ap (λ (args : List Arg). flat_map (cells_of_word (setting_of c.args.setting.now)) (map operand_of args)) (take_all _ _ c.loop-arg-test.false)

pub returns-clause-bytes : goal.returns-clause-bytes
returns-clause-bytes c = c.loop-arg.invariant.bytes
