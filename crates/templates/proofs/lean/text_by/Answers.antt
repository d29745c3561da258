use Rattle.std.proofs.Common.{◌∙◌, ◌^◌, ◌<◌, ◌∷◌, ◌++◌, length, sym, ap, subst, le_refl, lit<}
use Rattle.std.proofs.lemmas.Result.{IfOk-from_err}
use Rattle.asm86_line_types.specs.declared.line.Stmt86.TheVariants.{Cseg, Dseg}
use Rattle.templates.specs.Plain.{prologue, runtime, data_from, ending, numbered_from}
use Rattle.flow.specs.Blocks.{cut_from}
use Rattle.templates.specs.Style.{blocks_of}
use Rattle.templates.specs.Jumps.{style_by}
use Rattle.templates.proofs.Growing.{few, below, end_fits, whole_text}
use Rattle.templates.proofs.NumberedLines.{few_lines}
use Rattle.templates.proofs.lean.text_by.Goals as goal

pub put_blocks-requires-clause-room : goal.put_blocks-requires-clause-room
put_blocks-requires-clause-room c = below (length c.in_ok-text.text) 8 (2 ^ 16) (few c.in_ok-text.text (Cseg ∷ prologue c.args.program.now.top) 8 c.in_ok-text.ensures (le_refl 8)) (lit< tt)

pub put_end-requires : goal.put_end-requires
put_end-requires c = end_fits c.in_ok-text.text c.put_blocks.new.text (Cseg ∷ prologue c.args.program.now.top) c.in_ok-text.ensures (le_refl 8) c.in_ok-put_blocks.ensures.most

pub returns : goal.returns
returns c =
    let p = c.args.program.now in
    let end = c.in_ok-put_end.ensures in
    record {
      value = λ n all. c.into_lines.ensures ∙ ap (numbered_from 1) (whole_text c.in_ok-text.text c.put_blocks.new.text c.put_end.new.text (Cseg ∷ prologue p.top) (blocks_of (style_by n c.args.jumps.now) (cut_from p 0 p.instrs)) (runtime ++ Dseg ∷ (data_from 0 p.cells ++ ending p.top)) c.in_ok-text.ensures (c.in_ok-put_blocks.ensures.value n all) end.value);
      few = subst (λ n. n < 2 ^ 20) (sym c.into_lines.result.ok.0) (few_lines c.into_lines.result.items c.put_end.new.text _ c.into_lines.ensures end.most);
    }

pub returns-in_err-text : goal.returns-in_err-text
returns-in_err-text c =
    let r = c.from_residual in
    record {
      value = λ n all. IfOk-from_err r.result _ r.ensures.0;
      few = IfOk-from_err r.result _ r.ensures.0;
    }

pub returns-in_err-put_blocks : goal.returns-in_err-put_blocks
returns-in_err-put_blocks c =
    let r = c.from_residual-in_err-put_blocks in
    record {
      value = λ n all. IfOk-from_err r.result _ r.ensures.0;
      few = IfOk-from_err r.result _ r.ensures.0;
    }

pub returns-in_err-put_end : goal.returns-in_err-put_end
returns-in_err-put_end c =
    let r = c.from_residual-in_err-put_end in
    record {
      value = λ n all. IfOk-from_err r.result _ r.ensures.0;
      few = IfOk-from_err r.result _ r.ensures.0;
    }
