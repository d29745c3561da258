use Rattle.std.proofs.Common.{◌∙◌, ◌^◌, ◌<◌, ◌∷◌, ◌++◌, sym, ap, subst, le_refl}
use Rattle.std.proofs.lemmas.Result.{IfOk-from_err}
use Rattle.asm86_line_types.specs.declared.line.Stmt86.TheVariants.{Cseg, Dseg}
use Rattle.templates.specs.Plain.{prologue, body, runtime, data_from, ending, numbered_from}
use Rattle.templates.proofs.Growing.{end_fits, whole_text}
use Rattle.templates.proofs.NumberedLines.{few_lines}
use Rattle.templates.proofs.plain.plain_text.Goals as goal

pub put_end-requires : goal.put_end-requires
put_end-requires c = end_fits c.in_ok-text.text c.put_body.new.text (Cseg ∷ prologue c.args.program.now.top) c.in_ok-text.ensures (le_refl 8) c.in_ok-put_body.ensures.most

pub returns : goal.returns
returns c =
    let p = c.args.program.now in
    let end = c.in_ok-put_end.ensures in
    record {
      value = c.into_lines.ensures ∙ ap (numbered_from 1) (whole_text c.in_ok-text.text c.put_body.new.text c.put_end.new.text (Cseg ∷ prologue p.top) (body p.instrs) (runtime ++ Dseg ∷ (data_from 0 p.cells ++ ending p.top)) c.in_ok-text.ensures c.in_ok-put_body.ensures.value end.value);
      few = subst (λ n. n < 2 ^ 20) (sym c.into_lines.result.ok.0) (few_lines c.into_lines.result.items c.put_end.new.text _ c.into_lines.ensures end.most);
    }

pub returns-in_err-text : goal.returns-in_err-text
returns-in_err-text c =
    let r = c.from_residual in
    record {
      value = IfOk-from_err r.result _ r.ensures.0;
      few = IfOk-from_err r.result _ r.ensures.0;
    }

pub returns-in_err-put_body : goal.returns-in_err-put_body
returns-in_err-put_body c =
    let r = c.from_residual-in_err-put_body in
    record {
      value = IfOk-from_err r.result _ r.ensures.0;
      few = IfOk-from_err r.result _ r.ensures.0;
    }

pub returns-in_err-put_end : goal.returns-in_err-put_end
returns-in_err-put_end c =
    let r = c.from_residual-in_err-put_end in
    record {
      value = IfOk-from_err r.result _ r.ensures.0;
      few = IfOk-from_err r.result _ r.ensures.0;
    }
