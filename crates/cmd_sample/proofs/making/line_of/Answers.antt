use Rattle.std.proofs.Common.{◌≡◌, ◌∙◌, List, ap}
use Rattle.std.specs.String.{string_bytes}
use Rattle.std.proofs.lemmas.Result.{IfOk-weaker}
use Rattle.asm86_line_types.specs.declared.line.Line86.{Line86}
use Rattle.cmd_lists.specs.declared.savings.Saving.{Saving}
use Rattle.cmd_sample.specs.SampleReport.{counts_of, sample_line, IsSampleLine}
use Rattle.cmd_sample.specs.SampleWork.{counts_read}
use Rattle.cmd_sample.proofs.making.line_of.Goals as goal

pub returns : goal.returns
returns c =
    let K = c.args.routines in
    let p = c.in_ok-program.program in
    let lines = c.in_ok-lines.lines.items in
    let saved = c.in_ok-savings.savings.items in
    let counted : counts_read c.counts_of-counts.result ≡ counts_of K p lines saved =
    c.counts_of-counts.ensures
    ∙ ap (λ (ls : List Line86). counts_of K p ls c.as_slice-2.result.now) c.as_slice.ensures.value
    ∙ ap (λ (ss : List Saving). counts_of K p lines ss) c.as_slice-2.ensures.value in
    IfOk-weaker c.line.result (λ line. string_bytes line ≡ sample_line (counts_read c.counts_of-counts.result)) (λ line. IsSampleLine K (string_bytes line))
    (λ line said. record {
      program = p;
      lines = lines;
      saved = saved;
      made = record { source = c.in_ok-program.ensures; text = c.in_ok-lines.ensures.text; fits = c.in_ok-lines.ensures.fits; savings = c.in_ok-savings.ensures };
      is = said ∙ ap sample_line counted;
    })
    c.line.ensures
