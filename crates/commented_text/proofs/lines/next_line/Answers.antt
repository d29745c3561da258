use Rattle.std.proofs.Common.{take, drop, ap, ◌∙◌}
use Rattle.std.proofs.lemmas.List.{nil_from_length}
use Rattle.commented_text.proofs.FirstLine.{line_ended, line_last, not_empty}
use Rattle.commented_text.proofs.lines.next_line.Goals as goal

pub returns-in-Some-clause-lines : goal.returns-in-Some-clause-lines
returns-in-Some-clause-lines c =
    let bytes = c.args.bytes.now in
    rw c.without_cr.ensures
    (line_ended bytes c.split_at.result.0.now c.split_at.result.1.now c.in-Some.field-0-0.now c.in-Some.later.now
    (c.split_at.ensures.front ∙ ap (λ n. take n bytes) c.len_before.ensures.value) (c.split_at.ensures.back ∙ ap (λ n. drop n bytes) c.len_before.ensures.value) c.in-Some.ensures.cases.0)

pub returns-in-None-clause-lines : goal.returns-in-None-clause-lines
returns-in-None-clause-lines c =
    let bytes = c.args.bytes.now in
    line_last bytes c.split_at.result.0.now c.split_at.result.1.now
    (c.split_at.ensures.front ∙ ap (λ n. take n bytes) c.len_before.ensures.value) (c.split_at.ensures.back ∙ ap (λ n. drop n bytes) c.len_before.ensures.value) (nil_from_length c.split_at.result.1.now c.in-None.ensures.cases)
    (not_empty bytes c.is_empty.result c.is_empty.ensures c.if-is_empty.false)
