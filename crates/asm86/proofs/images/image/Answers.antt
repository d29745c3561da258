use Rattle.std.proofs.Common.{◌≡◌, ◌∙◌, Err, inl, inr, ap, rules}
use Rattle.std.proofs.lemmas.Result.{err_from_is_err_and}
use Rattle.asm86_line_types.specs.Image.{Image, image_of}
use Rattle.asm86.proofs.Exclusion.{image_not_refused}
use Rattle.asm86.proofs.Made.{image_made, assembled_answer, refused_answer}
use Rattle.asm86.proofs.images.image.Goals as goal

pub returns-in_err-labels-clause-assembled : goal.returns-in_err-labels-clause-assembled
returns-in_err-labels-clause-assembled c =
    assembled_answer c.args.lines.now (λ (i : Image). i ≡ image_of c.args.lines.now) c.from_residual.result c.in_err-labels.field-0.0 (search rules) c.in_err-labels.ensures

pub returns-in_err-labels-clause-refused : goal.returns-in_err-labels-clause-refused
returns-in_err-labels-clause-refused c = λ fault r.
    refused_answer c.args.lines.now c.from_residual.result c.in_err-labels.field-0.0 fault (search rules) c.in_err-labels.ensures r

pub returns-clause-answer : goal.returns-clause-answer
returns-clause-answer c =
    image_made c.args.lines.now c.in_ok-code.code.items c.in_ok-cells.cells.items c.in_ok-labels.labels c.requires.order c.in_ok-labels.ensures c.in_ok-code.ensures.bytes c.in_ok-cells.ensures.cells

pub returns-clause-assembled : goal.returns-clause-assembled
returns-clause-assembled c = λ _.
    (image_made c.args.lines.now c.in_ok-code.code.items c.in_ok-cells.cells.items c.in_ok-labels.labels c.requires.order c.in_ok-labels.ensures c.in_ok-code.ensures.bytes c.in_ok-cells.ensures.cells).is

pub returns-clause-refused : goal.returns-clause-refused
returns-clause-refused c = λ fault r.
    absurd (image_not_refused c.args.lines.now (record { code = c.in_ok-code.code.items; cells = c.in_ok-cells.cells.items; labels = c.in_ok-labels.labels }) fault
    (image_made c.args.lines.now c.in_ok-code.code.items c.in_ok-cells.cells.items c.in_ok-labels.labels c.requires.order c.in_ok-labels.ensures c.in_ok-code.ensures.bytes c.in_ok-cells.ensures.cells) r)

pub returns-in_err-code : goal.returns-in_err-code
returns-in_err-code c =
    let r = c.from_residual-in_err-code in
    let e = err_from_is_err_and r.result r.ensures.1 in
    record {
      answer = rw e.1 (inl e.2);
      assembled = λ _. rw e.1 e.2;
      refused = λ fault h. inr (e.1 ∙ ap Err e.2);
    }

pub returns-in_err-cells : goal.returns-in_err-cells
returns-in_err-cells c =
    let r = c.from_residual-in_err-cells in
    let e = err_from_is_err_and r.result r.ensures.1 in
    record {
      answer = rw e.1 (inl (e.2 ∙ c.in_err-cells.ensures.memory));
      assembled = λ _. rw e.1 (e.2 ∙ c.in_err-cells.ensures.memory);
      refused = λ fault h. inr (e.1 ∙ ap Err (e.2 ∙ c.in_err-cells.ensures.memory));
    }
