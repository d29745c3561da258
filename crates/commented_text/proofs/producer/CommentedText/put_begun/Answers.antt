use Rattle.std.proofs.Common.{◌++◌, ap, ◌∙◌}
use Rattle.asm86_line_types.specs.Written.{written_line}
use Rattle.asm86_line_types.specs.Image.{statements}
use Rattle.commented_text.specs.Left.{left_of}
use Rattle.commented_text.specs.Lines.{lines_of}
use Rattle.commented_text.proofs.Left.{moved, begun_put}
use Rattle.commented_text.proofs.producer.CommentedText.put_begun.Goals as goal

pub returns-in-Some-clause-bytes : goal.returns-in-Some-clause-bytes
returns-in-Some-clause-bytes c =
    let t = c.args.self.now in
    let piece = c.args.piece.now in
    let line = written_line c.in-Some.line.now.stmt in
    moved piece line _ (left_of t) c.push.new.self (c.push.ensures ∙ ap (λ b. piece ++ b) (c.as_slice.ensures.value ∙ c.write_line.ensures.value))
    (rw (c.requires.due, c.in-Some.ensures.cases.0) (begun_put t.stood t.ahead.now t.begun (lines_of t.source.now) c.in-Some.line.now.stmt (statements c.in-Some.later.now) c.requires.begun))
