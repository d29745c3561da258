use Rattle.asm86_line_types.specs.Image.{statements}
use Rattle.commented_text.specs.Commented.{comment_line}
use Rattle.commented_text.specs.Left.{left_of}
use Rattle.commented_text.specs.Lines.{lines_of}
use Rattle.commented_text.proofs.Left.{moved, due_put}
use Rattle.commented_text.proofs.producer.CommentedText.put_due.Goals as goal

pub returns-in-Some-clause-bytes : goal.returns-in-Some-clause-bytes
returns-in-Some-clause-bytes c =
    let t = c.args.self.now in
    let line = c.in-Some.line.now in
    moved c.args.piece.now (comment_line line) _ (left_of t) c.put_comment.new.piece c.put_comment.ensures
    (rw c.in-Some.ensures.lines (due_put t.stood t.ahead.now t.due t.begun line (lines_of c.in-Some.later.now) (statements t.lines.now) c.requires.due))
