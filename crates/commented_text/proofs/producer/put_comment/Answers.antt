use Rattle.std.proofs.Common.{ℕ, List, [], ◌∷◌, ◌++◌, take, codes, ap, ◌∙◌}
use Rattle.commented_text.proofs.FirstLine.{not_empty}
use Rattle.commented_text.proofs.Left.{comment_put}
use Rattle.commented_text.proofs.producer.put_comment.Goals as goal

pub returns : goal.returns
returns c =
    let piece = c.args.piece.now in
    let line = c.args.line.now in
    c.push-4.ensures
    ∙ ap (λ (t : List ℕ). t ++ codes "\r\n") (c.push-3.ensures ∙ ap (λ (t : List ℕ). t ++ take c.min.result line) c.push-2.ensures ∙ ap (λ (n : ℕ). (piece ++ 0x3B ∷ []) ++ take n line) c.min.ensures)
    ∙ comment_put piece line (not_empty line c.is_empty.result c.is_empty.ensures c.if-is_empty.false)
