use Rattle.std.proofs.Common.{ℕ, List, ◌∷◌, ◌++◌, [], ◌+◌, take, get_or, subst}
use Rattle.asm80_text.specs.Reader.{Adds}
use Rattle.base.proofs.Pieces.{byte_front, line_front, rest_of}
use Rattle.asm80_text.proofs.Steps.{after_whole, all_plain}
use Rattle.asm80_text.proofs.reader.LineReader.advance.Goals as goal

pub returns-then-bytes-count-eq10-clause-grows : goal.returns-then-bytes-count-eq10-clause-grows
returns-then-bytes-count-eq10-clause-grows g c =
    let at = c.is_at_line.ensures c.if-is_at_line.true in
    let k = c.plain_len-count.result in
    let bytes = c.args.bytes.now in
    rw (rest_of bytes (k + 1)) (record {
      front = take k bytes ++ 10 ∷ [];
      cut = line_front bytes k c.if-count-bytes.true c.if-bytes-count-eq10.true;
      grows = λ ne stream h. after_whole g.N.Notation.spelling stream c.args.self.now at.0 at.1 h (take k bytes) (rw c.plain_len-count.ensures.value (all_plain bytes)) at.2 c.read.new.self ne (subst (λ (line : List ℕ). Adds g.N.Notation.spelling line c.args.self.now c.read.new.self) c.without_cr.ensures c.read.ensures);
    })

pub returns-clause-grows : goal.returns-clause-grows
returns-clause-grows g c =
    let bytes = c.args.bytes.now in
    rw (rest_of bytes 1) (record { front = get_or bytes 0 0 ∷ []; cut = byte_front bytes c.requires; grows = c.step.ensures.grows })
