use Rattle.std.proofs.Common.{ℕ, List, ◌∷◌, ◌++◌, [], ◌+◌, take, get_or, subst}
use Rattle.asm86.specs.Reader.{ReadsLine}
use Rattle.base.proofs.Pieces.{byte_front, line_front, rest_of}
use Rattle.asm86.proofs.Steps.{not_done, opened, after_whole, all_plain}
use Rattle.asm86.proofs.reader.Text86.advance.Goals as goal

pub returns-then-bytes-count-eq10-clause-grows : goal.returns-then-bytes-count-eq10-clause-grows
returns-then-bytes-count-eq10-clause-grows c =
    let at = c.is_at_line.ensures c.if-is_at_line.true in
    let d = not_done _ _ at.0 in
    let k = c.line_len-count.result in
    let bytes = c.args.bytes.now in
    rw (rest_of bytes (k + 1)) (record {
      front = take k bytes ++ 10 ∷ [];
      cut = line_front bytes k c.if-count-bytes.true c.if-bytes-count-eq10.true;
      grows = λ ne stream h. after_whole stream c.args.self.now c.read.new.self (take k bytes) (opened stream c.args.self.now d.0 d.1 h) (rw c.line_len-count.ensures.value (all_plain bytes)) at.1 ne (subst (λ (line : List ℕ). ReadsLine line c.args.self.now c.read.new.self) c.without_cr.ensures c.read.ensures);
    })

pub returns-clause-grows : goal.returns-clause-grows
returns-clause-grows c =
    let bytes = c.args.bytes.now in
    rw (rest_of bytes 1) (record { front = get_or bytes 0 0 ∷ []; cut = byte_front bytes c.requires; grows = c.step.ensures.grows })
