use Rattle.std.proofs.Common.{◌∷◌, ap, ◌∙◌, arith}
use Rattle.hex_file.proofs.RecordBytes.{count_small, found, not_found}
use Rattle.hex_file.proofs.record.HexRecord.read.Goals as goal

pub returns-in_err-length : goal.returns-in_err-length
returns-in_err-length c =
    rw c.from_residual-in_err-length.ensures (not_found c.args.line.now c.in_ok-mark.digits.now c.in_ok-mark.mark.now c.in_ok-mark.ensures.cases.0 c.in_err-length.ensures)

pub invariant_of-result : goal.invariant_of-result
invariant_of-result c =
    let h = c.if-not-are_of_record.ensures in
    let small = count_small c.in_ok-mark.digits.now c.decode.new.bytes c.in_ok-length.length h.0 c.in_ok-length.ensures.1 h.1 in
    omega (arith, small)

pub returns : goal.returns
returns c =
    let h = c.if-not-are_of_record.ensures in
    found c.args.line.now c.in_ok-mark.digits.now c.decode.new.bytes c.in_ok-length.length c.from_be_bytes.result c.from.result h.0
    (c.in_ok-mark.ensures.cases.0 ∙ ap (λ b. b ∷ c.in_ok-mark.digits.now) c.if-mark-ne-MARK.false) c.in_ok-length.ensures.1 h.1 h.2 c.from_be_bytes.ensures c.from.ensures
