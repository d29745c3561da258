use Rattle.std.proofs.Common.{◌≤◌, ◌/◌, length, take, arith}
use Rattle.std.proofs.lemmas.List.{length-take-le}
use Rattle.hex_file.proofs.RecordBytes.{decoded, too_long}
use Rattle.hex_file.proofs.record.decode.Goals as goal

pub returns-then-length-gt-MOST_BYTES : goal.returns-then-length-gt-MOST_BYTES
returns-then-length-gt-MOST_BYTES c = λ all short is. too_long c.args.digits.now all c.if-length-gt-MOST_BYTES.true short is

pub returns : goal.returns
returns c =
    let n = length c.args.digits.now / 2 in
    let room = c.fits-bytes in
    let within : n ≤ 260 = omega arith in
    (within, decoded c.args.digits.now c.decode_to_slice.result c.decode_to_slice.new.out _ (length (take n c.args.bytes.now)) c.decode_to_slice.ensures.value c.in_ok-ok.ensures.variant (length-take-le n c.args.bytes.now (omega (arith, room))))
