use Rattle.std.proofs.Common.{sym, subst, arith}
use Rattle.hex_file.specs.HexFile.{IsHexOf}
use Rattle.hex_file.proofs.Reading.{reads_more, fails_more, reads_end, fails_spelling, fails_kind, fails_ended}
use Rattle.hex_file.proofs.file.HexFile.read.Goals as goal

pub returns-in_default-read : goal.returns-in_default-read
returns-in_default-read c = fails_spelling c.args.bytes.now c.loop-line.rest.now c.in-Some.line.now c.in-Some.after.now c.loop-line.number c.in-Some.ensures c.in_default-read.ensures c.loop-line.invariant.fails

pub returns-then-is_end : goal.returns-then-is_end
returns-then-is_end c =
    subst (IsHexOf c.args.bytes.now) (sym c.in_ok-into_vec.ensures.cells)
    (reads_end c.args.bytes.now c.loop-line.rest.now c.in-Some.line.now c.in-Some.after.now c.loop-line.cells c.in-Some-read.record c.in-Some.ensures c.in-Some-read.ensures c.if-is_end.ensures c.loop-line.invariant.reads)

pub returns-then-not-is_data : goal.returns-then-not-is_data
returns-then-not-is_data c =
    fails_kind c.args.bytes.now c.loop-line.rest.now c.in-Some.line.now c.in-Some.after.now c.loop-line.number c.in-Some-read.record c.in-Some.ensures c.in-Some-read.ensures c.if-not-is_data.ensures c.if-is_end.ensures c.loop-line.invariant.fails

pub loop-line-preserved : goal.loop-line-preserved
loop-line-preserved c =
    let first = c.in-Some.ensures in
    record {
      number = let shorter = first.shorter in omega (arith, shorter, c.loop-line.invariant.number);
      reads = reads_more c.args.bytes.now c.loop-line.rest.now c.in-Some.line.now c.in-Some.after.now c.loop-line.cells c.put_data.new.cells c.in-Some-read.record first c.in-Some-read.ensures c.if-not-is_data.ensures c.in_ok-put_data.ensures c.loop-line.invariant.reads;
      fails = fails_more c.args.bytes.now c.loop-line.rest.now c.in-Some.line.now c.in-Some.after.now c.loop-line.number c.in-Some-read.record first c.in-Some-read.ensures c.if-not-is_data.ensures c.loop-line.invariant.fails;
    }

pub returns : goal.returns
returns c = fails_ended c.args.bytes.now c.loop-line.rest.now c.loop-line.number c.in_default.ensures c.loop-line.invariant.fails
