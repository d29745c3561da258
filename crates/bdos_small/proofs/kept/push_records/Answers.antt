use Rattle.std.proofs.Common.{◌∙◌, ℕ, List, ◌++◌, ap}
use Rattle.bdos_small.proofs.Pieces.{one_more, all_of}
use Rattle.bdos_small.proofs.kept.push_records.Goals as goal

pub loop-record-preserved : goal.loop-record-preserved
loop-record-preserved c =
    let whole = λ (r : List ℕ). r in
    one_more whole c.args.bytes.now.items _ _ c.args.records.now c.loop-record.record-index c.record-item.result c.loop-record-test.true c.record-item.is c.loop-record.invariant
    (c.in_ok-extend_from_slice.ensures.items ∙ ap (λ ys. c.loop-record.bytes.items ++ ys) c.bytes.ensures.value)

pub returns : goal.returns
returns c = all_of (λ (r : List ℕ). r) c.args.bytes.now.items _ c.args.records.now c.loop-record.record-index c.loop-record-test.false c.loop-record.invariant
