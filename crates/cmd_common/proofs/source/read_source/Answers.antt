use Rattle.cmd_common.proofs.source.read_source.Goals as goal

pub returns-then-zilog : goal.returns-then-zilog
returns-then-zilog g c =
    let e = c.read_source_by.ensures in
    record { only = e.only; read = rw c.if-zilog.true e.read; counted = e.counted; stopped = e.stopped }

pub returns-else-zilog : goal.returns-else-zilog
returns-else-zilog g c =
    let e = c.read_source_by-else-zilog.ensures in
    record { only = e.only; read = rw c.if-zilog.false e.read; counted = e.counted; stopped = e.stopped }
