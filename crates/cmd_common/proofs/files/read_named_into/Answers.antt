use Rattle.std.proofs.Common.{ap, Err}
use Rattle.cmd_common.specs.Files.{failed, too_long, no_memory}
use Rattle.cmd_common.proofs.files.read_named_into.Goals as goal

pub returns-in-Ok : goal.returns-in-Ok
returns-in-Ok g c = let e = c.in-Ok.ensures in record { only = e.only; read = e.ok; counted = e.counted; stopped = tt }

pub returns-in-Err-Failed : goal.returns-in-Err-Failed
returns-in-Err-Failed g c = let e = c.in-Err-Failed.ensures in record { only = e.only; read = tt; counted = tt; stopped = failed (e.failed (ap Err c.in-Err-Failed.field-0-is)) }

pub returns-in-Err-TooLong : goal.returns-in-Err-TooLong
returns-in-Err-TooLong g c =
    let e = c.in-Err-TooLong.ensures in
    let long = e.too_long (ap Err c.in-Err-TooLong.field-0-is) in
    record { only = e.only; read = tt; counted = tt; stopped = too_long long.0 long.1 }

pub returns-in-Err-Memory : goal.returns-in-Err-Memory
returns-in-Err-Memory g c = record { only = c.in-Err-Memory.ensures.only; read = tt; counted = tt; stopped = no_memory }
