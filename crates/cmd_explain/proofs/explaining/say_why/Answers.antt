use Rattle.cmd_explain.specs.Explains.{whole, failed, no_memory}
use Rattle.cmd_explain.proofs.explaining.say_why.Goals as goal

pub returns-in-Ok : goal.returns-in-Ok
returns-in-Ok g c = whole (g.H.Host.state c.say_lines.new.host) c.in-Ok.ensures.only c.in-Ok.ensures.ok c.in-Ok.ensures.counted c.say_made.ensures

pub returns-in-Err-Failed : goal.returns-in-Err-Failed
returns-in-Err-Failed g c =
    let e = c.in-Err-Failed.ensures in
    failed (record { only = e.only; cut = e.fault; cause = rw (c.in-Err-Failed.field-0-is) at e.failed })

pub returns-in-Err-Memory : goal.returns-in-Err-Memory
returns-in-Err-Memory g c =
    let e = c.in-Err-Memory.ensures in
    no_memory (record { only = e.only; cut = e.fault; cause = rw (c.in-Err-Memory.field-0-is) at e.failed })
