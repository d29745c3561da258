use Rattle.zilog80.proofs.Reading.{enclosed_read, whole_read, whole_fails}
use Rattle.zilog80.proofs.operand.composed.Goals as goal

pub returns-in-Some : goal.returns-in-Some
returns-in-Some c = enclosed_read c.args.tokens.now c.in_ok-inside.inside c.in-Some.e c.requires.atom c.requires.free c.in-Some.is c.in_ok-inside.ensures

pub returns-in-Ok : goal.returns-in-Ok
returns-in-Ok c = whole_read c.args.tokens.now c.in_ok-inside.inside c.in-Ok.e c.requires.atom c.requires.free c.in-None.is c.in_ok-inside.ensures c.in-Ok.ensures

pub returns-in-Err : goal.returns-in-Err
returns-in-Err c = whole_fails c.args.tokens.now c.in-Err.fault c.requires.atom c.in-Err.ensures
