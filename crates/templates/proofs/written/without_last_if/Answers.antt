use Rattle.std.proofs.Common.{sym}
use Rattle.templates.proofs.Trims.{without_last-added}
use Rattle.templates.proofs.written.without_last_if.Goals as goal

pub returns-in-Some : goal.returns-in-Some
returns-in-Some c = rw (c.if-last.true, c.in-Some.ensures.cases.0) (sym (without_last-added c.in-Some.front.now c.in-Some.field-0-0.now))
