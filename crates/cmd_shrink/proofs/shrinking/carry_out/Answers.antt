use Rattle.std.proofs.Common.{ℕ, List, length, ◌<◌, ◌∙◌, sym, subst}
use Rattle.std.specs.String.{string_bytes}
use Rattle.cmd_common.specs.Said.{IsDone}
use Rattle.cmd_common.proofs.Said.{named}
use Rattle.cmd_shrink.specs.Shrinks.{shrunk, stopped}
use Rattle.cmd_shrink.proofs.Left.{line_some}
use Rattle.cmd_shrink.proofs.shrinking.carry_out.Goals as goal

pub say_done-requires : goal.say_done-requires
say_done-requires g c =
    let h = c.in-Ok.ensures.worked in
    subst (λ (l : List ℕ). 0 < length l) (sym (c.as_str.ensures.value ∙ h.line_is)) (line_some h.lines h.left)

pub returns-in-Ok : goal.returns-in-Ok
returns-in-Ok g c =
    let mid = g.H.Host.state c.work.new.host in
    let new = g.H.Host.state c.say_done.new.host in
    shrunk mid (string_bytes c.in-Ok.line) c.in-Ok.ensures.worked (subst (λ l. IsDone l mid new c.say_done.result) c.as_str.ensures.value c.say_done.ensures)

pub returns-in-Err : goal.returns-in-Err
returns-in-Err g c = stopped (g.H.Host.state c.work.new.host) c.in-Err.stop c.in-Err.ensures.stopped (named c.two.ensures c.say_stop.ensures)
