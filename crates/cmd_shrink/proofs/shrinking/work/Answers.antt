use Rattle.std.proofs.Common.{◌≡◌, true, sym, subst}
use Rattle.std.specs.String.{string_bytes}
use Rattle.std.proofs.lemmas.Result.{IfOk-weaker, IfErr-weaker}
use Rattle.asm80_types.specs.Program.{is_top}
use Rattle.cmd_arguments.specs.Words.{Check}
use Rattle.cmd_arguments.specs.ReadCommands.{shrink_read}
use Rattle.cmd_common.proofs.Told.{handed_on}
use Rattle.cmd_check.specs.Checks.{Loads, LoadStops}
use Rattle.cmd_shrink.specs.Shrinks.{Stops, unloaded}
use Rattle.cmd_shrink.proofs.Working.{lost, has_shrunk}
use Rattle.cmd_shrink.proofs.shrinking.work.Goals as goal

pub load-requires : goal.load-requires
load-requires g c = subst (λ (k : Check). is_top k.top ≡ true) (sym c.check_of_text-check.ensures) c.requires

-- there is nothing to be shrunk
pub returns-in_err-loaded-clause-stopped : goal.returns-in_err-loaded-clause-stopped
returns-in_err-loaded-clause-stopped g c =
    let command = shrink_read c.args.command.now in
    let old = g.H.Host.state c.args.host.now in
    let new = g.H.Host.state c.load.new.host in
    let stop = c.in_err-loaded.field-0.0 in
    handed_on c.from_residual.result stop (Stops command old new) c.from_residual.ensures.1
    (unloaded (subst (λ (k : Check). LoadStops k old new stop) c.check_of_text-check.ensures c.in_err-loaded.ensures.stopped))

-- nothing is left, or it was not written
pub returns-clause-stopped : goal.returns-clause-stopped
returns-clause-stopped g c =
    let command = shrink_read c.args.command.now in
    let l = c.in_ok-loaded in
    let loads = subst (λ (k : Check). Loads k (g.H.Host.state c.args.host.now) (g.H.Host.state c.load.new.host) l.loaded.program l.loaded.text.lines.items) c.check_of_text-check.ensures l.ensures.loaded in
    IfErr-weaker c.write_left.result _ _
    (lost command (g.H.Host.state c.args.host.now) (g.H.Host.state c.load.new.host) (g.H.Host.state c.write_left.new.host) l.loaded.program l.loaded.text.lines.items loads)
    c.write_left.ensures.stopped

pub returns-clause-worked : goal.returns-clause-worked
returns-clause-worked g c =
    let command = shrink_read c.args.command.now in
    let l = c.in_ok-loaded in
    let loads = subst (λ (k : Check). Loads k (g.H.Host.state c.args.host.now) (g.H.Host.state c.load.new.host) l.loaded.program l.loaded.text.lines.items) c.check_of_text-check.ensures l.ensures.loaded in
    IfOk-weaker c.write_left.result _ _
    (λ line. has_shrunk command (g.H.Host.state c.args.host.now) (g.H.Host.state c.load.new.host) (g.H.Host.state c.write_left.new.host) l.loaded.program l.loaded.text.lines.items loads (string_bytes line))
    c.write_left.ensures.written
