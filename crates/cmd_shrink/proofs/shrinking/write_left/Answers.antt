use Rattle.std.proofs.Common.{refl, ap, subst}
use Rattle.host.specs.Host.{Rewrites}
use Rattle.asm86_line_types.specs.Written.{written_text}
use Rattle.cmd_common.specs.Writing.{WriteStops}
use Rattle.cmd_common.proofs.Told.{handed_on}
use Rattle.cmd_shrink.specs.Shrinks.{LosesLeft, nothing_left, left_unwritten}
use Rattle.cmd_shrink.proofs.shrinking.write_left.Goals as goal

pub returns-in_err-left-clause-stopped : goal.returns-in_err-left-clause-stopped
returns-in_err-left-clause-stopped g c =
    let old = g.H.Host.state c.args.host.now in
    let loaded = c.args.loaded.now in
    handed_on c.from_residual.result c.in_err-left.field-0.0 (LosesLeft loaded.program loaded.text.lines.items c.args.name.now old old) c.from_residual.ensures.1
    (nothing_left refl c.in_err-left.ensures.stopped)

pub returns-in_err-write_text-clause-stopped : goal.returns-in_err-write_text-clause-stopped
returns-in_err-write_text-clause-stopped g c =
    let old = g.H.Host.state c.args.host.now in
    let new = g.H.Host.state c.write_text.new.host in
    let loaded = c.args.loaded.now in
    let left = c.in_ok-left in
    let stop = c.in_err-write_text.field-0.0 in
    handed_on c.from_residual-in_err-write_text.result stop (LosesLeft loaded.program loaded.text.lines.items c.args.name.now old new) c.from_residual-in_err-write_text.ensures.1
    (left_unwritten left.left.lines.items left.ensures.left
    (subst (λ text. WriteStops c.args.name.now text old new stop) (ap written_text c.as_slice.ensures.value) c.in_err-write_text.ensures.stopped))

pub returns-clause-written : goal.returns-clause-written
returns-clause-written g c =
    let left = c.in_ok-left in
    let write = c.in_ok-write_text.ensures in
    record {
      left = left.left.lines.items;
      is = left.ensures.left;
      only = write.only;
      written = subst (Rewrites (g.H.Host.state c.args.host.now) (g.H.Host.state c.write_text.new.host) c.args.name.now) (ap written_text c.as_slice.ensures.value) write.written;
      counted = write.counted;
      line_is = left.ensures.line;
    }
