use Rattle.std.proofs.Common.{refl, subst, map}
use Rattle.std.proofs.lemmas.Result.{IfOk-from_err}
use Rattle.std.specs.String.{string_bytes}
use Rattle.cmd_arguments.specs.ReadCommands.{listing_read}
use Rattle.cmd_common.specs.declared.stop.Stop.TheVariants.{OutOfMemory}
use Rattle.cmd_common.specs.Sources.{SourceGives, reading_of}
use Rattle.cmd_common.specs.Makes.{MakeStops, unmade, no_file, no_memory}
use Rattle.cmd_common.proofs.Told.{handed_on}
use Rattle.cmd_common.proofs.Refused.{source_stop}
use Rattle.cmd_lists.specs.Lists.{list_kind}
use Rattle.cmd_lists.proofs.list.work.Goals as goal

pub returns-in_err-source : goal.returns-in_err-source
returns-in_err-source g c =
    let kind = list_kind g.L.Listed.are_lines (listing_read c.args.command.now) in
    let old = g.H.Host.state c.args.host.now in
    let new = g.H.Host.state c.read_source.new.host in
    record {
      made = IfOk-from_err c.from_residual.result _ c.from_residual.ensures.0;
      some = IfOk-from_err c.from_residual.result _ c.from_residual.ensures.0;
      stopped = handed_on c.from_residual.result c.in_err-source.field-0.0 (MakeStops kind old new) c.from_residual.ensures.1
          (unmade c.in_err-source.ensures.only (no_file c.in_err-source.ensures.stopped));
    }

-- the source is refused
pub returns-in-Err : goal.returns-in-Err
returns-in-Err g c =
    let command = listing_read c.args.command.now in
    let kind = list_kind g.L.Listed.are_lines command in
    let old = g.H.Host.state c.args.host.now in
    let new = g.H.Host.state c.read_source.new.host in
    let read = c.in_ok-source.ensures in
    record {
      made = tt;
      some = tt;
      stopped = source_stop kind (reading_of command.zilog) command.top old new refl (λ bytes stop h. h) read.only read.counted _ c.in-Err.stop read.read c.in-Err.is;
    }

pub returns-in_err-lines-in-Ok : goal.returns-in_err-lines-in-Ok
returns-in_err-lines-in-Ok g c =
    let kind = list_kind g.L.Listed.are_lines (listing_read c.args.command.now) in
    let old = g.H.Host.state c.args.host.now in
    let new = g.H.Host.state c.read_source.new.host in
    record {
      made = IfOk-from_err c.from_residual-in_err-lines-in-Ok.result _ c.from_residual-in_err-lines-in-Ok.ensures.0;
      some = IfOk-from_err c.from_residual-in_err-lines-in-Ok.result _ c.from_residual-in_err-lines-in-Ok.ensures.0;
      stopped = handed_on c.from_residual-in_err-lines-in-Ok.result OutOfMemory (MakeStops kind old new) c.from_residual-in_err-lines-in-Ok.ensures.1
          (unmade c.in_ok-source.ensures.only no_memory);
    }

pub returns-in_ok-lines-in-Ok : goal.returns-in_ok-lines-in-Ok
returns-in_ok-lines-in-Ok g c =
    let command = listing_read c.args.command.now in
    let read = c.in_ok-source.ensures in
    record {
      made = record {
        made = record { program = c.in-Ok.program; lines = map string_bytes c.in_ok-lines-in-Ok.field-0.items };
        is = record {
          bytes = read.read.bytes;
          file = read.read.file;
          gives = record {
            source = subst (SourceGives (reading_of command.zilog) read.read.bytes command.top) c.in-Ok.is read.read.gives;
            lines = c.in_ok-lines-in-Ok.ensures.are;
          };
        };
        output = read.only;
        counted = read.counted;
        line_is = refl;
      };
      some = c.in_ok-lines-in-Ok.ensures.some;
      stopped = tt;
    }
