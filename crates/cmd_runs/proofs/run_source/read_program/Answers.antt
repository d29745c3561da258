use Rattle.std.proofs.Common.{subst}
use Rattle.std.proofs.lemmas.Result.{IfOk-from_err}
use Rattle.host.proofs.HostLemmas.{OnlyReads-trans, SameFaults-trans}
use Rattle.cmd_arguments.specs.ReadCommands.{run_options_read}
use Rattle.cmd_arguments.specs.Words.{Run80}
use Rattle.cmd_runs.specs.Supplies.{given_of}
use Rattle.cmd_common.specs.Sources.{SourceGives, reading_of}
use Rattle.cmd_common.proofs.Told.{handed_on}
use Rattle.cmd_runs.specs.Kinds.{NothingToRun, no_file, no_supply, is_refused}
use Rattle.cmd_runs.specs.Runs80.{words_of, kind80}
use Rattle.cmd_runs.proofs.Loading.{supply_before, supply_stops_before}
use Rattle.cmd_runs.proofs.run_source.read_program.Goals as goal

pub returns-in_err-source : goal.returns-in_err-source
returns-in_err-source g c =
    let command : Run80 = words_of c.args.name.now c.args.zilog c.args.top (run_options_read c.args.run.now) in
    let old = g.H.Host.state c.args.host.now in
    let new = g.H.Host.state c.read_source.new.host in
    record {
      only = c.in_err-source.ensures.only;
      named = IfOk-from_err c.from_residual.result _ c.from_residual.ensures.0;
      counted = IfOk-from_err c.from_residual.result _ c.from_residual.ensures.0;
      stopped = handed_on c.from_residual.result c.in_err-source.field-0.0 (NothingToRun (kind80 command) old new) c.from_residual.ensures.1
          (no_file c.in_err-source.ensures.stopped);
    }

pub returns-in_err-supplies : goal.returns-in_err-supplies
returns-in_err-supplies g c =
    let command : Run80 = words_of c.args.name.now c.args.zilog c.args.top (run_options_read c.args.run.now) in
    let old = g.H.Host.state c.args.host.now in
    let mid = g.H.Host.state c.read_source.new.host in
    let new = g.H.Host.state c.read_supplies.new.host in
    let first = c.in_ok-source.ensures in
    record {
      only = OnlyReads-trans c.in_ok-source.ensures.only c.in_err-supplies.ensures.only;
      named = IfOk-from_err c.from_residual-in_err-supplies.result _ c.from_residual-in_err-supplies.ensures.0;
      counted = IfOk-from_err c.from_residual-in_err-supplies.result _ c.from_residual-in_err-supplies.ensures.0;
      stopped = handed_on c.from_residual-in_err-supplies.result c.in_err-supplies.field-0.0 (NothingToRun (kind80 command) old new) c.from_residual-in_err-supplies.ensures.1
          (no_supply first.read.bytes first.read.file (supply_stops_before old mid new first.only first.counted command.run c.in_err-supplies.field-0.0 c.in_err-supplies.ensures.stopped));
    }

-- the source is refused, and the other files were read
pub returns-in-Err : goal.returns-in-Err
returns-in-Err g c =
    let command : Run80 = words_of c.args.name.now c.args.zilog c.args.top (run_options_read c.args.run.now) in
    let old = g.H.Host.state c.args.host.now in
    let mid = g.H.Host.state c.read_source.new.host in
    let first = c.in_ok-source.ensures in
    let second = c.in_ok-supplies.ensures in
    let s = c.in_ok-supplies.supplies in
    let given = given_of s.input.items s.disk.items s.ports.items in
    record {
      only = OnlyReads-trans c.in_ok-source.ensures.only c.in_ok-supplies.ensures.only;
      named = tt;
      counted = tt;
      stopped = is_refused first.read.bytes given first.read.file (supply_before old mid (g.H.Host.state c.read_supplies.new.host) first.only first.counted command.run given second.read)
          (SameFaults-trans first.counted second.counted)
          (subst (SourceGives (reading_of command.zilog) first.read.bytes command.top) c.in-Err.is first.read.gives);
    }

pub returns-in-Ok : goal.returns-in-Ok
returns-in-Ok g c =
    let command : Run80 = words_of c.args.name.now c.args.zilog c.args.top (run_options_read c.args.run.now) in
    let old = g.H.Host.state c.args.host.now in
    let mid = g.H.Host.state c.read_source.new.host in
    let first = c.in_ok-source.ensures in
    let second = c.in_ok-supplies.ensures in
    let s = c.in_ok-supplies.supplies in
    let given = given_of s.input.items s.disk.items s.ports.items in
    record {
      only = OnlyReads-trans c.in_ok-source.ensures.only c.in_ok-supplies.ensures.only;
      named = record {
        bytes = first.read.bytes;
        file = first.read.file;
        gives = subst (SourceGives (reading_of command.zilog) first.read.bytes command.top) c.in-Ok.is first.read.gives;
        supplied = supply_before old mid (g.H.Host.state c.read_supplies.new.host) first.only first.counted command.run given second.read;
      };
      counted = SameFaults-trans c.in_ok-source.ensures.counted c.in_ok-supplies.ensures.counted;
      stopped = tt;
    }
