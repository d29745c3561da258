use Rattle.std.proofs.lemmas.Result.{IfOk-from_err}
use Rattle.host.specs.Host.{HostState}
use Rattle.cmd_arguments.specs.ReadCommands.{run_hex_read}
use Rattle.cmd_runs.specs.Supplies.{given_of}
use Rattle.cmd_runs.specs.Kinds.{CanBeRun, no_file}
use Rattle.cmd_runs.specs.Works.{work_of_one}
use Rattle.cmd_runs.specs.RunsHex.{kind_hex}
use Rattle.cmd_runs.proofs.FilesRead.{nothing_halts, supplies_halt, bytes_halt, files_read}
use Rattle.cmd_runs.proofs.Working.{begun_has, begun_halts}
use Rattle.cmd_runs.proofs.LawsHex.{hex_stops}
use Rattle.cmd_runs.proofs.run_hex.work.Goals as goal

pub returns-in_err-bytes : goal.returns-in_err-bytes
returns-in_err-bytes g c =
    let e = c.in_err-bytes.ensures in
    record {
      made = IfOk-from_err c.from_residual.result _ c.from_residual.ensures.0;
      came = IfOk-from_err c.from_residual.result _ c.from_residual.ensures.0;
      halted = nothing_halts (kind_hex (run_hex_read c.args.command.now)) (g.H.Host.state c.args.host.now) (g.H.Host.state c.read_named.new.host)
          c.from_residual.result c.in_err-bytes.field-0.0 c.from_residual.ensures.1 e.only (no_file e.stopped);
    }

pub returns-in_err-supplies : goal.returns-in_err-supplies
returns-in_err-supplies g c =
    let first = c.in_ok-bytes.ensures in
    let e = c.in_err-supplies.ensures in
    record {
      made = IfOk-from_err c.from_residual-in_err-supplies.result _ c.from_residual-in_err-supplies.ensures.0;
      came = IfOk-from_err c.from_residual-in_err-supplies.result _ c.from_residual-in_err-supplies.ensures.0;
      halted = supplies_halt (kind_hex (run_hex_read c.args.command.now)) (g.H.Host.state c.args.host.now) (g.H.Host.state c.read_supplies.new.host) (g.H.Host.state c.read_named.new.host)
          c.in_ok-bytes.bytes.items first.read first.only first.counted e.only c.from_residual-in_err-supplies.result c.in_err-supplies.field-0.0 c.from_residual-in_err-supplies.ensures.1 e.stopped;
    }

pub returns-in_err-hex : goal.returns-in_err-hex
returns-in_err-hex g c =
    let command = run_hex_read c.args.command.now in
    let old = g.H.Host.state c.args.host.now in
    let new = g.H.Host.state c.read_supplies.new.host in
    let first = c.in_ok-bytes.ensures in
    let second = c.in_ok-supplies.ensures in
    let s = c.in_ok-supplies.supplies in
    let given = given_of s.input.items s.disk.items s.ports.items in
    let stop = c.in_err-hex.field-0.0 in
    record {
      made = IfOk-from_err c.from_residual-in_err-hex.result _ c.from_residual-in_err-hex.ensures.0;
      came = IfOk-from_err c.from_residual-in_err-hex.result _ c.from_residual-in_err-hex.ensures.0;
      halted = bytes_halt (kind_hex command) old new (g.H.Host.state c.read_named.new.host) c.in_ok-bytes.bytes.items first.read first.only first.counted second.only given second.counted second.read
          c.from_residual-in_err-hex.result stop c.from_residual-in_err-hex.ensures.1 (λ supplied same. hex_stops command old new c.in_ok-bytes.bytes.items given first.read supplied same stop c.in_err-hex.ensures);
    }

pub returns : goal.returns
returns g c =
    let kind = kind_hex (run_hex_read c.args.command.now) in
    let old = g.H.Host.state c.args.host.now in
    let start = g.H.Host.state c.read_supplies.new.host in
    let new = g.H.Host.state c.run_over.new.host in
    let first = c.in_ok-bytes.ensures in
    let second = c.in_ok-supplies.ensures in
    let s = c.in_ok-supplies.supplies in
    let given = given_of s.input.items s.disk.items s.ports.items in
    let hex = c.in_ok-hex.hex in
    let read = files_read kind old start (g.H.Host.state c.read_named.new.host) c.in_ok-bytes.bytes.items first.read first.only first.counted second.only given second.counted second.read hex c.in_ok-hex.ensures c.memory_is_fetched.ensures in
    let Stood = λ (begin : HostState). CanBeRun kind begin hex given in
    record {
      made = c.run_over.ensures.made;
      came = begun_has (work_of_one kind) Stood old start new read c.run_over.result c.run_over.ensures.came;
      halted = begun_halts (work_of_one kind) Stood old start new read c.run_over.result c.run_over.ensures.halted;
    }
