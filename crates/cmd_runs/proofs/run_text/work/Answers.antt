use Rattle.std.proofs.lemmas.Result.{IfOk-from_err}
use Rattle.host.specs.Host.{HostState}
use Rattle.cmd_arguments.specs.ReadCommands.{run86_read}
use Rattle.cmd_runs.specs.Supplies.{given_of}
use Rattle.cmd_runs.specs.Kinds.{CanBeRun, no_file}
use Rattle.cmd_runs.specs.Works.{work_of_one}
use Rattle.cmd_runs.specs.Runs86.{kind86}
use Rattle.cmd_runs.proofs.FilesRead.{nothing_halts, supplies_halt, bytes_halt, files_read}
use Rattle.cmd_runs.proofs.Working.{begun_has, begun_halts}
use Rattle.cmd_runs.proofs.TextLoading.{image_stops}
use Rattle.cmd_runs.proofs.run_text.work.Goals as goal

pub returns-in_err-text : goal.returns-in_err-text
returns-in_err-text g c =
    let e = c.in_err-text.ensures in
    record {
      made = IfOk-from_err c.from_residual.result _ c.from_residual.ensures.0;
      came = IfOk-from_err c.from_residual.result _ c.from_residual.ensures.0;
      halted = nothing_halts (kind86 (run86_read c.args.command.now)) (g.H.Host.state c.args.host.now) (g.H.Host.state c.read_text.new.host)
          c.from_residual.result c.in_err-text.field-0.0 c.from_residual.ensures.1 e.only (no_file e.stopped);
    }

pub returns-in_err-supplies : goal.returns-in_err-supplies
returns-in_err-supplies g c =
    let first = c.in_ok-text.ensures in
    let e = c.in_err-supplies.ensures in
    record {
      made = IfOk-from_err c.from_residual-in_err-supplies.result _ c.from_residual-in_err-supplies.ensures.0;
      came = IfOk-from_err c.from_residual-in_err-supplies.result _ c.from_residual-in_err-supplies.ensures.0;
      halted = supplies_halt (kind86 (run86_read c.args.command.now)) (g.H.Host.state c.args.host.now) (g.H.Host.state c.read_supplies.new.host) (g.H.Host.state c.read_text.new.host)
          first.read.bytes first.read.file first.only first.counted e.only c.from_residual-in_err-supplies.result c.in_err-supplies.field-0.0 c.from_residual-in_err-supplies.ensures.1 e.stopped;
    }

pub returns-in_err-image : goal.returns-in_err-image
returns-in_err-image g c =
    let command = run86_read c.args.command.now in
    let old = g.H.Host.state c.args.host.now in
    let new = g.H.Host.state c.read_supplies.new.host in
    let first = c.in_ok-text.ensures in
    let second = c.in_ok-supplies.ensures in
    let s = c.in_ok-supplies.supplies in
    let given = given_of s.input.items s.disk.items s.ports.items in
    let stop = c.in_err-image.field-0.0 in
    record {
      made = IfOk-from_err c.from_residual-in_err-image.result _ c.from_residual-in_err-image.ensures.0;
      came = IfOk-from_err c.from_residual-in_err-image.result _ c.from_residual-in_err-image.ensures.0;
      halted = bytes_halt (kind86 command) old new (g.H.Host.state c.read_text.new.host) first.read.bytes first.read.file first.only first.counted second.only given second.counted second.read
          c.from_residual-in_err-image.result stop c.from_residual-in_err-image.ensures.1 (λ supplied same. image_stops command old new first.read.bytes given first.read.file supplied same stop (c.in_err-image.ensures first.read.bytes first.read.gives));
    }

pub returns : goal.returns
returns g c =
    let kind = kind86 (run86_read c.args.command.now) in
    let old = g.H.Host.state c.args.host.now in
    let start = g.H.Host.state c.read_supplies.new.host in
    let new = g.H.Host.state c.run_over.new.host in
    let first = c.in_ok-text.ensures in
    let second = c.in_ok-supplies.ensures in
    let s = c.in_ok-supplies.supplies in
    let given = given_of s.input.items s.disk.items s.ports.items in
    let image = c.in_ok-image.image in
    let has = c.in_ok-image.ensures first.read.bytes first.read.gives in
    let read = files_read kind old start (g.H.Host.state c.read_text.new.host) first.read.bytes first.read.file first.only first.counted second.only given second.counted second.read image has.0 has.1 in
    let Stood = λ (begin : HostState). CanBeRun kind begin image given in
    record {
      made = c.run_over.ensures.made;
      came = begun_has (work_of_one kind) Stood old start new read c.run_over.result c.run_over.ensures.came;
      halted = begun_halts (work_of_one kind) Stood old start new read c.run_over.result c.run_over.ensures.halted;
    }
