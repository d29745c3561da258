use Rattle.std.proofs.lemmas.Result.{IfOk-from_err}
use Rattle.host.specs.Host.{HostState}
use Rattle.cmd_arguments.specs.ReadCommands.{run80_read}
use Rattle.cmd_runs.specs.Supplies.{given_of}
use Rattle.cmd_runs.specs.Kinds.{HasRead, CanBeRun}
use Rattle.cmd_runs.specs.Runs80.{kind80, work80}
use Rattle.cmd_runs.proofs.FilesRead.{nothing_halts}
use Rattle.cmd_runs.proofs.Working.{begun_has, begun_halts}
use Rattle.cmd_runs.proofs.run_source.work.Goals as goal

pub returns-in_err-named : goal.returns-in_err-named
returns-in_err-named g c =
    let e = c.in_err-named.ensures in
    record {
      made = IfOk-from_err c.from_residual.result _ c.from_residual.ensures.0;
      came = IfOk-from_err c.from_residual.result _ c.from_residual.ensures.0;
      halted = nothing_halts (kind80 (run80_read c.args.command.now)) (g.H.Host.state c.args.host.now) (g.H.Host.state c.read_program.new.host)
          c.from_residual.result c.in_err-named.field-0.0 c.from_residual.ensures.1 e.only e.stopped;
    }

pub returns : goal.returns
returns g c =
    let command = run80_read c.args.command.now in
    let old = g.H.Host.state c.args.host.now in
    let start = g.H.Host.state c.read_program.new.host in
    let new = g.H.Host.state c.run_over.new.host in
    let n = c.in_ok-named.named in
    let s = n.supplies in
    let e = c.in_ok-named.ensures in
    let Stood = λ (begin : HostState). CanBeRun (kind80 command) begin n.program (given_of s.input.items s.disk.items s.ports.items) in
    let read : HasRead (Stood old) old start = record { stands = record { named = e.named; readable = tt }; reads = e.only; counted = e.counted } in
    record {
      made = c.run_over.ensures.made;
      came = begun_has (work80 command) Stood old start new read c.run_over.result c.run_over.ensures.came;
      halted = begun_halts (work80 command) Stood old start new read c.run_over.result c.run_over.ensures.halted;
    }
