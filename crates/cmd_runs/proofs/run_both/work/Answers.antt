use Rattle.std.proofs.lemmas.Result.{IfOk-from_err}
use Rattle.host.specs.Host.{HostState}
use Rattle.cmd_arguments.specs.ReadCommands.{both_read}
use Rattle.cmd_common.proofs.Told.{handed_on}
use Rattle.cmd_runs.specs.declared.halt.Halt.TheVariants.{By}
use Rattle.cmd_runs.specs.Supplies.{given_of}
use Rattle.cmd_runs.specs.Kinds.{IsNamed, HasRead}
use Rattle.cmd_runs.specs.Runs80.{kind80}
use Rattle.cmd_runs.specs.Works.{WorkHalts, unloaded as no_runs}
use Rattle.cmd_runs.specs.BothLoads.{source_of, unloaded}
use Rattle.cmd_runs.specs.BothRuns.{work_both}
use Rattle.cmd_runs.proofs.Working.{begun_has, begun_halts}
use Rattle.cmd_runs.proofs.run_both.work.Goals as goal

pub returns-in_err-named : goal.returns-in_err-named
returns-in_err-named g c =
    let command = both_read c.args.command.now in
    let w = work_both command in
    let old = g.H.Host.state c.args.host.now in
    let new = g.H.Host.state c.read_program.new.host in
    record {
      made = IfOk-from_err c.from_residual.result _ c.from_residual.ensures.0;
      came = IfOk-from_err c.from_residual.result _ c.from_residual.ensures.0;
      halted = handed_on c.from_residual.result (By c.in_err-named.field-0.0) (WorkHalts w old new) c.from_residual.ensures.1
          (no_runs c.in_err-named.ensures.only (unloaded c.in_err-named.ensures.stopped));
    }

pub run_over-requires : goal.run_over-requires
run_over-requires g c = c.in_ok-named.ensures.named.gives.program.program.lawful

pub returns : goal.returns
returns g c =
    let command = both_read c.args.command.now in
    let old = g.H.Host.state c.args.host.now in
    let start = g.H.Host.state c.read_program.new.host in
    let new = g.H.Host.state c.run_over.new.host in
    let n = c.in_ok-named.named in
    let s = n.supplies in
    let e = c.in_ok-named.ensures in
    let Stood = λ (begin : HostState). IsNamed (kind80 (source_of command)) begin n.program (given_of s.input.items s.disk.items s.ports.items) in
    let read : HasRead (Stood old) old start = record { stands = e.named; reads = e.only; counted = e.counted } in
    record {
      made = c.run_over.ensures.made;
      came = begun_has (work_both command) Stood old start new read c.run_over.result c.run_over.ensures.came;
      halted = begun_halts (work_both command) Stood old start new read c.run_over.result c.run_over.ensures.halted;
    }
