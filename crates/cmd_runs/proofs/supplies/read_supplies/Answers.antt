use Rattle.std.specs.Prelude.{option_copied}
use Rattle.cmd_common.specs.declared.names.InputFile.TheVariants.{Ports}
use Rattle.std.proofs.lemmas.Result.{err_from_is_err_and, IfOk-from_err}
use Rattle.host.proofs.HostLemmas.{OnlyReads-trans, SameFaults-trans}
use Rattle.cmd_runs.specs.Supplies.{no_input, no_disk_file, no_ports}
use Rattle.cmd_runs.proofs.Loading.{input_before, disk_before, input_stops_before, disk_stops_before}
use Rattle.cmd_runs.proofs.supplies.read_supplies.Goals as goal

pub returns-in_err-input : goal.returns-in_err-input
returns-in_err-input g c =
    let p = err_from_is_err_and c.from_residual.result c.from_residual.ensures.1 in
    record {
      only = c.in_err-input.ensures.only;
      read = IfOk-from_err c.from_residual.result _ c.from_residual.ensures.0;
      counted = IfOk-from_err c.from_residual.result _ c.from_residual.ensures.0;
      stopped = rw (p.1, p.2) (no_input c.in_err-input.ensures.stopped);
    }

pub returns-in_err-disk : goal.returns-in_err-disk
returns-in_err-disk g c =
    let p = err_from_is_err_and c.from_residual-in_err-disk.result c.from_residual-in_err-disk.ensures.1 in
    let old = g.H.Host.state c.args.host.now in
    let mid = g.H.Host.state c.read_input.new.host in
    let new = g.H.Host.state c.read_disk_file.new.host in
    let first = c.in_ok-input.ensures in
    record {
      only = OnlyReads-trans c.read_input.ensures.only c.read_disk_file.ensures.only;
      read = IfOk-from_err c.from_residual-in_err-disk.result _ c.from_residual-in_err-disk.ensures.0;
      counted = IfOk-from_err c.from_residual-in_err-disk.result _ c.from_residual-in_err-disk.ensures.0;
      stopped = rw (p.1, p.2)
          (no_disk_file c.in_ok-input.input.items first.read (disk_stops_before old mid new first.only first.counted (option_copied c.args.run.now.disk) c.in_err-disk.field-0.0 c.in_err-disk.ensures.stopped));
    }

pub returns-in_err-ports : goal.returns-in_err-ports
returns-in_err-ports g c =
    let p = err_from_is_err_and c.from_residual-in_err-ports.result c.from_residual-in_err-ports.ensures.1 in
    let old = g.H.Host.state c.args.host.now in
    let mid = g.H.Host.state c.read_input.new.host in
    let next = g.H.Host.state c.read_disk_file.new.host in
    let new = g.H.Host.state c.read_input-2.new.host in
    let first = c.in_ok-input.ensures in
    let second = c.in_ok-disk.ensures in
    record {
      only = OnlyReads-trans (OnlyReads-trans c.read_input.ensures.only c.read_disk_file.ensures.only) c.read_input-2.ensures.only;
      read = IfOk-from_err c.from_residual-in_err-ports.result _ c.from_residual-in_err-ports.ensures.0;
      counted = IfOk-from_err c.from_residual-in_err-ports.result _ c.from_residual-in_err-ports.ensures.0;
      stopped = rw (p.1, p.2)
          (no_ports c.in_ok-input.input.items c.in_ok-disk.disk.items first.read (disk_before old mid next first.only first.counted (option_copied c.args.run.now.disk) c.in_ok-disk.disk.items second.read)
          (input_stops_before old next new (OnlyReads-trans first.only second.only) (SameFaults-trans first.counted second.counted) Ports (option_copied c.args.run.now.ports) c.in_err-ports.field-0.0 c.in_err-ports.ensures.stopped));
    }

pub returns : goal.returns
returns g c =
    let old = g.H.Host.state c.args.host.now in
    let mid = g.H.Host.state c.read_input.new.host in
    let next = g.H.Host.state c.read_disk_file.new.host in
    let new = g.H.Host.state c.read_input-2.new.host in
    let first = c.in_ok-input.ensures in
    let second = c.in_ok-disk.ensures in
    record {
      only = OnlyReads-trans (OnlyReads-trans c.read_input.ensures.only c.read_disk_file.ensures.only) c.read_input-2.ensures.only;
      read = record {
        input = first.read;
        disk = disk_before old mid next first.only first.counted (option_copied c.args.run.now.disk) c.in_ok-disk.disk.items second.read;
        ports = input_before old next new (OnlyReads-trans first.only second.only) (SameFaults-trans first.counted second.counted) (option_copied c.args.run.now.ports) c.in_ok-ports.ports.items c.in_ok-ports.ensures.read;
      };
      counted = SameFaults-trans (SameFaults-trans first.counted second.counted) c.in_ok-ports.ensures.counted;
      stopped = tt;
    }
