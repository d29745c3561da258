use Rattle.std.proofs.Common.{ℕ, List, refl, sym, subst}
use Rattle.host.specs.Host.{HostState, OnlyReads, SameFaults}
use Rattle.cmd_file.specs.declared.fault.CmdFault.{CmdFault}
use Rattle.cmd_file.specs.declared.fault.CmdFault.TheVariants.{Bad, Memory}
use Rattle.cmd_file.specs.Reading.{IsCmdFaultOf}
use Rattle.cmd_arguments.specs.Words.{CmdShow}
use Rattle.cmd_arguments.specs.ReadCommands.{cmd_show_read}
use Rattle.cmd_common.specs.declared.stop.Stop.TheVariants.{OutOfMemory}
use Rattle.cmd_common.specs.Files.{IsWholeFile, input_limit}
use Rattle.cmd_common.proofs.Told.{handed_on}
use Rattle.cmd_common.specs.Makes.{MakeStops, unmade, no_file, is_refused, no_memory}
use Rattle.cmd_makes.specs.Shows.{cmd_show_kind, stop_of_file}
use Rattle.cmd_makes.proofs.showing.work.Goals as goal

-- bytes that are no command file
file_stop : (c : CmdShow) (old new : HostState) (bytes : List ℕ) → IsWholeFile old c.file input_limit bytes → OnlyReads old new → SameFaults old new → (fault : CmdFault) → IsCmdFaultOf bytes fault → MakeStops (cmd_show_kind c) old new (stop_of_file fault)
file_stop c old new bytes file only counted (Bad place) h = unmade only (is_refused bytes file counted (place, h, refl))
file_stop c old new bytes file only counted Memory h = unmade only no_memory

pub returns-in_err-bytes-clause-stopped : goal.returns-in_err-bytes-clause-stopped
returns-in_err-bytes-clause-stopped g c =
    let kind = cmd_show_kind (cmd_show_read c.args.command.now) in
    let old = g.H.Host.state c.args.host.now in
    let new = g.H.Host.state c.read_named.new.host in
    handed_on c.from_residual.result c.in_err-bytes.field-0.0 (MakeStops kind old new) c.from_residual.ensures.1
    (unmade c.in_err-bytes.ensures.only (no_file c.in_err-bytes.ensures.stopped))

pub returns-in-Err-clause-stopped : goal.returns-in-Err-clause-stopped
returns-in-Err-clause-stopped g c =
    let command = cmd_show_read c.args.command.now in
    let old = g.H.Host.state c.args.host.now in
    let new = g.H.Host.state c.read_named.new.host in
    let read = c.in_ok-bytes.ensures in
    subst (MakeStops (cmd_show_kind command) old new) (sym c.stop_of.ensures)
    (file_stop command old new c.in_ok-bytes.bytes.items read.read read.only read.counted c.in-Err.fault
    (subst (λ b. IsCmdFaultOf b c.in-Err.fault) c.as_slice.ensures.value c.in-Err.ensures))

pub returns-in_err-groups_line-clause-stopped : goal.returns-in_err-groups_line-clause-stopped
returns-in_err-groups_line-clause-stopped g c =
    let kind = cmd_show_kind (cmd_show_read c.args.command.now) in
    let old = g.H.Host.state c.args.host.now in
    let new = g.H.Host.state c.read_named.new.host in
    handed_on c.from_residual-in_err-groups_line.result OutOfMemory (MakeStops kind old new) c.from_residual-in_err-groups_line.ensures.1
    (unmade c.in_ok-bytes.ensures.only no_memory)
