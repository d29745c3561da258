use Rattle.std.proofs.Common.{◌≡◌, refl, subst}
use Rattle.std.specs.Prelude.{Result, Ok}
use Rattle.host.specs.Host.{HostState}
use Rattle.hex_file.specs.Written.{IsWritten}
use Rattle.asm80_types.specs.Program.{Program}
use Rattle.i80_bytes.specs.Cells.{program_cells}
use Rattle.cmd_arguments.specs.Words.{Hex80}
use Rattle.cmd_arguments.specs.ReadCommands.{hex80_read}
use Rattle.cmd_common.specs.declared.stop.Stop.{Stop}
use Rattle.cmd_common.specs.declared.stop.Stop.TheVariants.{OutOfMemory}
use Rattle.cmd_common.specs.Sources.{SourceGives, ReadsSource, reading_of}
use Rattle.cmd_common.proofs.Told.{handed_on}
use Rattle.cmd_common.proofs.Refused.{source_stop}
use Rattle.cmd_common.specs.Makes.{IsMade, MakeStops, unmade, no_file, no_memory}
use Rattle.cmd_makes.specs.Hexes.{HexOfProgram, hex_kind}
use Rattle.cmd_makes.proofs.Stopping.{write_stop, has_made}
use Rattle.cmd_makes.proofs.hexing.work.Goals as goal

-- the HEX file of the source that was read is made
is_made : (c : Hex80) (old : HostState) (m : HexOfProgram) (outcome : Result Program Stop) → ReadsSource (reading_of c.zilog) old c.source c.top outcome → outcome ≡ Ok m.program → IsWritten (program_cells m.program) m.text → IsMade (hex_kind c) old m
is_made c old m outcome read was written = record {
  bytes = read.bytes;
  file = read.file;
  gives = record { source = subst (SourceGives (reading_of c.zilog) read.bytes c.top) was read.gives; written = written };
}

pub returns-in_err-source-clause-stopped : goal.returns-in_err-source-clause-stopped
returns-in_err-source-clause-stopped g c =
    let kind = hex_kind (hex80_read c.args.command.now) in
    let old = g.H.Host.state c.args.host.now in
    let new = g.H.Host.state c.read_source.new.host in
    handed_on c.from_residual.result c.in_err-source.field-0.0 (MakeStops kind old new) c.from_residual.ensures.1
    (unmade c.in_err-source.ensures.only (no_file c.in_err-source.ensures.stopped))

-- the source is refused
pub returns-in_err-program-clause-stopped : goal.returns-in_err-program-clause-stopped
returns-in_err-program-clause-stopped g c =
    let command = hex80_read c.args.command.now in
    let kind = hex_kind command in
    let old = g.H.Host.state c.args.host.now in
    let new = g.H.Host.state c.read_source.new.host in
    let read = c.in_ok-source.ensures in
    handed_on c.from_residual-in_err-program.result c.in_err-program.field-0.0 (MakeStops kind old new) c.from_residual-in_err-program.ensures.1
    (source_stop kind (reading_of command.zilog) command.top old new refl (λ bytes stop h. h) read.only read.counted _ c.in_err-program.field-0.0 read.read c.in_err-program.was)

pub returns-in_err-hex-clause-stopped : goal.returns-in_err-hex-clause-stopped
returns-in_err-hex-clause-stopped g c =
    let kind = hex_kind (hex80_read c.args.command.now) in
    let old = g.H.Host.state c.args.host.now in
    let new = g.H.Host.state c.read_source.new.host in
    handed_on c.from_residual-in_err-hex.result OutOfMemory (MakeStops kind old new) c.from_residual-in_err-hex.ensures.1
    (unmade c.in_ok-source.ensures.only no_memory)

pub returns-in_err-write_made-clause-stopped : goal.returns-in_err-write_made-clause-stopped
returns-in_err-write_made-clause-stopped g c =
    let command = hex80_read c.args.command.now in
    let kind = hex_kind command in
    let old = g.H.Host.state c.args.host.now in
    let mid = g.H.Host.state c.read_source.new.host in
    let new = g.H.Host.state c.write_made.new.host in
    let read = c.in_ok-source.ensures in
    let write = c.in_err-write_made in
    let made : HexOfProgram = record { program = c.in_ok-program.program; text = c.in_ok-hex.hex.text.items } in
    let is = is_made command old made _ read.read c.in_ok-program.was c.in_ok-hex.ensures.text in
    handed_on c.from_residual-in_err-write_made.result write.field-0.0 (MakeStops kind old new) c.from_residual-in_err-write_made.ensures.1
    (write_stop kind old mid new read.only read.counted command.output refl made is c.as_slice.result.now c.as_slice.ensures.value write.field-0.0 write.ensures.stopped)

pub returns-clause-made : goal.returns-clause-made
unfolding has_made
returns-clause-made g c =
    let command = hex80_read c.args.command.now in
    let kind = hex_kind command in
    let old = g.H.Host.state c.args.host.now in
    let mid = g.H.Host.state c.read_source.new.host in
    let new = g.H.Host.state c.write_made.new.host in
    let read = c.in_ok-source.ensures in
    let write = c.in_ok-write_made in
    let made : HexOfProgram = record { program = c.in_ok-program.program; text = c.in_ok-hex.hex.text.items } in
    let is = is_made command old made _ read.read c.in_ok-program.was c.in_ok-hex.ensures.text in
    has_made kind old mid new read.only read.counted command.output refl made is c.as_slice.result.now c.as_slice.ensures.value write.ensures.only write.ensures.written write.ensures.counted _ c.in_ok-hex.ensures.line
