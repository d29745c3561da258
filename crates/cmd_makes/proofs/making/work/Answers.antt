use Rattle.std.proofs.Common.{◌≡◌, ⊎_elim, length, refl, sym, ap, ◌∙◌, subst}
use Rattle.std.specs.Prelude.{Result, Ok}
use Rattle.std.specs.Global.{Vec}
use Rattle.host.specs.Host.{HostState}
use Rattle.asm86_line_types.specs.declared.line.Line86.{Line86}
use Rattle.asm86_line_types.specs.Image.{Image, IsImage}
use Rattle.cmd_arguments.specs.Words.{Cmd}
use Rattle.cmd_arguments.specs.ReadCommands.{cmd_read}
use Rattle.cmd_common.specs.declared.stop.Stop.{Stop}
use Rattle.cmd_common.specs.declared.stop.Stop.TheVariants.{OutOfMemory}
use Rattle.cmd_common.specs.Lines.{command_file_line}
use Rattle.cmd_common.specs.Texts.{BytesGiveLines, ReadsTextFile}
use Rattle.cmd_common.proofs.Texts.{lines_refused, image_refused}
use Rattle.cmd_common.proofs.Told.{handed_on}
use Rattle.cmd_common.specs.Makes.{IsMade, MakeStops, unmade, no_file, is_refused, no_memory}
use Rattle.cmd_makes.proofs.Stopping.{write_stop, has_made}
use Rattle.cmd_makes.specs.Cmds.{cmd_kind}
use Rattle.cmd_makes.proofs.making.work.Goals as goal

-- the image of the text that was read is made
is_made : (c : Cmd) (old : HostState) (lines : Vec Line86) (outcome : Result (Vec Line86) Stop) → ReadsTextFile old c.text outcome → outcome ≡ Ok lines → (image : Image) → IsImage lines.items image → IsMade (cmd_kind c) old image
is_made c old lines outcome read was image made = record {
  bytes = read.bytes;
  file = read.file;
  gives = record { lines = lines.items; reads = subst (BytesGiveLines read.bytes) was read.gives; assembled = made };
}

pub returns-in_err-text-clause-stopped : goal.returns-in_err-text-clause-stopped
returns-in_err-text-clause-stopped g c =
    let kind = cmd_kind (cmd_read c.args.command.now) in
    let old = g.H.Host.state c.args.host.now in
    let new = g.H.Host.state c.read_text.new.host in
    handed_on c.from_residual.result c.in_err-text.field-0.0 (MakeStops kind old new) c.from_residual.ensures.1
    (unmade c.in_err-text.ensures.only (no_file c.in_err-text.ensures.stopped))

-- a line is refused
pub returns-in_err-lines-clause-stopped : goal.returns-in_err-lines-clause-stopped
returns-in_err-lines-clause-stopped g c =
    let kind = cmd_kind (cmd_read c.args.command.now) in
    let old = g.H.Host.state c.args.host.now in
    let new = g.H.Host.state c.read_text.new.host in
    let text = c.in_ok-text.ensures in
    handed_on c.from_residual-in_err-lines.result c.in_err-lines.field-0.0 (MakeStops kind old new) c.from_residual-in_err-lines.ensures.1
    (unmade text.only
    (is_refused text.read.bytes text.read.file text.counted
    (lines_refused text.read.bytes c.in_err-lines.field-0.0 (subst (BytesGiveLines text.read.bytes) c.in_err-lines.was text.read.gives))))

-- the lines have no image, or memory ran out
pub returns-in_err-file-clause-stopped : goal.returns-in_err-file-clause-stopped
returns-in_err-file-clause-stopped g c =
    let kind = cmd_kind (cmd_read c.args.command.now) in
    let old = g.H.Host.state c.args.host.now in
    let new = g.H.Host.state c.read_text.new.host in
    let text = c.in_ok-text.ensures in
    handed_on c.from_residual-in_err-file.result c.in_err-file.field-0.0 (MakeStops kind old new) c.from_residual-in_err-file.ensures.1
    (⊎_elim
    (λ m. subst (MakeStops kind old new) (sym m) (unmade text.only no_memory))
    (λ r. unmade text.only (is_refused text.read.bytes text.read.file text.counted r))
    (image_refused text.read.bytes c.in_ok-lines.lines.items (subst (BytesGiveLines text.read.bytes) c.in_ok-lines.was text.read.gives) c.in_err-file.field-0.0 c.in_err-file.ensures.stopped))

pub returns-in_err-line-clause-stopped : goal.returns-in_err-line-clause-stopped
returns-in_err-line-clause-stopped g c =
    let kind = cmd_kind (cmd_read c.args.command.now) in
    let old = g.H.Host.state c.args.host.now in
    let new = g.H.Host.state c.read_text.new.host in
    handed_on c.from_residual-in_err-line.result OutOfMemory (MakeStops kind old new) c.from_residual-in_err-line.ensures.1
    (unmade c.in_ok-text.ensures.only no_memory)

pub returns-in_err-write_made-clause-stopped : goal.returns-in_err-write_made-clause-stopped
returns-in_err-write_made-clause-stopped g c =
    let command = cmd_read c.args.command.now in
    let old = g.H.Host.state c.args.host.now in
    let mid = g.H.Host.state c.read_text.new.host in
    let new = g.H.Host.state c.write_made.new.host in
    let text = c.in_ok-text.ensures in
    let file = c.in_ok-file.ensures.file in
    let write = c.in_err-write_made in
    handed_on c.from_residual-in_err-write_made.result write.field-0.0 (MakeStops (cmd_kind command) old new) c.from_residual-in_err-write_made.ensures.1
    (write_stop (cmd_kind command) old mid new text.only text.counted command.output refl file.image
    (is_made command old c.in_ok-lines.lines _ text.read c.in_ok-lines.was file.image file.made)
    c.as_slice-bytes.result.now (c.as_slice-bytes.ensures.value ∙ file.spelt) write.field-0.0 write.ensures.stopped)

pub returns-clause-made : goal.returns-clause-made
unfolding has_made
returns-clause-made g c =
    let command = cmd_read c.args.command.now in
    let old = g.H.Host.state c.args.host.now in
    let mid = g.H.Host.state c.read_text.new.host in
    let new = g.H.Host.state c.write_made.new.host in
    let text = c.in_ok-text.ensures in
    let file = c.in_ok-file.ensures.file in
    let write = c.in_ok-write_made in
    record {
      has =
          has_made (cmd_kind command) old mid new text.only text.counted command.output refl file.image
          (is_made command old c.in_ok-lines.lines _ text.read c.in_ok-lines.was file.image file.made)
          c.as_slice-bytes.result.now (c.as_slice-bytes.ensures.value ∙ file.spelt) write.ensures.only write.ensures.written write.ensures.counted _
          (c.in_ok-line.ensures ∙ ap command_file_line (ap length (c.as_slice-bytes.ensures.value ∙ file.spelt)));
      is_file = file.is_file;
    }
