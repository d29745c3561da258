use Rattle.std.proofs.Common.{inl, inr, ⊎_elim, subst, sym}
use Rattle.i86.specs.Decode.{HasReader}
use Rattle.asm86_line_types.specs.Image.{Image}
use Rattle.asm86.specs.Images.{HasImage}
use Rattle.cmd_common.specs.Texts.{BytesGiveLines}
use Rattle.cmd_common.proofs.Texts.{lines_refused, image_refused}
use Rattle.cmd_runs.proofs.Equipped.{handed_to}
use Rattle.cmd_runs.proofs.text_inputs.read_image.Goals as goal

-- a line is refused
pub returns-in_err-lines : goal.returns-in_err-lines
returns-in_err-lines c = λ bytes gives.
    let stop = c.in_err-lines.field-0.0 in
    handed_to c.from_residual.result stop _ _ c.from_residual.ensures.1 (inl (lines_refused bytes stop (subst (BytesGiveLines bytes) c.in_err-lines.was gives)))

-- the lines have no image
pub returns-in_err-loaded : goal.returns-in_err-loaded
returns-in_err-loaded c = λ bytes gives.
    let stop = c.in_err-loaded.field-0.0 in
    handed_to c.from_residual-in_err-loaded.result stop _ _ c.from_residual-in_err-loaded.ensures.1
    (⊎_elim inr inl (image_refused bytes c.in_ok-lines.lines.items (subst (BytesGiveLines bytes) c.in_ok-lines.was gives) stop c.in_err-loaded.ensures.stopped))

pub returns : goal.returns
returns c = λ bytes gives.
    let image = c.in_ok-loaded.ensures.image in
    subst (λ (i : Image). HasImage bytes i × HasReader i.code) (sym c.into_image.ensures)
    (record { lines = c.in_ok-lines.lines.items; reads = subst (BytesGiveLines bytes) c.in_ok-lines.was gives; assembled = image.made }, image.reader)
