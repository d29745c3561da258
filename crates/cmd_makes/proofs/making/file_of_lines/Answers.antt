use Rattle.std.proofs.Common.{inl, refl}
use Rattle.std.proofs.lemmas.Result.{IfErr-weaker}
use Rattle.asm86.specs.declared.fault.ImageFault.TheVariants.{Memory}
use Rattle.cmd_common.specs.Texts.{ImageStops}
use Rattle.cmd_common.proofs.Told.{handed_on}
use Rattle.cmd_makes.proofs.making.file_of_lines.Goals as goal

pub returns-in_err-text-clause-stopped : goal.returns-in_err-text-clause-stopped
returns-in_err-text-clause-stopped c =
    let lines = c.args.lines.items in
    handed_on c.from_residual.result c.in_err-text.field-0.0 (ImageStops lines) c.from_residual.ensures.1 c.in_err-text.ensures.stopped

pub returns-clause-stopped : goal.returns-clause-stopped
returns-clause-stopped c = IfErr-weaker c.file_of_image.result _ _ (λ stop e. record { fault = Memory; refused = inl refl; is = e }) c.file_of_image.ensures.stopped
