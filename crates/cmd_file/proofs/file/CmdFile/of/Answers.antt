use Rattle.std.proofs.Common.{List, ℕ, ap, ap₂, ◌∙◌}
use Rattle.std.proofs.lemmas.Result.{IfOk-from_err}
use Rattle.cmd_file.specs.CommandFile.{CommandFile}
use Rattle.cmd_file.specs.Written.{zero_filled, data_bytes}
use Rattle.cmd_file.proofs.file.CmdFile.of.Goals as goal

-- memory was wanting
pub returns-in_err-code : goal.returns-in_err-code
returns-in_err-code c = IfOk-from_err c.from_residual.result _ c.from_residual.ensures.0

pub returns-in_err-fill : goal.returns-in_err-fill
returns-in_err-fill c = IfOk-from_err c.from_residual-in_err-fill.result _ c.from_residual-in_err-fill.ensures.0

pub returns-in_err-data : goal.returns-in_err-data
returns-in_err-data c = IfOk-from_err c.from_residual-in_err-data.result _ c.from_residual-in_err-data.ensures.0

pub returns : goal.returns
returns c =
    let file : List ℕ → List ℕ → CommandFile = λ code bytes. record { code = code; «data» = bytes } in
    ap₂ file (c.in_ok-fill.ensures ∙ ap (zero_filled 16) (c.in_ok-code.ensures.items ∙ c.code.ensures.value))
    (c.in_ok-fill-2.ensures ∙ ap (zero_filled 16) (c.in_ok-data.ensures.bytes ∙ ap data_bytes c.cells.ensures))
