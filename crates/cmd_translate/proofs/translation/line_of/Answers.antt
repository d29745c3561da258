use Rattle.std.proofs.Common.{◌≡◌, length, subst}
use Rattle.std.specs.Prelude.{IfOk}
use Rattle.std.specs.String.{string_bytes}
use Rattle.cmd_common.specs.Lines.{translated_line}
use Rattle.cmd_translate.proofs.translation.line_of.Goals as goal

pub returns : goal.returns
returns c =
    let p = c.args.program.now in
    subst (λ n. IfOk c.translated_line.result (λ line. string_bytes line ≡ translated_line (length p.instrs) (length p.cells) n)) c.code_size.ensures.value
    (subst (λ cells. IfOk c.translated_line.result (λ line. string_bytes line ≡ translated_line (length p.instrs) (length cells) c.code_size.result)) c.cells-cells.ensures.value
    (subst (λ instrs. IfOk c.translated_line.result (λ line. string_bytes line ≡ translated_line (length instrs) (length c.cells-cells.result.now) c.code_size.result)) c.instrs-instructions.ensures.value
    c.translated_line.ensures))
