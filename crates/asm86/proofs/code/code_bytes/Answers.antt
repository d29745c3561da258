use Rattle.std.proofs.Common.{◌<◌, sym, ap, ◌∙◌, length, subst, get_or, arith}
use Rattle.std.proofs.lemmas.Result.{IfOk-from_err}
use Rattle.asm86_line_types.specs.declared.line.Stmt86.TheVariants.{Cseg}
use Rattle.asm86_line_types.specs.Layout.{sizes_of, code_from}
use Rattle.asm86.specs.Places.{label_place}
use Rattle.asm86.proofs.Laid.{up_to, up_to_all, one_more, size_within, IsCode, code_more}
use Rattle.asm86.proofs.code.code_bytes.Goals as goal

pub push_bytes-requires-clause-small : goal.push_bytes-requires-clause-small
push_bytes-requires-clause-small c =
    let within = size_within c.args.lines.now c.loop-line.line-index (record { line = 0; stmt = Cseg }) c.loop-line-test.true in
    let size = c.loop-line.invariant.size in
    omega (arith, within, size)

pub loop-line-preserved : goal.loop-line-preserved
loop-line-preserved c =
    let lines = c.args.lines.now in
    let i = c.loop-line.line-index in
    let off = label_place c.args.offsets.now in
    subst (λ xs. IsCode off xs c.push_bytes.new.code.items) (sym (one_more lines i (record { line = 0; stmt = Cseg }) c.loop-line-test.true))
    (code_more off (up_to lines i) (get_or lines i (record { line = 0; stmt = Cseg })).stmt c.loop-line.code.items c.push_bytes.new.code.items c.loop-line.invariant c.in_ok-push_bytes.ensures)

pub loop-line-init : goal.loop-line-init
loop-line-init c = record { size = ap length c.new-code.ensures.items; bytes = c.new-code.ensures.items }

pub returns-in_err-push_bytes-clause-bytes : goal.returns-in_err-push_bytes-clause-bytes
returns-in_err-push_bytes-clause-bytes c = IfOk-from_err c.from_residual.result _ c.from_residual.ensures.0

pub returns-in_err-push_bytes-clause-small : goal.returns-in_err-push_bytes-clause-small
returns-in_err-push_bytes-clause-small c = IfOk-from_err c.from_residual.result _ c.from_residual.ensures.0

pub returns-clause-bytes : goal.returns-clause-bytes
returns-clause-bytes c =
    c.loop-line.invariant.bytes ∙ ap (code_from (label_place c.args.offsets.now) 0) (up_to_all c.args.lines.now c.loop-line.line-index c.loop-line-test.false)

pub returns-clause-small : goal.returns-clause-small
returns-clause-small c =
    let size = c.loop-line.invariant.size ∙ ap sizes_of (up_to_all c.args.lines.now c.loop-line.line-index c.loop-line-test.false) in
    subst (λ n. n < 0x10000) (sym size) c.requires.small
