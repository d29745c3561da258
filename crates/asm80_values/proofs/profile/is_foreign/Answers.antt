use Rattle.std.proofs.Common.{◌==◌, not, ℕ, List, Some, map, sym, ap, ◌∙◌}
use Rattle.asm80_types.specs.declared.arg.Arg.{Arg}
use Rattle.asm80_types.specs.Tree.{operand_of}
use Rattle.asm80_source_def.specs.declared.operation.Operation.{Operation}
use Rattle.asm80_source_def.specs.Layout.{is_nonzero_restart, is_foreign_by}
use Rattle.asm80_values.specs.Settings.{setting_of}
use Rattle.asm80_values.proofs.profile.is_foreign.Goals as goal
use Rattle.asm80_values.proofs.Few.{one}

pub returns-then-args-eq1 : goal.returns-then-args-eq1
returns-then-args-eq1 c =
    let t = setting_of c.args.setting.now in
    ap (λ (n : ℕ). not (n == 0)) c.value.ensures ∙ ap (λ (args : List Arg). is_nonzero_restart t (map operand_of args)) (sym (one c.args.args.now _ c.if-args-eq1.true c.index-args-0.is))
    ∙ ap (λ (o : Operation). is_foreign_by t (map operand_of c.args.args.now) (Some o)) (sym c.in-Rst.is)
