use Rattle.std.proofs.Common.{◌≤◌, not, ap, ◌∙◌, arith}
use Rattle.std.proofs.lemmas.Bool.{ne_eqb}
use Rattle.cmd_file.proofs.Fitting.{form_stands, other_stands}
use Rattle.cmd_file.proofs.header.may_stand.Goals as goal

pub returns-then-field-ne0 : goal.returns-then-field-ne0
returns-then-field-ne0 c =
    let differs = c.if-field-ne0.true in
    let past : 18 ≤ c.args.place = omega arith in
    ap not (ne_eqb _ 0 differs) ∙ other_stands c.args.place c.args.before c.args.byte c.requires past differs

pub returns-else-field-ne0 : goal.returns-else-field-ne0
returns-else-field-ne0 c =
    let past : 18 ≤ c.args.place = omega arith in
    form_stands c.args.place c.args.before c.args.byte c.requires past c.if-field-ne0.false
