use Rattle.std.proofs.Common.{sym, length, arith}
use Rattle.std.proofs.lemmas.Bool.{eqb-false}
use Rattle.hex_file.proofs.Cutting.{ended_first, last_first}
use Rattle.hex_file.proofs.lines.first_line.Goals as goal

pub returns-in-Some : goal.returns-in-Some
returns-in-Some c = ended_first c.args.text.now c.without_cr.result.now c.in-Some.end (sym c.in-Some.ensures) c.without_cr.ensures

pub returns-in-None : goal.returns-in-None
returns-in-None c =
    let some = eqb-false (length c.args.text.now) 0 (sym c.if-is_empty.ensures) in
    last_first c.args.text.now (omega (arith, some)) (sym c.in-None.ensures)
