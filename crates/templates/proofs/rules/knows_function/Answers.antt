use Rattle.std.proofs.Common.{◌≡◌, not, ◌&&◌, ap, sym, ◌∙◌, rules}
use Rattle.cells.specs.declared.Part.TheVariants.{C}
use Rattle.cells.specs.Parts.{has}
use Rattle.i80.specs.Columns.{defs80}
use Rattle.templates.specs.Style.{knows_function}
use Rattle.templates.proofs.rules.knows_function.Goals as goal
use Rattle.templates.proofs.rules.knows_function.Goals.{In_default, in_default-via-in-Mvi+in-Reg+in_default, in_default-via-in-Mvi+in_default, in_default-via-in-Lxi+in-B+in_default, in_default-via-in-Lxi+in_default, in_default-via-in_default}

-- by default C holds what it held, where the instruction defines it not
by_default : (c : In_default) → c.args.known && not (has (defs80 c.args.instr) C) ≡ knows_function c.args.known c.args.instr
by_default c = elim c.in_default.branch [ in_default-via-in-Mvi+in-Reg+in_default w ↦ search rules | in_default-via-in-Mvi+in_default w ↦ search rules | in_default-via-in-Lxi+in-B+in_default w ↦ search rules | in_default-via-in-Lxi+in_default w ↦ search rules | in_default-via-in_default w ↦ search rules ]

pub returns-then-known : goal.returns-then-known
returns-then-known c =
    let i = c.args.instr in
    ap (λ k. k && not c.has.result) (sym c.if-known.true) ∙ ap (λ b. c.args.known && not b) (c.has.ensures ∙ ap (λ d. has d C) c.defs.ensures) ∙ by_default c.before.before.before

pub returns-else-known : goal.returns-else-known
returns-else-known c = c.if-known.false ∙ ap (λ k. k && not (has (defs80 c.args.instr) C)) (sym c.if-known.false) ∙ by_default c.before
