use Rattle.std.proofs.Common.{sym, ◌∙◌}
use Rattle.zilog80.specs.Operands.{atom}
use Rattle.zilog80.proofs.Reading.{reserved_fails}
use Rattle.zilog80.proofs.operand.read_operand.Goals as goal

pub returns-in-Some : goal.returns-in-Some
returns-in-Some c = atom (sym c.in-Some.ensures)

pub returns-then-has_reserved : goal.returns-then-has_reserved
returns-then-has_reserved c = reserved_fails c.args.tokens.now (sym c.in_default.ensures) (sym c.has_reserved.ensures ∙ c.if-has_reserved.true)
