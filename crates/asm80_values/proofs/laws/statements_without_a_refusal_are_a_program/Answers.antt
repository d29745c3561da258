use Rattle.std.specs.Prelude.{None}
use Rattle.asm80_values.proofs.Existing.{program_exists}
use Rattle.asm80_values.proofs.laws.statements_without_a_refusal_are_a_program.Goals as goal

pub returns-clause-program : goal.returns-clause-program
returns-clause-program g c = program_exists

pub returns-clause-source : goal.returns-clause-source
returns-clause-source g c bytes ss top gives allowed none =
    let found = program_exists ss top (c.statements_of_a_stream_are_in_range.ensures bytes ss None gives) allowed none in
    (found.0, record { statements = ss; lines = gives; program = found.1 })
