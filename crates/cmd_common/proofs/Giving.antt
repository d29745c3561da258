-- What the statements of a source are, its bytes are.
use Rattle.std.proofs.Common.{ℕ, List}
use Rattle.std.specs.Prelude.{Result, Ok, Err, None}
use Rattle.asm80_types.specs.Tree.{Statement}
use Rattle.asm80_types.specs.Reading.{Reading}
use Rattle.asm80_types.specs.Program.{Program}
use Rattle.asm80_source_def.specs.Source.{refused}
use Rattle.cmd_common.specs.declared.stop.Stop.{Stop}
use Rattle.cmd_common.specs.Sources.{of_program, SourceGives, StatementsGive, breaks}

pub source_gives : (reading : Reading) (bytes : List ℕ) (top : ℕ) (statements : List Statement) (outcome : Result Program Stop) → reading bytes statements None → StatementsGive statements top outcome → SourceGives reading bytes top outcome
source_gives reading bytes top statements (Ok p) lines h = record { statements = statements; lines = lines; program = h }
source_gives reading bytes top statements (Err _) lines (breaks r) = of_program (refused lines r)
