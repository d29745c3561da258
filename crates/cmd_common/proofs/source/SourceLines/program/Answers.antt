use Rattle.std.proofs.Common.{ℕ, List, map, sym, subst, Err, None}
use Rattle.std.proofs.lemmas.Result.{IfOk-weaker}
use Rattle.asm80_types.specs.Tree.{statement_of}
use Rattle.asm80_types.specs.Reading.{Finishes}
use Rattle.asm80_source_def.specs.Source.{faulty}
use Rattle.cmd_common.specs.Sources.{of_line, SourceGives, StatementsGive}
use Rattle.cmd_common.proofs.Giving.{source_gives}
use Rattle.cmd_common.proofs.source.SourceLines.program.Goals as goal

-- the statements are a program, or break a rule
pub returns-in-Ok : goal.returns-in-Ok
returns-in-Ok g c =
    let reader = g.R.StatementReader in
    let statements = map statement_of c.as_slice.result.now in
    IfOk-weaker c.program_of.result (StatementsGive statements c.args.top) (λ outcome. (bytes : List ℕ) → reader.was_fed c.args.self.reader bytes → SourceGives reader.reading bytes c.args.top outcome)
    (λ outcome h bytes after.
    source_gives reader.reading bytes c.args.top statements outcome
    (subst (λ s. reader.reading bytes (map statement_of s) None) (sym c.as_slice.ensures.value) (c.in-Ok.ensures.outcome bytes after)) h)
    c.program_of.ensures

-- a line breaks a rule
pub returns-in-Syntax : goal.returns-in-Syntax
returns-in-Syntax g c = λ bytes after. of_line (faulty (subst (λ f. Finishes g.R.StatementReader.reading bytes (Err f)) c.in-Syntax.is (c.in-Err.ensures.outcome bytes after)).1)
