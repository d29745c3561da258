use Rattle.asm80_values.proofs.OneProgram.{one_program, one_refusal, never_both}
use Rattle.asm80_values.proofs.laws.source_has_one_outcome.Goals as goal

pub returns : goal.returns
returns g c =
    let one = c.reading_has_one_outcome.ensures in
    record {
      program = λ bytes top p q a b. one_program g.R.StatementReader.reading one bytes top p q a b;
      refusal = λ bytes top m n r s a b. one_refusal g.R.StatementReader.reading one bytes top m n r s a b;
      apart = λ bytes top n p r a b. never_both g.R.StatementReader.reading one bytes top n p r a b;
    }
