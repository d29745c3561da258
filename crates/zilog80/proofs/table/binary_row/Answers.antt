use Rattle.std.proofs.Common.{ℕ, List, refl, sym}
use Rattle.zilog80.specs.Operands.{Class}
use Rattle.zilog80.specs.Table.{binary_rows}
use Rattle.zilog80.specs.Read.{binary_of}
use Rattle.zilog80.proofs.ByLetter.{by_letter, found_words, binary_of_letter, binary_of_none}
use Rattle.zilog80.proofs.table.binary_row.Goals as goal

pub binary_in-requires : goal.binary_in-requires
unfolding binary_rows by_letter
binary_in-requires c = found_words (λ (r : List ℕ × Class × Class × List ℕ). r.0) binary_of binary_rows _ (λ (r : List ℕ × Class × Class × List ℕ). r.3) c.args.word.now c.in-Some.rows.now (sym c.in-Some.ensures) refl refl

pub returns-in-Some : goal.returns-in-Some
unfolding binary_rows by_letter
returns-in-Some c = binary_of_letter binary_rows _ c.args.word.now _ _ c.in-Some.rows.now c.binary_in.result (sym c.in-Some.ensures) refl c.binary_in.ensures

pub returns-in-None : goal.returns-in-None
unfolding binary_rows by_letter
returns-in-None c = binary_of_none binary_rows _ c.args.word.now _ _ (sym c.in-None.ensures) refl refl
