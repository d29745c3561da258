use Rattle.std.proofs.Common.{ℕ, List, refl, sym}
use Rattle.zilog80.specs.Table.{bare_rows}
use Rattle.zilog80.specs.Read.{bare_of}
use Rattle.zilog80.proofs.ByLetter.{by_letter, found_words, bare_of_letter, bare_of_none}
use Rattle.zilog80.proofs.Found.{bare_is}
use Rattle.zilog80.proofs.table.bare_row.Goals as goal

pub beside-requires : goal.beside-requires
unfolding bare_rows by_letter
beside-requires c = found_words (λ (r : List ℕ × List ℕ). r.0) bare_of bare_rows _ (λ (r : List ℕ × List ℕ). r.1) c.args.word.now c.in-Some.rows.now (sym c.in-Some.ensures) refl refl

pub returns-in-Some : goal.returns-in-Some
unfolding bare_rows by_letter
returns-in-Some c = bare_of_letter bare_rows _ c.args.word.now c.in-Some.rows.now c.beside.result (sym c.in-Some.ensures) refl (λ entries view. bare_is entries c.in-Some.rows.now c.args.word.now c.beside.result view c.beside.ensures)

pub returns-in-None : goal.returns-in-None
unfolding bare_rows by_letter
returns-in-None c = bare_of_none bare_rows _ c.args.word.now (sym c.in-None.ensures) refl refl
