use Rattle.std.proofs.Common.{ℕ, List, refl, sym}
use Rattle.zilog80.specs.Operands.{Class}
use Rattle.zilog80.specs.Table.{unary_rows}
use Rattle.zilog80.specs.Read.{unary_of}
use Rattle.zilog80.proofs.ByLetter.{by_letter, found_words, unary_of_letter, unary_of_none}
use Rattle.zilog80.proofs.table.unary_row.Goals as goal

pub unary_in-requires : goal.unary_in-requires
unfolding unary_rows by_letter
unary_in-requires c = found_words (λ (r : List ℕ × Class × List ℕ). r.0) unary_of unary_rows _ (λ (r : List ℕ × Class × List ℕ). r.2) c.args.word.now c.in-Some.rows.now (sym c.in-Some.ensures) refl refl

pub returns-in-Some : goal.returns-in-Some
unfolding unary_rows by_letter
returns-in-Some c = unary_of_letter unary_rows _ c.args.word.now _ c.in-Some.rows.now c.unary_in.result (sym c.in-Some.ensures) refl c.unary_in.ensures

pub returns-in-None : goal.returns-in-None
unfolding unary_rows by_letter
returns-in-None c = unary_of_none unary_rows _ c.args.word.now _ (sym c.in-None.ensures) refl refl
