-- The numbers of one line more are in their ranges.
use Rattle.std.proofs.Common.{◌≡◌, ℕ, zero, suc, ◌+◌, ◌<◌, List, [], ◌∷◌, length, get_or, take, subst, arith}
use Rattle.asm86_line_types.specs.declared.line.Line86.{Line86}
use Rattle.asm86_line_types.specs.Image.{statements}
use Rattle.sym_block_def.specs.Sorts.{StatementIsCoded, StatementsAreCoded}
use Rattle.simulation_def.specs.Matches.{DatumIsCoded, DataAreCoded}

instructions_more : (xs : List Line86) (i : ℕ) (d : Line86) → i < length xs → StatementsAreCoded (statements (take i xs)) → StatementIsCoded (get_or xs i d).stmt → StatementsAreCoded (statements (take (suc i) xs))
instructions_more [] i d lt h here = absurd (omega arith)
instructions_more (x ∷ xs) zero d lt h here = (here, tt)
instructions_more (x ∷ xs) (suc i) d lt h here = (h.0, instructions_more xs i d (omega arith) h.1 here)

data_more : (xs : List Line86) (i : ℕ) (d : Line86) → i < length xs → DataAreCoded (statements (take i xs)) → DatumIsCoded (get_or xs i d).stmt → DataAreCoded (statements (take (suc i) xs))
data_more [] i d lt h here = absurd (omega arith)
data_more (x ∷ xs) zero d lt h here = (here, tt)
data_more (x ∷ xs) (suc i) d lt h here = (h.0, data_more xs i d (omega arith) h.1 here)

next_is : (i : ℕ) → suc i ≡ i + 1
next_is i = omega arith

pub one_instruction_more : (xs : List Line86) (i : ℕ) (d : Line86) → i < length xs → StatementsAreCoded (statements (take i xs)) → StatementIsCoded (get_or xs i d).stmt → StatementsAreCoded (statements (take (i + 1) xs))
one_instruction_more xs i d lt h here = subst (λ n. StatementsAreCoded (statements (take n xs))) (next_is i) (instructions_more xs i d lt h here)

pub one_datum_more : (xs : List Line86) (i : ℕ) (d : Line86) → i < length xs → DataAreCoded (statements (take i xs)) → DatumIsCoded (get_or xs i d).stmt → DataAreCoded (statements (take (i + 1) xs))
one_datum_more xs i d lt h here = subst (λ n. DataAreCoded (statements (take n xs))) (next_is i) (data_more xs i d lt h here)
