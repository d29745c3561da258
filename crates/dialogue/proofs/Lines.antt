-- A line that is written is no longer than its room.
use Rattle.std.proofs.Common.{◌≡◌, ℕ, ◌≤◌, ◌==◌, true, List, [], ◌∷◌, length, arith}
use Rattle.std.specs.Prelude.{nat_lt}
use Rattle.std.proofs.lemmas.Bool.{and_parts, eqb-true, false≢true, ltb-true}
use Rattle.dialogue.specs.Fits.{line_bytes_fit}

pub line_short : (room : ℕ) (bytes : List ℕ) → line_bytes_fit room bytes ≡ true → length bytes ≤ room
line_short room [] h = absurd (false≢true h)
line_short room (k ∷ bytes) h =
    let p = and_parts (nat_lt k room) (length bytes == k) h in
    let lt = ltb-true k room p.0 in
    let same = eqb-true (length bytes) k p.1 in
    omega (arith, lt, same)
