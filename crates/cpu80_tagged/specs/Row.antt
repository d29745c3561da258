-- What a part of the table answers and leaves: the state that the definition gives, or the same rule and the state as before.
use Rattle.std.specs.Prelude.{◌≡◌, Bool, true, Result, Ok, Err}
use Rattle.cells.specs.declared.Rule.{Rule}
use Rattle.cpu80_tagged.specs.State.{State80}
use Rattle.cpu80_tagged.specs.Memory.{Halves}
use Rattle.cpu80_tagged.specs.declared.draft.Word.{Word}

abbrev pub IsRow : {X : Type 0} → Result State80 Rule → Result X Rule → State80 → State80 → Type 0
IsRow (Ok t) (Ok u) before after = after ≡ t
IsRow (Ok t) (Err r) before after = ⊥
IsRow (Err q) (Ok u) before after = ⊥
IsRow (Err q) (Err r) before after = (r ≡ q) × (after ≡ before)

-- what a test answers: it passes, or is refused by a rule
abbrev pub tested : Result (Unit {0}) Rule → Result Bool Rule
tested (Ok u) = Ok true
tested (Err r) = Err r

-- the two cells of a word that was read
abbrev pub halves_of : Word → Halves
halves_of w = record { high = w.high; low = w.low }

abbrev pub halves_in : Result Word Rule → Result Halves Rule
halves_in (Ok w) = Ok (halves_of w)
halves_in (Err r) = Err r
