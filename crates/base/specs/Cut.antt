-- How a text is cut into lines. A line is ended by LF (0AH); a CR before it is no part of the line, and what follows the last
-- LF is a line unless it is empty.
use Rattle.std.specs.Prelude.{◌≡◌, ℕ, List, [], ◌∷◌, ◌++◌, ◌==◌, ◌-◌, if◌then◌else◌, length, take, slice_index}
use Rattle.std.specs.List.{flat_map, AllByRecursion}

abbrev pub ended : List ℕ → List ℕ
ended line = line ++ 10 ∷ []

-- a text is these lines, each ended by LF, and then a rest with no LF; `IsPart` says which bytes a line may have
pub record Cut (IsPart : ℕ → Type 0) (text : List ℕ) (raw : List (List ℕ)) (rest : List ℕ) : Type 0 where
  pub whole : text ≡ flat_map ended raw ++ rest
  pub each : AllByRecursion (AllByRecursion IsPart) raw
  pub last : AllByRecursion IsPart rest

-- a line that LF ended, without the CR at its end
abbrev pub without_cr : List ℕ → List ℕ
without_cr line = if slice_index line (length line - 1) == 13 then take (length line - 1) line else line

-- a last line with no LF, which counts unless it is empty
abbrev pub last_line : List ℕ → List (List ℕ)
last_line [] = []
last_line (b ∷ bytes) = (b ∷ bytes) ∷ []
