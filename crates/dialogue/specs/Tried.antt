-- Steps that may be refused, one after another: the first refusal is the answer.
use Rattle.std.specs.Prelude.{Result, Ok, Err}

-- goes on with the value, or hands the refusal on
abbrev pub try_then : {X Y R : Type 0} → Result X R → (X → Result Y R) → Result Y R
try_then (Ok x) f = f x
try_then (Err r) f = Err r
