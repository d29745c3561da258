-- Options that a test gives.
use Rattle.std.proofs.Common.{◌≡◌, Bool, true, false, cond, Option, Some, None, refl}

-- where nothing is given, the test fails, and nothing is given without it
pub if_none : {X : Type 0} (b : Bool) (x : X) (o : Option X) → cond b (Some x) o ≡ None → (b ≡ false) × (o ≡ None)
if_none true x o h = absurd (cc)
if_none false x o h = (refl, h)
