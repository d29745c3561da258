-- What holds where a test of the tagged 8080 is passed.
use Rattle.std.proofs.Common.{◌≡◌, ℕ, ◌+◌, ◌<◌, ◌==◌, Bool, true, false, Ok, refl, arith}
use Rattle.cells.specs.declared.Place.{Place}
use Rattle.cells.specs.declared.Rule.{Rule}
use Rattle.cells.specs.declared.Rule.TheVariants.{P1}
use Rattle.dialogue.proofs.Tried.{ok_is, err_is_not}
use Rattle.cpu80_tagged.specs.Memory.{unless_then}
use Rattle.cpu80_tagged.specs.Call.{place_if}

pub unless_is : (b : Bool) (r : Rule) (x : Bool) → unless_then b r ≡ Ok x → b ≡ false
unless_is true r x e = absurd (err_is_not r x e)
unless_is false r x e = refl

-- a word does not begin at the last cell, so its second byte is in the next
pub within : (n : ℕ) → n < 0x10000 → (n == 0xFFFF) ≡ false → n + 1 < 0x10000
within n lt e = grind (arith, lt, e)

pub place_if_is : (b : Bool) (q r : Place) → place_if b q ≡ Ok r → (b ≡ true) × (q ≡ r)
place_if_is true q r e = (refl, ok_is q r e)
place_if_is false q r e = absurd (err_is_not P1 r e)
