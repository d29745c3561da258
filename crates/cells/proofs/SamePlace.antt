-- Places are the same where they are said to be.
use Rattle.std.proofs.Common.{◌≡◌, true, refl, ap}
use Rattle.std.proofs.lemmas.Bool.{eqb-true, eq-eqb}
use Rattle.cells.specs.Places.{same_place}
use Rattle.cells.specs.declared.Place.{Place}
use Rattle.cells.specs.declared.Place.TheVariants.{At, Exit}

pub same_place_is : (q r : Place) → same_place q r ≡ true → q ≡ r
same_place_is (At a) (At b) e = ap At (eqb-true a b e)
same_place_is (At a) Exit e = absurd (cc)
same_place_is Exit (At b) e = absurd (cc)
same_place_is Exit Exit e = refl

pub same_place_refl : (q : Place) → same_place q q ≡ true
same_place_refl (At a) = eq-eqb a a refl
same_place_refl Exit = refl
