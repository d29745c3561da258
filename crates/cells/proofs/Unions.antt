-- The members of a union.
use Rattle.std.proofs.Common.{◌≡◌, ◌||◌, refl}
use Rattle.cells.specs.declared.Part.{Part}
use Rattle.cells.specs.declared.Part.TheVariants.{A, B, C, D, E, H, L, S, Z, Ac, P, Cy}
use Rattle.cells.specs.Parts.{Parts, has, union}

pub has_union : (a b : Parts) (q : Part) → has (union a b) q ≡ (has a q || has b q)
has_union a b A = refl
has_union a b B = refl
has_union a b C = refl
has_union a b D = refl
has_union a b E = refl
has_union a b H = refl
has_union a b L = refl
has_union a b S = refl
has_union a b Z = refl
has_union a b Ac = refl
has_union a b P = refl
has_union a b Cy = refl
