-- Places of the program.
use Rattle.std.specs.Prelude.{◌==◌, Bool, true, false}
use Rattle.cells.specs.declared.Place.{Place}
use Rattle.cells.specs.declared.Place.TheVariants.{At, Exit}

-- whether two places are the same
abbrev pub same_place : Place → Place → Bool
same_place (At a) (At b) = a == b
same_place Exit Exit = true
same_place q r = false
