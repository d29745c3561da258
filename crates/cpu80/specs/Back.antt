-- A call of the system by a processor, and where it goes on.
use Rattle.std.specs.Prelude.{◌≡◌, Ok}
use Rattle.dialogue.specs.declared.request.Shape.{Shape}
use Rattle.cpu80.specs.State.{UntaggedState}
use Rattle.cpu80.specs.Call.{shape_in, Return}
use Rattle.cpu80.specs.declared.system.Return.{Return as Kept}

abbrev pub back_of : Kept → Return
back_of r = record { place = r.place; sp = r.sp }

-- the shape is that of the call in the registers
abbrev pub IsUntaggedCall : UntaggedState → Shape → Type 0
IsUntaggedCall u shape = shape_in u ≡ Ok shape
