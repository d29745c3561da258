-- What a turn goes by: an effect that passed; and a turn that asks nothing owes no return.
use Rattle.std.proofs.Common.{◌≡◌, Result, Ok, Err, sym, ap}
use Rattle.cells.specs.declared.Rule.{Rule}
use Rattle.asm80_types.specs.Program.{Program}
use Rattle.cpu80_tagged.specs.State.{State80}
use Rattle.cpu80_tagged.specs.Call.{Return}
use Rattle.cpu80_tagged.specs.declared.turn.Turn.{Turn}
use Rattle.cpu80_tagged.specs.declared.turn.Turn.TheVariants.{Ran, Asked, Ended}
use Rattle.cpu80_tagged.specs.Row.{IsRow}
use Rattle.cpu80_tagged.specs.Turn.{IsAsking, AsksNothing}

pub no_asking : (p : Program) (s : State80) (back : Result Return Rule) (t : Result Turn Rule) → AsksNothing t → IsAsking p s back t
no_asking p s back (Ok Ran) h = tt
no_asking p s back (Ok (Asked what kept)) h = absurd h
no_asking p s back (Ok Ended) h = tt
no_asking p s back (Err r) h = tt

pub row_is : (row : Result State80 Rule) (u : Unit {0}) (s t : State80) → IsRow row (Ok u) s t → row ≡ Ok t
row_is (Ok x) u s t h = ap Ok (sym h)
row_is (Err r) u s t h = absurd h

pub row_stops : (row : Result State80 Rule) (r : Rule) (s t : State80) → IsRow {X = Unit {0}} row (Err r) s t → row ≡ Err r
row_stops (Ok x) r s t h = absurd h
row_stops (Err q) r s t h = ap Err (sym h.0)
