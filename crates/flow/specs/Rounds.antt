-- What a part of the search leaves as it was.
use Rattle.std.specs.Prelude.{◌≡◌, ℕ, List, length}
use Rattle.asm80_types.specs.Program.{Program}
use Rattle.flow.specs.declared.search.Vertex.{Vertex}
use Rattle.flow.specs.Search.{IsPassedOn, AreVerticesOf}
use Rattle.flow.specs.Wiring.{IsWired}

-- edges were visited: what is found is passed on and needed as before
pub record IsRound (ss : List (List ℕ)) (old new : List Vertex) : Type 0 where
  pub same_length : length new ≡ length old
  pub passed_on : IsPassedOn ss old → IsPassedOn ss new
  pub needs : (p : Program) → IsWired p ss → AreVerticesOf p old → AreVerticesOf p new
