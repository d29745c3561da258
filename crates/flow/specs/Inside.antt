-- How a graph keeps what it is seen as.
use Rattle.std.specs.Prelude.{◌≡◌, ℕ, ◌==◌, length, map}
use Rattle.std.specs.Vec.{vec_capacity}
use Rattle.asm80_types.specs.Program.{IsProgram}
use Rattle.flow.specs.Blocks.{blocks, leaders}
use Rattle.flow.specs.declared.graph.Graph.TheInside.{Inside}
use Rattle.flow.specs.Search.{IsQueue, AreVerticesOf, IsPassedOn}
use Rattle.flow.specs.Solving.{Solving}
use Rattle.flow.specs.Wiring.{IsWired}

-- the needs are found where no node waits
abbrev pub solving_of : Inside → Solving
solving_of g = record { program = g.program; is_solved = length g.work.items == 0 }

pub record IsGraph (g : Inside) : Type 0 where
  pub program : IsProgram g.program
  pub wired : IsWired g.program g.sources
  pub found : AreVerticesOf g.program g.vertices.items
  pub passed_on : IsPassedOn g.sources g.vertices.items
  pub queue : IsQueue g.vertices.items g.work.items (vec_capacity g.work)
  pub leaders : g.leaders.items ≡ leaders g.program
  pub counts : g.counts.items ≡ map (λ (b : ℕ × ℕ). b.1) (blocks g.program)
