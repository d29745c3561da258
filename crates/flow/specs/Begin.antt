-- Where the search begins: each node has what its instruction uses, and all of them wait.
use Rattle.std.specs.Prelude.{true, List, [], ◌∷◌, ◌++◌, map}
use Rattle.cells.specs.Parts.{nothing}
use Rattle.i80.specs.Columns.{uses80, defs80}
use Rattle.asm80_types.specs.declared.program.Placed.{Placed}
use Rattle.asm80_types.specs.Program.{Program}
use Rattle.flow.specs.declared.search.Vertex.{Vertex}

abbrev pub vertex_placed : Placed → Vertex
vertex_placed x = record { defines = defs80 x.instr; need = uses80 x.instr; waits = true }

abbrev pub vertex_return : Vertex
vertex_return = record { defines = nothing; need = nothing; waits = true }

abbrev pub first_vertices : Program → List Vertex
first_vertices p = map vertex_placed p.instrs ++ vertex_return ∷ []
