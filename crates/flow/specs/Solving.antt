-- What a graph is seen as: the program that it is of, and whether its needs are found.
use Rattle.std.specs.Prelude.{◌≡◌, ◌↔◌, ℕ, Bool, true}
use Rattle.cells.specs.declared.Part.{Part}
use Rattle.cells.specs.Parts.{Parts, has}
use Rattle.asm80_types.specs.Program.{Program}
use Rattle.flow.specs.declared.node.Node.{Node}
use Rattle.flow.specs.declared.node.Node.TheVariants.{Start, Return}
use Rattle.flow.specs.Need.{Need}

pub record Solving : Type 0 where
  pub program : Program
  pub is_solved : Bool

-- a set has exactly the parts that are needed at a node
abbrev pub AreNeeds : Program → Node → Parts → Type 0
AreNeeds p q keep = (x : Part) → (has keep x ≡ true) ↔ Need p q x

-- the parts at each address, and at a return
pub record Needs : Type 0 where
  pub at : ℕ → Parts
  pub returned : Parts

-- they are what is needed there
pub record AreAllNeeds (p : Program) (n : Needs) : Type 0 where
  pub at : (a : ℕ) → AreNeeds p (Start a) (n.at a)
  pub returned : AreNeeds p Return n.returned

-- what is needed at each place is a set of parts
abbrev pub HasNeeds : Program → Type 0
HasNeeds p = (n : Needs) × AreAllNeeds p n
