-- How the blocks are found in one pass over the instructions.
use Rattle.std.specs.Prelude.{◌≡◌, ℕ, ◌+◌, ◌<◌, ◌==◌, ◌||◌, Bool, true, cond, List, [], ◌∷◌, ◌++◌, map}
use Rattle.base.specs.Addresses.{has_address}
use Rattle.i80.specs.Columns.{is_well_formed}
use Rattle.asm80_types.specs.declared.program.Placed.{Placed}
use Rattle.asm80_types.specs.Program.{Program}
use Rattle.flow.specs.Blocks.{is_entered, is_cut, end_of, cut_from, extent}

-- a set has the addresses that control comes to from elsewhere
abbrev pub Marks : List Bool → Program → Type 0
Marks set p = (a : ℕ) → has_address set a ≡ is_entered p a

-- a block of so many instructions ends between two
abbrev pub ends_before : Program → ℕ → Placed → Placed → Bool
ends_before p count x y = is_cut p x y || (count == 16)

-- the block that has ended, if it has
abbrev pub closed : Bool → ℕ → ℕ → List (ℕ × ℕ)
closed ended leader count = cond ended ((leader, count) ∷ []) []

-- the blocks from one on that is begun: its leader, how many instructions it has so far and the last of them, and those behind
abbrev pub blocks_from : Program → ℕ → ℕ → Placed → List Placed → List (ℕ × ℕ)
blocks_from p leader count x [] = (leader, count) ∷ []
blocks_from p leader count x (y ∷ ys) =
    closed (ends_before p count x y) leader count
    ++ blocks_from p (cond (ends_before p count x y) y.at leader) (cond (ends_before p count x y) 1 (count + 1)) y ys

-- the blocks of instructions
abbrev pub extents : Program → List Placed → List (ℕ × ℕ)
extents p xs = map extent (cut_from p 0 xs)

-- an instruction of the 8080 that ends below 65,536
abbrev pub EndsInMemory : Placed → Type 0
EndsInMemory x = (is_well_formed x.instr ≡ true) × (end_of x < 65536)
