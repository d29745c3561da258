-- The law of one instruction: where the symbolic states agree on what it uses, they agree behind it and its template on what was
-- agreed on before and what it defines.
use Rattle.std.specs.Prelude.{◌≡◌, ℕ, ◌⊎◌, Bool, true, false, List, [], ◌∷◌, drop}
use Rattle.cells.specs.declared.Part.{Part}
use Rattle.cells.specs.declared.Part.TheVariants.{S, Z, Ac, P}
use Rattle.cells.specs.Parts.{Parts, nothing, has, these}
use Rattle.i80.specs.declared.Instr80.{Instr80}
use Rattle.i80.specs.declared.Instr80.TheVariants.{Inx, Dcx, Dad}
use Rattle.i80.specs.Columns.{is_well_formed, ends80, uses80, defs80}
use Rattle.i86.specs.declared.Instr86.TheVariants.{Sahf}
use Rattle.asm80_types.specs.Program.{IsCoded}
use Rattle.asm86_line_types.specs.declared.line.Stmt86.{Stmt86}
use Rattle.asm86_line_types.specs.declared.line.Stmt86.TheVariants.{Run, MovOffset}
use Rattle.templates.specs.Template.{template}
use Rattle.sym_block_def.specs.Block80.{Symbolic80, effect80}
use Rattle.sym_block_def.specs.Symbolic86.{Symbolic86, with_reg16, offset_term, effect86}
use Rattle.sym_block_def.specs.Sorts.{AreSorted80, AreSorted86, StatementsAreCoded}
use Rattle.templates_law.specs.Match.Meeting.{Among, Agree}

-- the terms behind a statement that goes on to the next, and behind statements
abbrev pub passed : Symbolic86 → Stmt86 → Symbolic86
passed t (Run i) = effect86 t i
passed t (MovOffset r l) = with_reg16 t r (offset_term l)
passed t x = t

abbrev pub all_passed : Symbolic86 → List Stmt86 → Symbolic86
all_passed t [] = t
all_passed t (x ∷ xs) = all_passed (passed t x) xs

-- without a save the word operations of the 8086 leave no S, Z, AC and P
abbrev pub unsaved : Parts
unsaved = these (S ∷ Z ∷ Ac ∷ P ∷ [])

abbrev pub loses : Instr80 → Bool → Parts
loses (Inx pair) false = unsaved
loses (Dcx pair) false = unsaved
loses (Dad pair) false = unsaved
loses i save = nothing

-- what is agreed on behind an instruction: what was before or what it defines, but for what its template loses
pub record Behind (before : Parts) (i : Instr80) (save : Bool) (q : Part) : Type 0 where
  pub known : Among before q ⊎ Among (defs80 i) q
  pub stays : has (loses i save) q ≡ false

abbrev pub RowsAgree : Type 0
RowsAgree =
    (before after : Parts) (i : Instr80) (at : ℕ) (save : Bool) (s : Symbolic80) (t : Symbolic86) →
    ends80 i ≡ false →
    is_well_formed i ≡ true →
    AreSorted80 s →
    AreSorted86 t →
    ((q : Part) → Among (uses80 i) q → Among before q) →
    ((q : Part) → Among after q → Behind before i save q) →
    Agree (Among before) s t →
    Agree (Among after) (effect80 s i) (all_passed t (template i at save))

-- the numbers of a template are in their ranges, and the terms behind it made and of their sorts, as they are behind any statements
-- whose numbers are in their ranges
pub record RowsKeepSorts : Type 0 where
  pub coded : (i : Instr80) (at : ℕ) (save : Bool) → IsCoded i → StatementsAreCoded (template i at save)
  pub sorted : (i : Instr80) (at : ℕ) (save : Bool) (s : Symbolic80) (t : Symbolic86) → IsCoded i → AreSorted80 s → AreSorted86 t → AreSorted80 (effect80 s i) × AreSorted86 (all_passed t (template i at save))
  pub passed : (xs : List Stmt86) (t : Symbolic86) → StatementsAreCoded xs → AreSorted86 t → AreSorted86 (all_passed t xs)

-- A SAHF that a saving INX, DCX or DAD follows at once, and the LAHF that it begins with, may both go: AH already holds what LAHF would
-- put there, as far as SAHF looks at it. Where statements end by a SAHF that goes, the states agree behind that SAHF all the same.
abbrev pub saves : Instr80 → Bool
saves (Inx pair) = true
saves (Dcx pair) = true
saves (Dad pair) = true
saves i = false

abbrev pub PairsMayGo : Type 0
PairsMayGo =
    (kept : Parts) (i : Instr80) (at : ℕ) (s : Symbolic80) (t : Symbolic86) →
    saves i ≡ true →
    Agree (Among kept) s (all_passed t (Run Sahf ∷ template i at true)) →
    Agree (Among kept) s (all_passed t (drop 1 (template i at true)))
