-- What the first walk gives, by the definitions.
use Rattle.std.specs.Prelude.{◌≡◌, ◌<◌, List, [], ◌∷◌, length, map, filter, get_or, Some, None, Result, Ok, Err}
use Rattle.asm80_types.specs.declared.stmt.Stmt80.{Stmt80}
use Rattle.asm80_types.specs.Tree.{statement_of}
use Rattle.asm80_source_def.specs.Walk.{WalkRow, rows, walked, row_is_taken, row_operation, directive_meaning}
use Rattle.asm80_source_def.specs.FirstFaults.{first_fault}
use Rattle.asm80_first_walk.specs.declared.walked.Taken.{Taken}
use Rattle.asm80_first_walk.specs.declared.walked.Walked.{Walked}
use Rattle.asm80_first_walk.specs.declared.walked.AsmFault.{AsmFault}
use Rattle.asm80_first_walk.specs.declared.walked.AsmFault.TheVariants.{Refused, Memory}

-- a statement that is taken, by its index, as a row of the walk
pub record IsRowOf (statements : List Stmt80) (t : Taken) (r : WalkRow) : Type 0 where
  pub within : t.statement < length statements
  pub statement : (d : Stmt80) → statement_of (get_or statements t.statement d) ≡ r.statement
  pub at : t.at ≡ r.before.at
  pub operation : t.operation ≡ row_operation r
  pub meaning : t.meaning ≡ directive_meaning r.before r.statement

-- the same one by one
abbrev pub Stand : List Stmt80 → List Taken → List WalkRow → Type 0
Stand statements [] [] = Unit {0}
Stand statements [] (r ∷ rs) = ⊥
Stand statements (t ∷ ts) [] = ⊥
Stand statements (t ∷ ts) (r ∷ rs) = IsRowOf statements t r × Stand statements ts rs

-- the statements have no fault of the first walk, and these are the rows that are taken and all names
pub record IsWalked (statements : List Stmt80) (w : Walked) : Type 0 where
  pub accepted : first_fault (rows (map statement_of statements)) (walked (map statement_of statements)) ≡ None
  pub names : w.names ≡ (walked (map statement_of statements)).names
  pub taken : Stand statements w.rows.items (filter row_is_taken (rows (map statement_of statements)))

-- what the walk answered, unless memory ran out
abbrev pub Walks : List Stmt80 → Result Walked AsmFault → Type 0
Walks statements (Ok w) = IsWalked statements w
Walks statements (Err Memory) = Unit {0}
Walks statements (Err (Refused line rule)) =
    first_fault (rows (map statement_of statements)) (walked (map statement_of statements)) ≡ Some (line, rule)
