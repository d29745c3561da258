-- When what a text does at a block's label matches the block, and else the first reason why not: its actions, its exits, the parts
-- that are kept behind it in their order, and SP.
use Rattle.std.specs.Prelude.{ℕ, Bool, true, false, not, ◌&&◌, ◌||◌, cond, List, [], ◌∷◌, Option, Some, None, Result, Ok, Err}
use Rattle.std.specs.List.{find}
use Rattle.cells.specs.declared.Place.{Place}
use Rattle.cells.specs.declared.Place.TheVariants.{At, Exit as EndPlace}
use Rattle.cells.specs.declared.Part.{Part}
use Rattle.cells.specs.declared.Part.TheVariants.{B, C, D, E, L}
use Rattle.cells.specs.Parts.{Parts, nothing, has, union, these, all_parts}
use Rattle.asm86_line_types.specs.declared.line.Stmt86.{Stmt86}
use Rattle.asm80_types.specs.Program.{Program}
use Rattle.sym_block_def.specs.declared.reason.Reason.{Reason}
use Rattle.sym_block_def.specs.declared.reason.Reason.TheVariants.{Actions, Exits, Kept, KeptSp}
use Rattle.sym_block_def.specs.Outcome.{Way, Goto, ByTerms, Call, Sys, SysReturn, Boot, Leave, In, Out, Exit, One, Two, Outcome, term_in}
use Rattle.sym_block_def.specs.Block80.{block80}
use Rattle.sym_block_def.specs.Walk86.{walk86}
use Rattle.sym_block_def.specs.Agree.{agrees, actions_agree, exit_agrees}

-- the parts that are kept at the first address of each block, and none at any other place; and those that are kept at a return,
-- which is at every place that is taken
pub record Keeps : Type 0 where
  pub at : ℕ → Parts
  pub returned : Parts

abbrev pub kept_at : Keeps → Place → Parts
kept_at k (At a) = k.at a
kept_at k EndPlace = nothing

-- IN brings a byte into A, and OUT sends A
abbrev pub without_a : Parts → Parts
without_a x = record x { a = false }

abbrev pub kept_with_a : Parts → Parts
kept_with_a x = record x { a = true }

-- the system is asked by C, D and E
abbrev pub parts_asked : Parts
parts_asked = these (C ∷ D ∷ E ∷ [])

-- the parts that a way keeps
abbrev pub kept_after_way : Keeps → Way → Parts
kept_after_way k (Goto q) = kept_at k q
kept_after_way k (ByTerms h l) = k.returned
kept_after_way k (Call q back) = kept_at k q
kept_after_way k (Sys back) = parts_asked
kept_after_way k SysReturn = parts_asked
kept_after_way k Boot = nothing
kept_after_way k Leave = nothing
kept_after_way k (In port next) = without_a (kept_at k next)
kept_after_way k (Out port next) = kept_with_a (kept_at k next)

abbrev pub kept_by_exit : Keeps → Exit → Parts
kept_by_exit k (One way) = kept_after_way k way
kept_by_exit k (Two f v a b) = union (kept_after_way k a) (kept_after_way k b)

-- INT 224 leaves B and L where the runtime has them from AX and BX: they may not be needed where it goes on
abbrev pub lost_by : Keeps → Exit → Parts
lost_by k (One (Sys back)) = record nothing { b = has (kept_at k back) B; l = has (kept_at k back) L }
lost_by k x = nothing

-- a part that is kept must agree, and may not be lost
abbrev pub is_bad : Keeps → Outcome → Outcome → Part → Bool
is_bad k x y q =
    (y.direct && has (lost_by k x.exit) q) || (has (kept_by_exit k x.exit) q && not (agrees (term_in x.held q) (term_in y.held q)))

abbrev pub first_bad : Keeps → Outcome → Outcome → Option Part
first_bad k x y = find (is_bad k x y) all_parts

-- SP is looked at unless the program ends, or certainly leaves the profile, on every way
abbrev pub is_last : Way → Bool
is_last Boot = true
is_last Leave = true
is_last way = false

abbrev pub is_boot_alone : Exit → Bool
is_boot_alone (One way) = is_last way
is_boot_alone (Two f v a b) = is_last a && is_last b

abbrev pub sp_agrees : Outcome → Outcome → Bool
sp_agrees x y = is_boot_alone x.exit || agrees x.sp y.sp

-- the first reason, of two outcomes
abbrev pub kept_reason : Outcome → Outcome → Option Part → Option Reason
kept_reason x y (Some q) = Some (Kept q)
kept_reason x y None = cond (sp_agrees x y) None (Some KeptSp)

abbrev pub outcome_reason : Keeps → Outcome → Outcome → Option Reason
outcome_reason k x y =
    cond (actions_agree x.actions y.actions)
    (cond (exit_agrees x.exit y.exit) (kept_reason x y (first_bad k x y)) (Some Exits))
    (Some Actions)

abbrev pub walked_reason : Keeps → Outcome → Result Outcome Reason → Option Reason
walked_reason k x (Err r) = Some r
walked_reason k x (Ok y) = outcome_reason k x y

-- the first reason why a text does not match a block; none where it does
abbrev pub block_reason : Program → List Stmt86 → Keeps → ℕ → ℕ → Option Reason
block_reason p text k first count =
    walked_reason k (block80 p first count) (walk86 p text (k.at first) first count)
