-- How many statements the group of an instruction has, by the statements that begin with it.
use Rattle.std.specs.Prelude.{ℕ, ◌+◌, cond, Bool, true, false, List, ◌∷◌, Option, Some}
use Rattle.std.specs.List.{slice_get}
use Rattle.i80.specs.declared.StackPair.TheVariants.{Psw}
use Rattle.i80.specs.declared.Instr80.{Instr80}
use Rattle.i80.specs.declared.Instr80.TheVariants.{Inx, Dcx, Dad, Push, Pop, Ldax, Stax, Xthl, Jif, Cif, Rif}
use Rattle.i86.specs.declared.Reg16.TheVariants.{Si}
use Rattle.i86.specs.declared.Rotate.TheVariants.{Rcr}
use Rattle.i86.specs.declared.Instr86.TheVariants.{Lahf, Sahf, Rotate16}
use Rattle.asm86_line_types.specs.declared.line.Label.TheVariants.{At, Skip}
use Rattle.asm86_line_types.specs.declared.line.Stmt86.{Stmt86}
use Rattle.asm86_line_types.specs.declared.line.Stmt86.TheVariants.{Mark, Run, Jcc}

abbrev pub is_lahf : Option Stmt86 → Bool
is_lahf (Some (Run Lahf)) = true
is_lahf x = false

abbrev pub is_sahf : Option Stmt86 → Bool
is_sahf (Some (Run Sahf)) = true
is_sahf x = false

-- what follows the sum of a DAD that saves the flags
abbrev pub is_rotate : Option Stmt86 → Bool
is_rotate (Some (Run (Rotate16 Rcr Si))) = true
is_rotate x = false

-- a jump past what a condition leads to
abbrev pub is_past : Option Stmt86 → Bool
is_past (Some (Jcc j (Skip a))) = true
is_past x = false

abbrev pub one_if : Bool → ℕ
one_if b = cond b 1 0

-- of an INX or DCX, whose LAHF and SAHF may be left out
abbrev pub sum_count : List Stmt86 → ℕ
sum_count xs = cond (is_lahf (slice_get xs 0)) (2 + one_if (is_sahf (slice_get xs 2))) (1 + one_if (is_sahf (slice_get xs 1)))

-- without its label
abbrev pub statement_count : Instr80 → List Stmt86 → ℕ
statement_count (Inx p) xs = sum_count xs
statement_count (Dcx p) xs = sum_count xs
statement_count (Dad p) xs = cond (is_lahf (slice_get xs 0)) 5 (cond (is_rotate (slice_get xs 1)) 4 1)
statement_count (Push Psw) xs = 4
statement_count (Pop Psw) xs = 2 + one_if (is_sahf (slice_get xs 2))
statement_count (Ldax p) xs = 2
statement_count (Stax p) xs = 2
statement_count Xthl xs = 3
statement_count (Jif c g) xs = cond (is_past (slice_get xs 0)) 3 1
statement_count (Cif c g) xs = 3
statement_count (Rif c) xs = 3
statement_count i xs = 1

-- with its label, where it has one
abbrev pub group_size : Instr80 → List Stmt86 → ℕ
group_size i (Mark (At a) ∷ xs) = 1 + statement_count i xs
group_size i xs = statement_count i xs
