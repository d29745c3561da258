-- The places at which a run leaves the profile, as far as the block of the place tells it. Two rules tell it of the instruction alone
-- and of what its block does before it: P9, where C holds no function of the call table, and P1, where no instruction starts at the
-- next place.
use Rattle.std.specs.Prelude.{ℕ, zero, suc, ◌+◌, Bool, false, cond, is_none, List, [], Option, Some, None}
use Rattle.std.specs.List.{flat_map, cons_option}
use Rattle.cells.specs.declared.Rule.{Rule}
use Rattle.cells.specs.declared.Rule.TheVariants.{P1, P9}
use Rattle.i80.specs.declared.Goal.TheVariants.{At, Boot, Bdos}
use Rattle.i80.specs.declared.Instr80.{Instr80}
use Rattle.i80.specs.declared.Instr80.TheVariants.{Pchl, Jmp, Jif, Call, Cif, Ret, Rif, Rst0}
use Rattle.i80.specs.Columns.{length80}
use Rattle.dialogue.specs.Table.{row_of}
use Rattle.asm80_types.specs.Program.{Program, instr_at, is_start}
use Rattle.flow.specs.Blocks.{blocks, place_after}
use Rattle.sym_terms.specs.Term.{Term, Num}
use Rattle.sym_block_def.specs.Block80.{block80}
use Rattle.profile_leaving.specs.declared.departure.Certainty.{Certainty}
use Rattle.profile_leaving.specs.declared.departure.Certainty.TheVariants.{Sure, May}
use Rattle.profile_leaving.specs.declared.departure.Departure.{Departure}

-- the number that a term is
abbrev pub number_in : Term → Option ℕ
number_in (Num n) = Some n
number_in t = None

-- the function that is known after so many instructions of a block: the number that C's term is in their outcome
abbrev pub known_function : Program → ℕ → ℕ → Option ℕ
known_function p first before = number_in (block80 p first before).held.c

-- P9: a known function is none of the call table

abbrev pub is_unlisted : Option ℕ → Bool
is_unlisted None = false
is_unlisted (Some function) = is_none (row_of function)

-- a call or jump to 5 leaves there; one with a condition may
abbrev pub asking : Instr80 → Option Certainty
asking (Call Bdos) = Some Sure
asking (Jmp Bdos) = Some Sure
asking (Cif c Bdos) = Some May
asking (Jif c Bdos) = Some May
asking i = None

-- P1: no instruction starts at the next place

-- function 0 ends before the place after the call is looked at
abbrev pub returning : Option ℕ → Option Certainty
returning None = Some May
returning (Some zero) = None
returning (Some (suc n)) = Some Sure

-- a goto looks at the next place under a condition or not at all; a call of an instruction pushes that place, and any other instruction
-- goes on there
abbrev pub going_on : Option ℕ → Instr80 → Option Certainty
going_on function (Jmp g) = None
going_on function (Jif c g) = None
going_on function (Call (At t)) = Some Sure
going_on function (Call Boot) = None
going_on function (Call Bdos) = returning function
going_on function (Cif c g) = None
going_on function Pchl = None
going_on function Ret = None
going_on function (Rif c) = None
going_on function Rst0 = None
going_on function i = Some Sure

-- at an address
abbrev pub by_rule : ℕ → Rule → Option Certainty → Option Departure
by_rule at rule None = None
by_rule at rule (Some c) = Some (record { at = at; rule = rule; certainty = c })

abbrev pub or_else : Option Departure → Option Departure → Option Departure
or_else (Some x) other = Some x
or_else None other = other

-- an instruction, where that function is known before it; P9 is said first
abbrev pub leaving_by : Program → ℕ → Option ℕ → Instr80 → Option Departure
leaving_by p at function i =
    or_else
    (by_rule at P9 (cond (is_unlisted function) (asking i) None))
    (by_rule at P1 (cond (is_start p (at + length80 i)) None (going_on function i)))

abbrev pub leaving_where : Program → ℕ → Option ℕ → Option Instr80 → Option Departure
leaving_where p at function None = None
leaving_where p at function (Some i) = leaving_by p at function i

-- the instruction after so many of a block
abbrev pub leaving_at : Program → ℕ → ℕ → Option Departure
leaving_at p first before =
    let at = place_after p first before in
    leaving_where p at (known_function p first before) (instr_at p at)

-- so many instructions of a block, after so many
abbrev pub leaving_from : Program → ℕ → ℕ → ℕ → List Departure
leaving_from p first before zero = []
leaving_from p first before (suc n) = cons_option (leaving_at p first before) (leaving_from p first (suc before) n)

-- a program's places, block by block, and so ascending
abbrev pub leaving : Program → List Departure
leaving p = flat_map (λ (b : ℕ × ℕ). leaving_from p b.0 0 b.1) (blocks p)
