-- What the statements fill: instructions and data at their addresses.
use Rattle.std.specs.Prelude.{ℕ, ◌+◌, ◌/◌, ◌%◌, ◌==◌, ◌&&◌, ◌||◌, Bool, true, false, cond, List, [], ◌∷◌, map, filter, flat_map, filter_map, Option, Some, None, option_and_then, option_map, unwrap_or, is_some}
use Rattle.std.specs.List.{list_any}
use Rattle.cells.specs.declared.Cell.{Cell}
use Rattle.cells.specs.declared.Cell.TheVariants.{Num, Lo, Hi}
use Rattle.cells.specs.declared.Place.TheVariants.{At as AtPlace}
use Rattle.i80.specs.declared.Src.{Src}
use Rattle.i80.specs.declared.Pair.{Pair}
use Rattle.i80.specs.declared.Pair.TheVariants as pairs
use Rattle.i80.specs.declared.Word.{Word}
use Rattle.i80.specs.declared.Word.TheVariants.{Num as Number, Code}
use Rattle.i80.specs.declared.Goal.{Goal}
use Rattle.i80.specs.declared.Goal.TheVariants.{At, Boot, Bdos}
use Rattle.i80.specs.declared.Instr80.{Instr80}
use Rattle.i80.specs.declared.Instr80.TheVariants as i80
use Rattle.asm80_types.specs.declared.program.Placed.{Placed}
use Rattle.asm80_types.specs.Tree.{Operand, String, Whole}
use Rattle.asm80_source_def.specs.declared.operation.Operation.{Operation}
use Rattle.asm80_source_def.specs.declared.operation.Operation.TheVariants as op
use Rattle.asm80_source_def.specs.Operations.{operand_kinds}
use Rattle.asm80_source_def.specs.Values.{Scope, operand_number, operand_place}
use Rattle.asm80_source_def.specs.Walk.{Walk, WalkRow, row_is_taken, row_operation}
use Rattle.asm80_source_def.specs.Operands.{operand_scope, src_of, pair_of_operand, indirect_of, stack_of}

-- ---- instructions

-- the row's operation is an instruction's
abbrev pub is_instruction_op : Option Operation → Bool
is_instruction_op None = false
is_instruction_op (Some o) = is_some (operand_kinds o)

abbrev pub is_instruction : WalkRow → Bool
is_instruction r = row_is_taken r && is_instruction_op (row_operation r)

-- the row is an instruction or data
abbrev pub is_data_op : Option Operation → Bool
is_data_op (Some op.Db) = true
is_data_op (Some op.Dw) = true
is_data_op o = false

abbrev pub is_data : WalkRow → Bool
is_data r = row_is_taken r && is_data_op (row_operation r)

abbrev pub fills_cells : WalkRow → Bool
fills_cells r = is_instruction r || is_data r

abbrev pub item_rows : List WalkRow → List WalkRow
item_rows rs = filter fills_cells rs

abbrev pub address : WalkRow → ℕ
address r = r.before.at

-- the addresses of instructions
abbrev pub starts_in : List WalkRow → List ℕ
starts_in rs = map address (filter is_instruction rs)

abbrev pub starts_at : List ℕ → ℕ → Bool
starts_at starts a = list_any (λ b. b == a) starts

-- ---- what an instruction is

-- where its operands are evaluated, and at which addresses instructions start
pub record Setting : Type 0 where
  pub scope : Scope
  pub is_start : ℕ → Bool

abbrev pub setting : List WalkRow → Walk → WalkRow → Setting
setting rs end r = record { scope = operand_scope end r.before; is_start = starts_at (starts_in rs) }

-- the value of an operand, which has one where the walks found no fault
abbrev pub value : Setting → Operand → ℕ
value t a = unwrap_or (operand_number t.scope a) 0

-- the low byte of a byte value
abbrev pub byte : Setting → Operand → ℕ
byte t a = value t a % 256

-- the code address that an operand is: a place name or `$` alone whose address is the start of an instruction
abbrev pub if_starts : (ℕ → Bool) → ℕ → Option ℕ
if_starts is_start a = cond (is_start a) (Some a) None

abbrev pub code_address : Setting → Operand → Option ℕ
code_address t a = option_and_then (if_starts t.is_start) (operand_place t.scope a)

abbrev pub word_by : ℕ → Option ℕ → Word
word_by n None = Number n
word_by n (Some a) = Code a

-- the immediate word of LXI; that of LXI SP is a number always
abbrev pub word_of : Setting → Pair → Operand → Word
word_of t pairs.B a = word_by (value t a) (code_address t a)
word_of t pairs.D a = word_by (value t a) (code_address t a)
word_of t pairs.H a = word_by (value t a) (code_address t a)
word_of t pairs.Sp a = Number (value t a)

-- the target of a jump or call: 0 is the warm boot and 5 the system's entry
abbrev pub goal : ℕ → Goal
goal n = cond (n == 0) Boot (cond (n == 5) Bdos (At n))

abbrev pub move : Option Src → Option Src → Option Instr80
move to from = option_and_then (λ (x : Src). option_map (λ (y : Src). i80.Mov x y) from) to

-- the instruction of an operation with its operands; None where it is not of the profile
abbrev pub instruction : Setting → Operation → List Operand → Option Instr80
instruction t (op.Bare i) [] = Some i
instruction t op.Mov (a ∷ b ∷ []) = move (src_of a) (src_of b)
instruction t op.Mvi (a ∷ b ∷ []) = option_map (λ (x : Src). i80.Mvi x (byte t b)) (src_of a)
instruction t op.Lxi (a ∷ b ∷ []) = option_map (λ (x : Pair). i80.Lxi x (word_of t x b)) (pair_of_operand a)
instruction t op.Lda (a ∷ []) = Some (i80.Lda (value t a))
instruction t op.Sta (a ∷ []) = Some (i80.Sta (value t a))
instruction t op.Lhld (a ∷ []) = Some (i80.Lhld (value t a))
instruction t op.Shld (a ∷ []) = Some (i80.Shld (value t a))
instruction t op.Ldax (a ∷ []) = option_map i80.Ldax (indirect_of a)
instruction t op.Stax (a ∷ []) = option_map i80.Stax (indirect_of a)
instruction t (op.Alu o) (a ∷ []) = option_map (i80.Alu o) (src_of a)
instruction t (op.AluI o) (a ∷ []) = Some (i80.AluI o (byte t a))
instruction t op.Inr (a ∷ []) = option_map i80.Inr (src_of a)
instruction t op.Dcr (a ∷ []) = option_map i80.Dcr (src_of a)
instruction t op.Inx (a ∷ []) = option_map i80.Inx (pair_of_operand a)
instruction t op.Dcx (a ∷ []) = option_map i80.Dcx (pair_of_operand a)
instruction t op.Dad (a ∷ []) = option_map i80.Dad (pair_of_operand a)
instruction t op.Push (a ∷ []) = option_map i80.Push (stack_of a)
instruction t op.Pop (a ∷ []) = option_map i80.Pop (stack_of a)
instruction t op.Jmp (a ∷ []) = Some (i80.Jmp (goal (value t a)))
instruction t (op.Jif c) (a ∷ []) = Some (i80.Jif c (goal (value t a)))
instruction t op.Call (a ∷ []) = Some (i80.Call (goal (value t a)))
instruction t (op.Cif c) (a ∷ []) = Some (i80.Cif c (goal (value t a)))
instruction t op.In (a ∷ []) = Some (i80.In (byte t a))
instruction t op.Out (a ∷ []) = Some (i80.Out (byte t a))
instruction t op.Rst (a ∷ []) = cond (value t a == 0) (Some i80.Rst0) None
instruction t o args = None

abbrev pub instruction_by : Setting → List Operand → Option Operation → Option Instr80
instruction_by t args None = None
instruction_by t args (Some o) = instruction t o args

abbrev pub instruction_of : List WalkRow → Walk → WalkRow → Option Instr80
instruction_of rs end r = instruction_by (setting rs end r) r.statement.args (row_operation r)

-- the instruction at its address, with its line
abbrev pub placed_row : List WalkRow → Walk → WalkRow → Option Placed
placed_row rs end r =
    option_map (λ (i : Instr80). record { at = address r; line = r.statement.line; instr = i }) (cond (is_instruction r) (instruction_of rs end r) None)

abbrev pub placed : List WalkRow → Walk → List Placed
placed rs end = filter_map (placed_row rs end) rs

-- ---- data

abbrev pub numbers : List ℕ → List Cell
numbers ns = map Num ns

-- an item of DB: a string's bytes, or a byte
abbrev pub cells_of_byte : Setting → Operand → List Cell
cells_of_byte t (String bytes) = numbers bytes
cells_of_byte t (Whole e) = Num (byte t (Whole e)) ∷ []

-- an item of DW: a code address, or a number, low byte first
abbrev pub cells_of_word_by : ℕ → Option ℕ → List Cell
cells_of_word_by n None = Num (n % 256) ∷ Num (n / 256) ∷ []
cells_of_word_by n (Some a) = Lo (AtPlace a) ∷ Hi (AtPlace a) ∷ []

abbrev pub cells_of_word : Setting → Operand → List Cell
cells_of_word t a = cells_of_word_by (value t a) (code_address t a)

abbrev pub data_by : Setting → List Operand → Option Operation → List Cell
data_by t args (Some op.Db) = flat_map (cells_of_byte t) args
data_by t args (Some op.Dw) = flat_map (cells_of_word t) args
data_by t args o = []

-- cells one after the other from an address, modulo 65,536
abbrev pub laid_from : ℕ → List Cell → List (ℕ × Cell)
laid_from at [] = []
laid_from at (c ∷ cs) = (at % 0x10000, c) ∷ laid_from (at + 1) cs

abbrev pub data_of_row : List WalkRow → Walk → WalkRow → List (ℕ × Cell)
data_of_row rs end r =
    laid_from (address r) (cond (row_is_taken r) (data_by (setting rs end r) r.statement.args (row_operation r)) [])

abbrev pub data_cells : List WalkRow → Walk → List (ℕ × Cell)
data_cells rs end = flat_map (data_of_row rs end) rs
