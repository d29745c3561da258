-- What operands make: there is a form of them, and the numbers in it are in their ranges.
use Rattle.std.proofs.Common.{◌≡◌, ℕ, ◌/◌, ◌%◌, ◌^◌, ◌==◌, ◌<◌, ◌||◌, Bool, true, false, cond, List, [], ◌∷◌, length, Option, Some, None, unwrap_or, option_map, refl, sym, subst, All, arith}
use Rattle.std.specs.Prelude.{IfSome}
use Rattle.std.specs.Global.{Vec}
use Rattle.std.specs.List.{list_any, flat_map, AllByRecursion}
use Rattle.std.proofs.Math.Nat.{mod-lt}
use Rattle.std.proofs.lemmas.List.Elements.{All-append, All-cons, All-nil}
use denote.RawPtr.{null_ptr}
use Rattle.cells.specs.declared.Cell.{Cell}
use Rattle.cells.specs.declared.Cell.TheVariants.{Num}
use Rattle.i80.specs.declared.Src.{Src}
use Rattle.i80.specs.declared.Pair.{Pair}
use Rattle.i80.specs.declared.Pair.TheVariants as pairs
use Rattle.i80.specs.declared.Instr80.{Instr80}
use Rattle.i80.specs.declared.Instr80.TheVariants as i80
use Rattle.asm80_types.specs.Program.{IsCoded}
use Rattle.asm80_types.specs.Tree.{Operand, String, Whole}
use Rattle.asm80_values.specs.declared.form.Form.{Form}
use Rattle.asm80_values.specs.declared.form.Form.TheVariants.{Instruction, Data}
use Rattle.asm80_values.specs.Forms.{HoldsByte, IsForm}
use Rattle.asm80_source_def.specs.declared.operation.Operation.{Operation}
use Rattle.asm80_source_def.specs.declared.operation.Operation.TheVariants as op
use Rattle.asm80_source_def.specs.Values.{operand_number}
use Rattle.asm80_source_def.specs.Operands.{src_of, pair_of_operand, indirect_of, stack_of}
use Rattle.asm80_source_def.specs.Items.{Setting, is_instruction_op, is_data_op, value, byte, code_address, word_by, word_of, move, instruction, numbers, cells_of_byte, cells_of_word_by, cells_of_word, data_by}
use Rattle.asm80_source_def.specs.Layout.{is_foreign_by, operands_by, misses, computes, loads_code}
use Rattle.asm80_values.specs.Items.{IsFormBy}
use Rattle.asm80_types.specs.Ranges.{IsInRange}
use Rattle.asm80_values.proofs.Values.{IsWord, SeesWords, operand_word}

abbrev IsCodedOption : Option Instr80 → Type 0
IsCodedOption o = IfSome o (λ (x : Instr80). IsCoded x)

mapped : {X : Type 0} (f : X → Instr80) (o : Option X) → ((x : X) → IsCoded (f x)) → IsCodedOption (option_map f o)
mapped f None h = tt
mapped f (Some x) h = h x

moved : (to from : Option Src) → IsCodedOption (move to from)
moved None from = tt
moved (Some x) from = mapped (λ (y : Src). i80.Mov x y) from (λ y. tt)

or_zero : (o : Option ℕ) → IsWord o → unwrap_or o 0 < 0x10000
or_zero None h = omega arith
or_zero (Some n) h = h

module _ (t : Setting) (sees : SeesWords t.scope) where
  value_word : (a : Operand) → IsInRange a → value t a < 0x10000
  value_word a h = or_zero (operand_number t.scope a) (operand_word t.scope a sees h)

  byte_is : (a : Operand) → byte t a < 0x100
  byte_is a = mod-lt (value t a) (omega arith)

  -- ---- instructions

  word_coded : (x : Pair) (n : ℕ) (o : Option ℕ) → n < 0x10000 → IsCoded (i80.Lxi x (word_by n o))
  word_coded x n None h = h
  word_coded x n (Some a) h = tt

  load_coded : (a : Operand) → IsInRange a → (x : Pair) → IsCoded (i80.Lxi x (word_of t x a))
  load_coded a h pairs.B = word_coded pairs.B (value t a) (code_address t a) (value_word a h)
  load_coded a h pairs.D = word_coded pairs.D (value t a) (code_address t a) (value_word a h)
  load_coded a h pairs.H = word_coded pairs.H (value t a) (code_address t a) (value_word a h)
  load_coded a h pairs.Sp = value_word a h

  restart_coded : (b : Bool) → IsCodedOption (cond b (Some i80.Rst0) None)
  restart_coded true = tt
  restart_coded false = tt

  pub is_coded : (o : Operation) (args : List Operand) → AllByRecursion IsInRange args → 0 < length args → IsCodedOption (instruction t o args)
  is_coded op.Mov (a ∷ b ∷ []) h some = moved (src_of a) (src_of b)
  is_coded op.Mvi (a ∷ b ∷ []) h some = mapped (λ (x : Src). i80.Mvi x (byte t b)) (src_of a) (λ x. byte_is b)
  is_coded op.Lxi (a ∷ b ∷ []) h some = mapped (λ (x : Pair). i80.Lxi x (word_of t x b)) (pair_of_operand a) (load_coded b h.1.0)
  is_coded op.Lda (a ∷ []) h some = value_word a h.0
  is_coded op.Sta (a ∷ []) h some = value_word a h.0
  is_coded op.Lhld (a ∷ []) h some = value_word a h.0
  is_coded op.Shld (a ∷ []) h some = value_word a h.0
  is_coded op.Ldax (a ∷ []) h some = mapped i80.Ldax (indirect_of a) (λ x. tt)
  is_coded op.Stax (a ∷ []) h some = mapped i80.Stax (indirect_of a) (λ x. tt)
  is_coded (op.Alu o) (a ∷ []) h some = mapped (i80.Alu o) (src_of a) (λ x. tt)
  is_coded (op.AluI o) (a ∷ []) h some = byte_is a
  is_coded op.Inr (a ∷ []) h some = mapped i80.Inr (src_of a) (λ x. tt)
  is_coded op.Dcr (a ∷ []) h some = mapped i80.Dcr (src_of a) (λ x. tt)
  is_coded op.Inx (a ∷ []) h some = mapped i80.Inx (pair_of_operand a) (λ x. tt)
  is_coded op.Dcx (a ∷ []) h some = mapped i80.Dcx (pair_of_operand a) (λ x. tt)
  is_coded op.Dad (a ∷ []) h some = mapped i80.Dad (pair_of_operand a) (λ x. tt)
  is_coded op.Push (a ∷ []) h some = mapped i80.Push (stack_of a) (λ x. tt)
  is_coded op.Pop (a ∷ []) h some = mapped i80.Pop (stack_of a) (λ x. tt)
  is_coded op.Jmp (a ∷ []) h some = tt
  is_coded (op.Jif c) (a ∷ []) h some = tt
  is_coded op.Call (a ∷ []) h some = tt
  is_coded (op.Cif c) (a ∷ []) h some = tt
  is_coded op.In (a ∷ []) h some = byte_is a
  is_coded op.Out (a ∷ []) h some = byte_is a
  is_coded op.Rst (a ∷ []) h some = restart_coded (value t a == 0)
  is_coded (op.Bare i) [] h some = absurd (omega arith)
  is_coded o args h some = tt

  -- ---- data

  numbers_bytes : (bytes : List ℕ) → AllByRecursion (λ b. b < 0x100) bytes → All HoldsByte (numbers bytes)
  numbers_bytes [] h = All-nil HoldsByte
  numbers_bytes (b ∷ bytes) h = All-cons HoldsByte (Num b) (numbers bytes) h.0 (numbers_bytes bytes h.1)

  byte_cells : (a : Operand) → IsInRange a → All HoldsByte (cells_of_byte t a)
  byte_cells (String bytes) h = numbers_bytes bytes h
  byte_cells (Whole e) h = All-cons HoldsByte (Num (byte t (Whole e))) [] (byte_is (Whole e)) (All-nil HoldsByte)

  two_cells : (c d : Cell) → HoldsByte c → HoldsByte d → All HoldsByte (c ∷ (d ∷ []))
  two_cells c d h k = All-cons HoldsByte c (d ∷ []) h (All-cons HoldsByte d [] k (All-nil HoldsByte))

  word_cells_by : (n : ℕ) (o : Option ℕ) → n < 0x10000 → All HoldsByte (cells_of_word_by n o)
  word_cells_by n None h = two_cells (Num (n % 256)) (Num (n / 256)) (omega arith) (omega arith)
  word_cells_by n (Some a) h = two_cells _ _ tt tt

  word_cells : (a : Operand) → IsInRange a → All HoldsByte (cells_of_word t a)
  word_cells a h = word_cells_by (value t a) (code_address t a) (value_word a h)

  all_cells : (f : Operand → List Cell) → ((a : Operand) → IsInRange a → All HoldsByte (f a)) → (args : List Operand) → AllByRecursion IsInRange args → All HoldsByte (flat_map f args)
  all_cells f each [] h = All-nil HoldsByte
  all_cells f each (a ∷ args) h = All-append HoldsByte (f a) (flat_map f args) (each a h.0) (all_cells f each args h.1)

  pub are_bytes : (o : Option Operation) (args : List Operand) → AllByRecursion IsInRange args → All HoldsByte (data_by t args o)
  are_bytes (Some op.Db) args h = all_cells (cells_of_byte t) byte_cells args h
  are_bytes (Some op.Dw) args h = all_cells (cells_of_word t) word_cells args h
  are_bytes o args h = All-nil HoldsByte

  -- ---- the form

  -- so many cells as a vector holds
  vector : (xs : List Cell) → length xs < 2 ^ 63 → (v : Vec Cell) × (v.items ≡ xs)
  vector xs small =
      (record { items = xs; cap = length xs; ptr = null_ptr; len = length xs; alloc = record { memory = record { seal = tt } }; ok = (refl, omega arith); small = small }, refl)

  instruction_form : (o : Operation) (args : List Operand) → AllByRecursion IsInRange args → is_instruction_op (Some o) ≡ true → (f : Form) × IsForm t o args f
  instruction_form o args h is = (
    Instruction (record {
      instr = instruction t o args;
      is_foreign = is_foreign_by t args (Some o);
      misses = list_any (misses t) (operands_by args (Some o));
      computes = list_any (computes t) (operands_by args (Some o));
      loads_code = list_any (loads_code t) (operands_by args (Some o));
    }),
    (is, refl, refl, refl, refl, refl, is_coded o args h),
  )

  data_form : (o : Operation) (args : List Operand) → AllByRecursion IsInRange args → is_data_op (Some o) ≡ true → length (data_by t args (Some o)) < 2 ^ 63 → (f : Form) × IsForm t o args f
  data_form o args h is small =
      let v = vector (data_by t args (Some o)) small in
      (Data (record { cells = v.0; computes = list_any (computes t) (operands_by args (Some o)) }), (is, v.1, refl, subst (λ (cs : List Cell). All HoldsByte cs) (sym v.1) (are_bytes (Some o) args h)))

  pub has_form :
      (o : Option Operation) (args : List Operand) → AllByRecursion IsInRange args → (is_instruction_op o || is_data_op o) ≡ true → (is_data_op o ≡ true → length (data_by t args o) < 2 ^ 63)
      → (f : Form) × IsFormBy t args o f
  has_form None args h is small = absurd cc
  has_form (Some o) args h is small = by (is_instruction_op (Some o)) refl
    where
      by : (b : Bool) → is_instruction_op (Some o) ≡ b → (f : Form) × IsForm t o args f
      by true e = instruction_form o args h e
      by false e = let d : is_data_op (Some o) ≡ true = rw e at is in data_form o args h d (small d)
