-- Operands that do not break S2 name instructions where they start: targets by that rule, and code addresses by what they are.
-- The numbers of instructions and data are in their ranges.
use Rattle.std.proofs.Common.{◌≡◌, ℕ, ◌==◌, not, ◌||◌, Bool, true, false, cond, find, All, List, [], ◌∷◌, ◌++◌, length, ◌<◌, Option, Some, None, IfSome, option_map, option_and_then, refl, sym, ◌∙◌, arith}
use Rattle.std.specs.List.{list_any, flat_map}
use Rattle.std.proofs.lemmas.Bool.{and_parts}
use Rattle.std.proofs.lemmas.List.Elements.{All-nil, All-cons}
use Rattle.cells.specs.declared.Cell.{Cell}
use Rattle.cells.proofs.Options.{if_none}
use Rattle.i80.specs.declared.Src.{Src}
use Rattle.i80.specs.declared.Pair.{Pair}
use Rattle.i80.specs.declared.Pair.TheVariants as pairs
use Rattle.i80.specs.declared.Goal.TheVariants.{At, Boot, Bdos}
use Rattle.i80.specs.declared.Instr80.{Instr80}
use Rattle.i80.specs.declared.Instr80.TheVariants as i80
use Rattle.i80.specs.Columns.{is_well_formed, length80}
use Rattle.asm80_types.specs.Program.{if_instr, if_code, IsCoded}
use Rattle.asm80_types.specs.Tree.{Operand, String, Whole, Statement}
use Rattle.asm80_values.specs.Forms.{HoldsByte}
use Rattle.asm80_values.specs.declared.form.Form.{Form}
use Rattle.asm80_values.specs.declared.form.Form.TheVariants.{Nothing, Instruction, Data}
use Rattle.asm80_source_def.specs.declared.operation.Operation.{Operation}
use Rattle.asm80_source_def.specs.declared.operation.Operation.TheVariants as op
use Rattle.asm80_source_def.specs.declared.rule.AsmRule.TheVariants.{S2}
use Rattle.asm80_source_def.specs.Values.{operand_place}
use Rattle.asm80_source_def.specs.Walk.{Walk, WalkRow, operation_in, row_operation}
use Rattle.asm80_source_def.specs.Operands.{src_of, pair_of_operand, indirect_of, stack_of}
use Rattle.asm80_source_def.specs.Items.{Setting, setting, value, byte, code_address, if_starts, word_by, word_of, goal, move, is_data_op, instruction, numbers, cells_of_byte, cells_of_word_by, cells_of_word, data_by, starts_in, starts_at}
use Rattle.asm80_source_def.specs.Layout.{misses, operands_by}
use Rattle.asm80_values.specs.declared.item.Item.{Item}
use Rattle.asm80_values.specs.Items.{IsFormBy, AreItems, form_breaks, breaks}
use Rattle.asm80_values.specs.Programs.{NamesStart, AreHalved, OfForm, NamesStarts, HoldsNumbers}
use Rattle.asm80_values.proofs.Accepted.{is_bare_sound, bare_sound}

-- ---- code addresses

by_place : (s : ℕ → Bool) (o : Option ℕ) → IfSome (option_and_then (if_starts s) o) (λ q. s q ≡ true)
by_place s None = tt
by_place s (Some a) = by_start (s a) refl
  where
    by_start : (b : Bool) → s a ≡ b → IfSome (cond b (Some a) None) (λ q. s q ≡ true)
    by_start true h = h
    by_start false h = tt

-- an instruction starts at a code address
code_starts : (t : Setting) (a : Operand) → IfSome (code_address t a) (λ q. t.is_start q ≡ true)
code_starts t a = by_place t.is_start (operand_place t.scope a)

-- ---- data

numbers_halved : (s : ℕ → Bool) (bytes : List ℕ) (cs : List Cell) → AreHalved s cs → AreHalved s (numbers bytes ++ cs)
numbers_halved s [] cs h = h
numbers_halved s (n ∷ bytes) cs h = numbers_halved s bytes cs h

byte_halved : (t : Setting) (a : Operand) (cs : List Cell) → AreHalved t.is_start cs → AreHalved t.is_start (cells_of_byte t a ++ cs)
byte_halved t (String bytes) cs h = numbers_halved t.is_start bytes cs h
byte_halved t (Whole e) cs h = h

bytes_halved : (t : Setting) (args : List Operand) → AreHalved t.is_start (flat_map (cells_of_byte t) args)
bytes_halved t [] = tt
bytes_halved t (a ∷ args) = byte_halved t a (flat_map (cells_of_byte t) args) (bytes_halved t args)

word_halved : (s : ℕ → Bool) (n : ℕ) (o : Option ℕ) (cs : List Cell) → IfSome o (λ q. s q ≡ true) → AreHalved s cs → AreHalved s (cells_of_word_by n o ++ cs)
word_halved s n None cs starts h = h
word_halved s n (Some a) cs starts h = (starts, refl, h)

words_halved : (t : Setting) (args : List Operand) → AreHalved t.is_start (flat_map (cells_of_word t) args)
words_halved t [] = tt
words_halved t (a ∷ args) =
    word_halved t.is_start (value t a) (code_address t a) (flat_map (cells_of_word t) args) (code_starts t a) (words_halved t args)

data_halved : (t : Setting) (args : List Operand) (o : Operation) → is_data_op (Some o) ≡ true → AreHalved t.is_start (data_by t args (Some o))
data_halved t args op.Db h = bytes_halved t args
data_halved t args op.Dw h = words_halved t args
data_halved t args o h = absurd cc

-- ---- instructions

-- one that names none
mapped : {X : Type 0} (s : ℕ → Bool) (f : X → Instr80) (o : Option X) → ((x : X) → NamesStart s (f x)) → IfSome (option_map f o) (NamesStart s)
mapped s f None h = tt
mapped s f (Some x) h = h x

moved : (s : ℕ → Bool) (a b : Option Src) → IfSome (move a b) (NamesStart s)
moved s None b = tt
moved s (Some x) b = mapped s (λ (y : Src). i80.Mov x y) b (λ y. tt)

one_byte : (s : ℕ → Bool) (i : Instr80) → (length80 i == 1) ≡ true → NamesStart s i
one_byte s (i80.Lxi p w) h = absurd cc
one_byte s (i80.Jmp g) h = absurd cc
one_byte s (i80.Jif c g) h = absurd cc
one_byte s (i80.Call g) h = absurd cc
one_byte s (i80.Cif c g) h = absurd cc
one_byte s i h = tt

-- a word that is loaded
word_starts : (s : ℕ → Bool) (n : ℕ) (o : Option ℕ) → IfSome o (λ q. s q ≡ true) → IfSome (if_code (word_by n o)) (λ q. s q ≡ true)
word_starts s n None h = tt
word_starts s n (Some a) h = h

load_starts : (t : Setting) (a : Operand) (x : Pair) → NamesStart t.is_start (i80.Lxi x (word_of t x a))
load_starts t a pairs.B = word_starts t.is_start (value t a) (code_address t a) (code_starts t a)
load_starts t a pairs.D = word_starts t.is_start (value t a) (code_address t a) (code_starts t a)
load_starts t a pairs.H = word_starts t.is_start (value t a) (code_address t a) (code_starts t a)
load_starts t a pairs.Sp = tt

-- a target that is no start is 0 or 5
goal_starts : (s : ℕ → Bool) (n : ℕ) → (not (s n || (n == 0 || n == 5)) || false) ≡ false → IfSome (if_instr (goal n)) (λ q. s q ≡ true)
goal_starts s n h = by_tests (n == 0) (n == 5) (s n) refl h
  where
    by_tests : (x y z : Bool) → s n ≡ z → (not (z || (x || y)) || false) ≡ false → IfSome (if_instr (cond x Boot (cond y Bdos (At n)))) (λ q. s q ≡ true)
    by_tests true y z is h = tt
    by_tests false true z is h = tt
    by_tests false false true is h = is
    by_tests false false false is h = absurd cc

names_start :
    (t : Setting) (o : Operation) (args : List Operand) → is_bare_sound o ≡ true → list_any (misses t) (operands_by args (Some o)) ≡ false
    → IfSome (instruction t o args) (NamesStart t.is_start)
names_start t (op.Bare i) [] bare h = one_byte t.is_start i (and_parts (is_well_formed i) (length80 i == 1) bare).1
names_start t op.Mov (a ∷ b ∷ []) bare h = moved t.is_start (src_of a) (src_of b)
names_start t op.Mvi (a ∷ b ∷ []) bare h = mapped t.is_start (λ (x : Src). i80.Mvi x (byte t b)) (src_of a) (λ x. tt)
names_start t op.Lxi (a ∷ b ∷ []) bare h = mapped t.is_start (λ (x : Pair). i80.Lxi x (word_of t x b)) (pair_of_operand a) (load_starts t b)
names_start t op.Lda (a ∷ []) bare h = tt
names_start t op.Sta (a ∷ []) bare h = tt
names_start t op.Lhld (a ∷ []) bare h = tt
names_start t op.Shld (a ∷ []) bare h = tt
names_start t (op.AluI o) (a ∷ []) bare h = tt
names_start t op.In (a ∷ []) bare h = tt
names_start t op.Out (a ∷ []) bare h = tt
names_start t op.Ldax (a ∷ []) bare h = mapped t.is_start i80.Ldax (indirect_of a) (λ x. tt)
names_start t op.Stax (a ∷ []) bare h = mapped t.is_start i80.Stax (indirect_of a) (λ x. tt)
names_start t (op.Alu o) (a ∷ []) bare h = mapped t.is_start (i80.Alu o) (src_of a) (λ x. tt)
names_start t op.Inr (a ∷ []) bare h = mapped t.is_start i80.Inr (src_of a) (λ x. tt)
names_start t op.Dcr (a ∷ []) bare h = mapped t.is_start i80.Dcr (src_of a) (λ x. tt)
names_start t op.Inx (a ∷ []) bare h = mapped t.is_start i80.Inx (pair_of_operand a) (λ x. tt)
names_start t op.Dcx (a ∷ []) bare h = mapped t.is_start i80.Dcx (pair_of_operand a) (λ x. tt)
names_start t op.Dad (a ∷ []) bare h = mapped t.is_start i80.Dad (pair_of_operand a) (λ x. tt)
names_start t op.Push (a ∷ []) bare h = mapped t.is_start i80.Push (stack_of a) (λ x. tt)
names_start t op.Pop (a ∷ []) bare h = mapped t.is_start i80.Pop (stack_of a) (λ x. tt)
names_start t op.Jmp (a ∷ []) bare h = goal_starts t.is_start (value t a) h
names_start t (op.Jif c) (a ∷ []) bare h = goal_starts t.is_start (value t a) h
names_start t op.Call (a ∷ []) bare h = goal_starts t.is_start (value t a) h
names_start t (op.Cif c) (a ∷ []) bare h = goal_starts t.is_start (value t a) h
names_start t op.Rst (a ∷ []) bare h = by_zero (value t a == 0)
  where
    by_zero : (b : Bool) → IfSome (cond b (Some i80.Rst0) None) (NamesStart t.is_start)
    by_zero true = tt
    by_zero false = tt
names_start t o args bare h = tt

-- ---- the ranges of numbers

one_byte_coded : (i : Instr80) → (length80 i == 1) ≡ true → IsCoded i
one_byte_coded (i80.Mvi s n) h = absurd cc
one_byte_coded (i80.AluI o n) h = absurd cc
one_byte_coded (i80.In n) h = absurd cc
one_byte_coded (i80.Out n) h = absurd cc
one_byte_coded (i80.Lxi p w) h = absurd cc
one_byte_coded (i80.Lda a) h = absurd cc
one_byte_coded (i80.Sta a) h = absurd cc
one_byte_coded (i80.Lhld a) h = absurd cc
one_byte_coded (i80.Shld a) h = absurd cc
one_byte_coded i h = tt

-- an instruction without operands has one byte
is_coded : (t : Setting) (o : Operation) (args : List Operand) → is_bare_sound o ≡ true → (0 < length args → IfSome (instruction t o args) (λ x. IsCoded x)) → IfSome (instruction t o args) (λ x. IsCoded x)
is_coded t (op.Bare i) [] bare h = one_byte_coded i (and_parts (is_well_formed i) (length80 i == 1) bare).1
is_coded t o [] bare h = tt
is_coded t o (a ∷ args) bare h = h (omega arith)

-- ---- items

form_named :
    (t : Setting) (s : Statement) (o : Option Operation) (f : Form) → operation_in s ≡ o → IsFormBy t s.args o f → form_breaks S2 f ≡ false
    → OfForm (NamesStart t.is_start) (AreHalved t.is_start) f
form_named t s None f is h hits = absurd h
form_named t s (Some o) Nothing is h hits = tt
form_named t s (Some o) (Instruction i) is h hits = rw h.1 (names_start t o s.args (bare_sound s.op o is) (sym h.3 ∙ hits))
form_named t s (Some o) (Data d) is h hits = rw h.1 (data_halved t s.args o h.0)

form_coded : (t : Setting) (s : Statement) (o : Option Operation) (f : Form) → operation_in s ≡ o → IsFormBy t s.args o f → OfForm (λ x. IsCoded x) (All HoldsByte) f
form_coded t s None f is h = absurd h
form_coded t s (Some o) Nothing is h = tt
form_coded t s (Some o) (Instruction i) is h = rw h.1 (is_coded t o s.args (bare_sound s.op o is) (λ some. rw h.1 at (h.6 some)))
form_coded t s (Some o) (Data d) is h = h.3

pub are_coded : (rs : List WalkRow) (end : Walk) (is : List Item) (qs : List WalkRow) → AreItems rs end is qs → All HoldsNumbers is
are_coded rs end [] qs h = All-nil HoldsNumbers
are_coded rs end (i ∷ is) [] h = absurd h
are_coded rs end (i ∷ is) (q ∷ qs) h =
    All-cons HoldsNumbers i is (form_coded (setting rs end q) q.statement (row_operation q) i.form refl h.0.form) (are_coded rs end is qs h.1)

pub are_named : (rs : List WalkRow) (end : Walk) (top : ℕ) (is : List Item) (qs : List WalkRow) → AreItems rs end is qs → find (breaks top S2) is ≡ None → All (NamesStarts (starts_at (starts_in rs))) is
are_named rs end top [] qs h hits = All-nil (NamesStarts (starts_at (starts_in rs)))
are_named rs end top (i ∷ is) [] h hits = absurd h
are_named rs end top (i ∷ is) (q ∷ qs) h hits =
    let split = if_none (form_breaks S2 i.form) i (find (breaks top S2) is) hits in
    All-cons (NamesStarts (starts_at (starts_in rs))) i is (form_named (setting rs end q) q.statement (row_operation q) i.form refl h.0.form split.0) (are_named rs end top is qs h.1 split.1)
