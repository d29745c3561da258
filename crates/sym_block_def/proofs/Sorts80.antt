-- The instructions of the 8080 keep their terms made and of their sorts.
use Rattle.std.proofs.Common.{◌≡◌, ℕ, zero, suc, ◌+◌, ◌<◌, ◌||◌, ◌&&◌, Bool, true, false, cond, List, [], ◌∷◌, ◌++◌, Option, Some, None, ◌==◌, refl, ap, lit<}
use Rattle.cells.specs.declared.Place.{Place}
use Rattle.cells.specs.declared.Place.TheVariants.{At}
use Rattle.cells.specs.declared.Part.{Part}
use Rattle.cells.specs.declared.Part.TheVariants.{S, Z, Ac, P, Cy}
use Rattle.cells.specs.declared.Cond.{Cond}
use Rattle.cells.specs.declared.Cond.TheVariants.{Nz, Z as Zero, Nc, C as Carry, Po, Pe, P as Plus, M as Minus}
use Rattle.i80.specs.declared.Reg.{Reg as Register}
use Rattle.i80.specs.declared.Reg.TheVariants.{A as RegA, B as RegB, C as RegC, D as RegD, E as RegE, H as RegH, L as RegL}
use Rattle.i80.specs.declared.Src.{Src}
use Rattle.i80.specs.declared.Src.TheVariants.{Reg as InReg, Mem}
use Rattle.i80.specs.declared.Pair.{Pair}
use Rattle.i80.specs.declared.Pair.TheVariants.{B as PairB, D as PairD, H as PairH, Sp as PairSp}
use Rattle.i80.specs.declared.StackPair.{StackPair}
use Rattle.i80.specs.declared.StackPair.TheVariants.{B as StackB, D as StackD, H as StackH, Psw}
use Rattle.i80.specs.declared.Op.{Op}
use Rattle.i80.specs.declared.Op.TheVariants.{Add, Adc, Sub, Sbb, Xra, Cmp}
use Rattle.i80.specs.declared.Word.{Word}
use Rattle.i80.specs.declared.Word.TheVariants.{Num as Number, Code as CodeAt}
use Rattle.i80.specs.declared.Goal.{Goal}
use Rattle.i80.specs.declared.Goal.TheVariants.{At as ToInstr, Boot as ToBoot, Bdos as ToBdos}
use Rattle.i80.specs.declared.Instr80.{Instr80}
use Rattle.i80.specs.declared.Instr80.TheVariants.{Nop, Mov, Mvi, Lxi, Lda, Sta, Lhld, Shld, Ldax, Stax, Xchg, Xthl, Sphl, Pchl, Alu as AluWith, AluI, Inr, Dcr, Inx, Dcx, Dad, Daa, Cma, Stc, Cmc, Rlc, Rrc, Ral, Rar, Push, Pop, Jmp, Jif, Call as CallTo, Cif, Ret, Rif, Rst0, In as InFrom, Out as OutTo}
use Rattle.i80.specs.Columns.{length80, gives_zero}
use Rattle.asm80_types.specs.declared.program.Placed.{Placed}
use Rattle.asm80_types.specs.Program.{Program, IsCoded, AreCoded, placed_in, instr_of_placed, instr_at, is_start}
use Rattle.sym_terms.specs.Term.{Term, Num, Alu, Turn, Adjust, Code, Unknown, is_flag, is_bit, is_byte, is_word, leaves_flag, is_open}
use Rattle.sym_terms.specs.Making.{alu, flag, sum16, high, low, join, turn, adjust, carry_of}
use Rattle.sym_terms.specs.Laws.{IsMadeAs, MadeTermsHaveSorts}
use Rattle.sym_terms.proofs.Sorts.{byte_sorted, word_sorted, leaves_open}
use Rattle.sym_block_def.specs.Outcome.{Action, Load8, Load16, Store8, Store16, Way, Goto, Call, Leave, In, Out, Exit, One, Held, with_flags_of, with_count_flags_of, with_flags_in}
use Rattle.sym_block_def.specs.Block80.{Symbolic80, start80, reg_term, with_reg, pair_term, with_pair, with_held, with_a, load8, load16, store8, store16, next_byte, next_word, source, after_source, into, lxi, lda, xchg, xthl, operation, carry_in, a_after, with_result, operated, cleared, alu_by, count_by, add_to_pair, dad, turn_by, daa, flag_byte, pushed, push, popped, pop, effect80, goto, jump, call, return_by, asking, flag_term, exit80, outcome80, outcome_from, before_more, instrs_from, block80}
use Rattle.sym_block_def.specs.Sorts.{HeldIsSorted, ActionIsSorted, ActionsAreSorted, AreSorted80, WayIsSorted, ExitIsSorted, OutcomeIsSorted}

pub appended : (xs : List Action) (x : Action) → ActionsAreSorted xs → ActionIsSorted x → ActionsAreSorted (xs ++ x ∷ [])
appended [] x h here = (here, tt)
appended (y ∷ ys) x h here = (h.0, appended ys x h.1 here)

-- numbers of each sort
pub zero_bit : IsMadeAs is_bit (Num 0)
zero_bit = (lit< tt, refl)

pub one_bit : IsMadeAs is_bit (Num 1)
one_bit = (lit< tt, refl)

pub zero_byte : IsMadeAs is_byte (Num 0)
zero_byte = (lit< tt, refl)

pub one_byte : IsMadeAs is_byte (Num 1)
one_byte = (lit< tt, refl)

-- a byte that leaves all flags
pub record IsResult (r : Term) : Type 0 where
  pub byte : IsMadeAs is_byte r
  pub leaves : (part : Part) → is_flag part ≡ true → leaves_flag part r ≡ true

turn_leaves : (x : Bool) (kind : ℕ) (a c : Term) → leaves_flag Cy (cond x Unknown (Turn kind a c)) ≡ true
turn_leaves true kind a c = refl
turn_leaves false kind a c = refl

-- the instructions of a block are coded where the program's are

abbrev AllCoded : List Instr80 → Type 0
AllCoded [] = Unit {0}
AllCoded (i ∷ is) = IsCoded i × AllCoded is

abbrev IfCoded : Option Instr80 → Type 0
IfCoded None = Unit {0}
IfCoded (Some i) = IsCoded i

found_coded : (xs : List Placed) (a : ℕ) → AreCoded xs → IfCoded (instr_of_placed (placed_in xs a))
found_coded [] a k = tt
found_coded (x ∷ xs) a k = by_test (found_coded xs a k.1) (x.at == a)
  where
    by_test : IfCoded (instr_of_placed (placed_in xs a)) → (b : Bool) → IfCoded (instr_of_placed (cond b (Some x) (placed_in xs a)))
    by_test later true = k.0
    by_test later false = later

before_coded : (i : Option Instr80) (more : Instr80 → List Instr80) → IfCoded i → ((j : Instr80) → AllCoded (more j)) → AllCoded (before_more i (λ j. j ∷ more j))
before_coded None more k rest = tt
before_coded (Some i) more k rest = (k, rest i)

instrs_coded : (p : Program) (at n : ℕ) → AreCoded p.instrs → AllCoded (instrs_from p at n)
instrs_coded p at zero k = tt
instrs_coded p at (suc n) k =
    before_coded (instr_at p at) (λ i. instrs_from p (at + length80 i) n) (found_coded p.instrs at k) (λ i. instrs_coded p (at + length80 i) n k)

module _ (m : MadeTermsHaveSorts) where
  pub alu_result : (op : Op) (a b c : Term) → IsMadeAs is_byte a → IsMadeAs is_byte b → IsMadeAs is_bit c → IsResult (alu op a b c)
  alu_result op a b c p q r = record { byte = m.alu op a b c p q r; leaves = λ part h. leaves_open (is_open a || (is_open b || is_open c)) (Alu op a b c) part h refl }

  pub adjust_result : (a ac cy : Term) → IsMadeAs is_byte a → IsMadeAs is_bit ac → IsMadeAs is_bit cy → IsResult (adjust a ac cy)
  adjust_result a ac cy p q r = record { byte = m.adjust a ac cy p q r; leaves = λ part h. leaves_open (is_open a || (is_open ac || is_open cy)) (Adjust a ac cy) part h refl }

  pub flag_of_result : (part : Part) (r : Term) → IsResult r → is_flag part ≡ true → IsMadeAs is_bit (flag part r)
  flag_of_result part r h f = m.flag part r (h.byte.0, h.leaves part f)

  pub turn_flag : (kind : ℕ) (a c : Term) → kind < 4 → IsMadeAs is_byte a → IsMadeAs is_bit c → IsMadeAs is_bit (flag Cy (turn kind a c))
  turn_flag kind a c small p q = m.flag Cy (turn kind a c) ((m.turn kind a c small p q).0, turn_leaves (is_open a || is_open c) kind a c)

  pub carry_sorted : (a b : Term) → IsMadeAs is_word a → IsMadeAs is_word b → IsMadeAs is_bit (carry_of a b)
  carry_sorted a b p q =
      let first : IsResult (alu Add (low a) (low b) (Num 0)) = alu_result Add (low a) (low b) (Num 0) (m.low a p) (m.low b q) zero_bit in
      let carry : IsMadeAs is_bit (flag Cy (alu Add (low a) (low b) (Num 0))) = flag_of_result Cy (alu Add (low a) (low b) (Num 0)) first refl in
      flag_of_result Cy (alu Adc (high a) (high b) (flag Cy (alu Add (low a) (low b) (Num 0))))
      (alu_result Adc (high a) (high b) (flag Cy (alu Add (low a) (low b) (Num 0))) (m.high a p) (m.high b q) carry)
      refl

  -- the exclusive or of a bit and 1 is a bit
  pub complement_sorted : (t : Term) → IsMadeAs is_bit t → IsMadeAs is_bit (alu Xra t (Num 1) (Num 0))
  complement_sorted t h = ((m.alu Xra t (Num 1) (Num 0) (m.bits_are_bytes t h) one_byte zero_bit).0, by_test (is_open t || false))
    where
      by_test : (x : Bool) → is_bit (cond x Unknown (Alu Xra t (Num 1) (Num 0))) ≡ true
      by_test true = refl
      by_test false = ap (λ b. b && true) h.1

  -- flags

  pub flags_sorted : (r : Term) (x : Held) → IsResult r → HeldIsSorted x → HeldIsSorted (with_flags_of r x)
  flags_sorted r x f h = record { a = h.a; b = h.b; c = h.c; d = h.d; e = h.e; h = h.h; l = h.l; s = flag_of_result S r f refl; z = flag_of_result Z r f refl; ac = flag_of_result Ac r f refl; p = flag_of_result P r f refl; cy = flag_of_result Cy r f refl }

  pub count_flags_sorted : (r : Term) (x : Held) → IsResult r → HeldIsSorted x → HeldIsSorted (with_count_flags_of r x)
  count_flags_sorted r x f h = record { a = h.a; b = h.b; c = h.c; d = h.d; e = h.e; h = h.h; l = h.l; s = flag_of_result S r f refl; z = flag_of_result Z r f refl; ac = flag_of_result Ac r f refl; p = flag_of_result P r f refl; cy = h.cy }

  pub flags_in_sorted : (b : Term) (x : Held) → IsMadeAs is_byte b → HeldIsSorted x → HeldIsSorted (with_flags_in b x)
  flags_in_sorted b x f h = record { a = h.a; b = h.b; c = h.c; d = h.d; e = h.e; h = h.h; l = h.l; s = m.bit b S f refl; z = m.bit b Z f refl; ac = m.bit b Ac f refl; p = m.bit b P f refl; cy = m.bit b Cy f refl }

  pub flag_byte_sorted : (x : Held) → HeldIsSorted x → IsMadeAs is_byte (flag_byte x)
  flag_byte_sorted x h = m.flag_byte x.s x.z x.ac x.p x.cy h.s h.z h.ac h.p h.cy

  -- A with a byte
  pub a_sorted : (x : Held) (t : Term) → HeldIsSorted x → IsMadeAs is_byte t → HeldIsSorted (record x { a = t })
  a_sorted x t h p = record { a = p; b = h.b; c = h.c; d = h.d; e = h.e; h = h.h; l = h.l; s = h.s; z = h.z; ac = h.ac; p = h.p; cy = h.cy }

  pub cy_sorted : (x : Held) (t : Term) → HeldIsSorted x → IsMadeAs is_bit t → HeldIsSorted (record x { cy = t })
  cy_sorted x t h p = record { a = h.a; b = h.b; c = h.c; d = h.d; e = h.e; h = h.h; l = h.l; s = h.s; z = h.z; ac = h.ac; p = h.p; cy = p }

  pub bc_sorted : (x : Held) (t u : Term) → HeldIsSorted x → IsMadeAs is_byte t → IsMadeAs is_byte u → HeldIsSorted (record x { b = t; c = u })
  bc_sorted x t u h p q = record { a = h.a; b = p; c = q; d = h.d; e = h.e; h = h.h; l = h.l; s = h.s; z = h.z; ac = h.ac; p = h.p; cy = h.cy }

  pub de_sorted : (x : Held) (t u : Term) → HeldIsSorted x → IsMadeAs is_byte t → IsMadeAs is_byte u → HeldIsSorted (record x { d = t; e = u })
  de_sorted x t u h p q = record { a = h.a; b = h.b; c = h.c; d = p; e = q; h = h.h; l = h.l; s = h.s; z = h.z; ac = h.ac; p = h.p; cy = h.cy }

  pub hl_sorted : (x : Held) (t u : Term) → HeldIsSorted x → IsMadeAs is_byte t → IsMadeAs is_byte u → HeldIsSorted (record x { h = t; l = u })
  hl_sorted x t u h p q = record { a = h.a; b = h.b; c = h.c; d = h.d; e = h.e; h = p; l = q; s = h.s; z = h.z; ac = h.ac; p = h.p; cy = h.cy }

  -- operations on A

  pub carry_in_sorted : (op : Op) (cy : Term) → IsMadeAs is_bit cy → IsMadeAs is_bit (carry_in op cy)
  carry_in_sorted Adc cy h = h
  carry_in_sorted Sbb cy h = h
  carry_in_sorted op cy h = zero_bit

  a_after_sorted : (op : Op) (a r : Term) → IsMadeAs is_byte a → IsMadeAs is_byte r → IsMadeAs is_byte (a_after op a r)
  a_after_sorted Cmp a r h p = h
  a_after_sorted op a r h p = p

  pub result_sorted : (op : Op) (r : Term) (x : Held) → IsResult r → HeldIsSorted x → HeldIsSorted (with_result op r x)
  result_sorted op r x f h = flags_sorted r (record x { a = a_after op x.a r }) f (a_sorted x (a_after op x.a r) h (a_after_sorted op x.a r h.a f.byte))

  pub operated_sorted : (op : Op) (b : Term) (x : Held) → IsMadeAs is_byte b → HeldIsSorted x → HeldIsSorted (operated op b x)
  operated_sorted op b x p h = result_sorted op (alu (operation op) x.a b (carry_in op x.cy)) x (alu_result (operation op) x.a b (carry_in op x.cy) h.a p (carry_in_sorted op x.cy h.cy)) h

  pub cleared_sorted : (x : Held) → HeldIsSorted x → HeldIsSorted (cleared x)
  cleared_sorted x h = record { a = zero_byte; b = h.b; c = h.c; d = h.d; e = h.e; h = h.h; l = h.l; s = zero_bit; z = one_bit; ac = (tt, refl); p = one_bit; cy = zero_bit }

  -- states of the 8080

  reg_sorted : (x : Held) (r : Register) → HeldIsSorted x → IsMadeAs is_byte (reg_term x r)
  reg_sorted x RegA h = h.a
  reg_sorted x RegB h = h.b
  reg_sorted x RegC h = h.c
  reg_sorted x RegD h = h.d
  reg_sorted x RegE h = h.e
  reg_sorted x RegH h = h.h
  reg_sorted x RegL h = h.l

  with_reg_sorted : (x : Held) (r : Register) (t : Term) → HeldIsSorted x → IsMadeAs is_byte t → HeldIsSorted (with_reg x r t)
  with_reg_sorted x RegA t h p = a_sorted x t h p
  with_reg_sorted x RegB t h p = bc_sorted x t x.c h p h.c
  with_reg_sorted x RegC t h p = bc_sorted x x.b t h h.b p
  with_reg_sorted x RegD t h p = de_sorted x t x.e h p h.e
  with_reg_sorted x RegE t h p = de_sorted x x.d t h h.d p
  with_reg_sorted x RegH t h p = hl_sorted x t x.l h p h.l
  with_reg_sorted x RegL t h p = hl_sorted x x.h t h h.h p

  held_sorted : (s : Symbolic80) (x : Held) → AreSorted80 s → HeldIsSorted x → AreSorted80 (with_held s x)
  held_sorted s x h k = record { held = k; sp = h.sp; actions = h.actions }

  with_a_sorted : (s : Symbolic80) (t : Term) → AreSorted80 s → IsMadeAs is_byte t → AreSorted80 (with_a s t)
  with_a_sorted s t h p = held_sorted s (record (s.held) { a = t }) h (a_sorted s.held t h.held p)

  sp_sorted : (s : Symbolic80) (t : Term) → AreSorted80 s → IsMadeAs is_word t → AreSorted80 (record s { sp = t })
  sp_sorted s t h p = record { held = h.held; sp = p; actions = h.actions }

  pair_sorted : (s : Symbolic80) (pair : Pair) → AreSorted80 s → IsMadeAs is_word (pair_term s pair)
  pair_sorted s PairB h = m.join s.held.b s.held.c h.held.b h.held.c
  pair_sorted s PairD h = m.join s.held.d s.held.e h.held.d h.held.e
  pair_sorted s PairH h = m.join s.held.h s.held.l h.held.h h.held.l
  pair_sorted s PairSp h = h.sp

  with_pair_sorted : (s : Symbolic80) (pair : Pair) (w : Term) → AreSorted80 s → IsMadeAs is_word w → AreSorted80 (with_pair s pair w)
  with_pair_sorted s PairB w h p = held_sorted s (record (s.held) { b = high w; c = low w }) h (bc_sorted s.held (high w) (low w) h.held (m.high w p) (m.low w p))
  with_pair_sorted s PairD w h p = held_sorted s (record (s.held) { d = high w; e = low w }) h (de_sorted s.held (high w) (low w) h.held (m.high w p) (m.low w p))
  with_pair_sorted s PairH w h p = held_sorted s (record (s.held) { h = high w; l = low w }) h (hl_sorted s.held (high w) (low w) h.held (m.high w p) (m.low w p))
  with_pair_sorted s PairSp w h p = sp_sorted s w h p

  load8_sorted : (s : Symbolic80) (address : Term) → AreSorted80 s → IsMadeAs is_word address → AreSorted80 (load8 s address)
  load8_sorted s address h p = record { held = h.held; sp = h.sp; actions = appended s.trace.actions (Load8 address) h.actions p }

  load16_sorted : (s : Symbolic80) (address : Term) → AreSorted80 s → IsMadeAs is_word address → AreSorted80 (load16 s address)
  load16_sorted s address h p = record { held = h.held; sp = h.sp; actions = appended s.trace.actions (Load16 address) h.actions p }

  store8_sorted : (s : Symbolic80) (address value : Term) → AreSorted80 s → IsMadeAs is_word address → IsMadeAs is_byte value → AreSorted80 (store8 s address value)
  store8_sorted s address value h p q = record { held = h.held; sp = h.sp; actions = appended s.trace.actions (Store8 address value) h.actions (p, q) }

  store16_sorted : (s : Symbolic80) (address value : Term) → AreSorted80 s → IsMadeAs is_word address → IsMadeAs is_word value → AreSorted80 (store16 s address value)
  store16_sorted s address value h p q = record { held = h.held; sp = h.sp; actions = appended s.trace.actions (Store16 address value) h.actions (p, q) }

  -- families of instructions

  source_sorted : (s : Symbolic80) (from : Src) → AreSorted80 s → IsMadeAs is_byte (source s from)
  source_sorted s (InReg r) h = reg_sorted s.held r h.held
  source_sorted s Mem h = (tt, refl)

  after_source_sorted : (s : Symbolic80) (from : Src) → AreSorted80 s → AreSorted80 (after_source s from)
  after_source_sorted s (InReg r) h = h
  after_source_sorted s Mem h = load8_sorted s (pair_term s PairH) h (pair_sorted s PairH h)

  into_sorted : (s : Symbolic80) (to : Src) (t : Term) → AreSorted80 s → IsMadeAs is_byte t → AreSorted80 (into s to t)
  into_sorted s (InReg r) t h p = held_sorted s (with_reg s.held r t) h (with_reg_sorted s.held r t h.held p)
  into_sorted s Mem t h p = store8_sorted s (pair_term s PairH) t h (pair_sorted s PairH h) p

  lxi_sorted : (s : Symbolic80) (pair : Pair) (w : Word) → IsCoded (Lxi pair w) → AreSorted80 s → AreSorted80 (lxi s pair w)
  lxi_sorted s pair (Number w) k h = with_pair_sorted s pair (Num w) h (word_sorted w k)
  lxi_sorted s pair (CodeAt a) k h = with_pair_sorted s pair (join (Code (At a) true) (Code (At a) false)) h (m.join (Code (At a) true) (Code (At a) false) (tt, refl) (tt, refl))

  lda_sorted : (s : Symbolic80) (address : Term) → AreSorted80 s → IsMadeAs is_word address → AreSorted80 (lda s address)
  lda_sorted s address h p = with_a_sorted (load8 s address) (next_byte s) (load8_sorted s address h p) (tt, refl)

  xchg_sorted : (s : Symbolic80) → AreSorted80 s → AreSorted80 (xchg s)
  xchg_sorted s h =
      let first : HeldIsSorted (record (s.held) { d = s.held.h; e = s.held.l }) = de_sorted s.held s.held.h s.held.l h.held h.held.h h.held.l in
      held_sorted s (record (s.held) { d = s.held.h; e = s.held.l; h = s.held.d; l = s.held.e }) h
      (hl_sorted (record (s.held) { d = s.held.h; e = s.held.l }) s.held.d s.held.e first h.held.d h.held.e)

  alu_sorted : (s : Symbolic80) (op : Op) (from : Src) → AreSorted80 s → AreSorted80 (alu_by s op from)
  alu_sorted s op from h = by_test (gives_zero op from)
    where
      by_test : (x : Bool) → AreSorted80 (cond x (with_held s (cleared s.held)) (with_held (after_source s from) (operated op (source s from) s.held)))
      by_test true = held_sorted s (cleared s.held) h (cleared_sorted s.held h.held)
      by_test false = held_sorted (after_source s from) (operated op (source s from) s.held) (after_source_sorted s from h) (operated_sorted op (source s from) s.held (source_sorted s from h) h.held)

  count_sorted : (s : Symbolic80) (op : Op) (on : Src) → AreSorted80 s → AreSorted80 (count_by s op on)
  count_sorted s op on h =
      let r = alu op (source s on) (Num 1) (Num 0) in
      let f : IsResult (alu op (source s on) (Num 1) (Num 0)) = alu_result op (source s on) (Num 1) (Num 0) (source_sorted s on h) one_byte zero_bit in
      let t : AreSorted80 (into (after_source s on) on r) = into_sorted (after_source s on) on r (after_source_sorted s on h) f.byte in
      held_sorted (into (after_source s on) on r) (with_count_flags_of r (into (after_source s on) on r).held) t (count_flags_sorted r (into (after_source s on) on r).held f t.held)

  add_sorted : (s : Symbolic80) (pair : Pair) (n : ℕ) → n < 0x10000 → AreSorted80 s → AreSorted80 (add_to_pair s pair n)
  add_sorted s pair n k h = with_pair_sorted s pair (sum16 (pair_term s pair) (Num n)) h (m.sum16 (pair_term s pair) (Num n) (pair_sorted s pair h) (word_sorted n k))

  dad_sorted : (s : Symbolic80) (pair : Pair) → AreSorted80 s → AreSorted80 (dad s pair)
  dad_sorted s pair h =
      let w = sum16 (pair_term s PairH) (pair_term s pair) in
      let t : AreSorted80 (with_pair s PairH w) = with_pair_sorted s PairH w h (m.sum16 (pair_term s PairH) (pair_term s pair) (pair_sorted s PairH h) (pair_sorted s pair h)) in
      held_sorted (with_pair s PairH w) (record ((with_pair s PairH w).held) { cy = carry_of (pair_term s PairH) (pair_term s pair) }) t
      (cy_sorted (with_pair s PairH w).held (carry_of (pair_term s PairH) (pair_term s pair)) t.held (carry_sorted (pair_term s PairH) (pair_term s pair) (pair_sorted s PairH h) (pair_sorted s pair h)))

  turn_sorted : (s : Symbolic80) (kind : ℕ) (carry : Term) → kind < 4 → AreSorted80 s → IsMadeAs is_bit carry → AreSorted80 (turn_by s kind carry)
  turn_sorted s kind carry small h p =
      let r = turn kind s.held.a carry in
      held_sorted s (record (s.held) { a = r; cy = flag Cy r }) h
      (cy_sorted (record (s.held) { a = r }) (flag Cy r) (a_sorted s.held r h.held (m.turn kind s.held.a carry small h.held.a p)) (turn_flag kind s.held.a carry small h.held.a p))

  daa_sorted : (s : Symbolic80) → AreSorted80 s → AreSorted80 (daa s)
  daa_sorted s h =
      let r = adjust s.held.a s.held.ac s.held.cy in
      let f : IsResult (adjust s.held.a s.held.ac s.held.cy) = adjust_result s.held.a s.held.ac s.held.cy h.held.a h.held.ac h.held.cy in
      held_sorted s (with_flags_of r (record (s.held) { a = r })) h (flags_sorted r (record (s.held) { a = r }) f (a_sorted s.held r h.held f.byte))

  pushed_sorted : (s : Symbolic80) (pair : StackPair) → AreSorted80 s → IsMadeAs is_word (pushed s pair)
  pushed_sorted s StackB h = pair_sorted s PairB h
  pushed_sorted s StackD h = pair_sorted s PairD h
  pushed_sorted s StackH h = pair_sorted s PairH h
  pushed_sorted s Psw h = m.join s.held.a (flag_byte s.held) h.held.a (flag_byte_sorted s.held h.held)

  push_sorted : (s : Symbolic80) (w : Term) → AreSorted80 s → IsMadeAs is_word w → AreSorted80 (push s w)
  push_sorted s w h p =
      let q : IsMadeAs is_word (sum16 s.sp (Num 0xFFFE)) = m.sum16 s.sp (Num 0xFFFE) h.sp (word_sorted 0xFFFE (lit< tt)) in
      sp_sorted (store16 s (sum16 s.sp (Num 0xFFFE)) w) (sum16 s.sp (Num 0xFFFE)) (store16_sorted s (sum16 s.sp (Num 0xFFFE)) w h q p) q

  popped_sorted : (s : Symbolic80) (pair : StackPair) (w : Term) → AreSorted80 s → IsMadeAs is_word w → AreSorted80 (popped s pair w)
  popped_sorted s StackB w h p = with_pair_sorted s PairB w h p
  popped_sorted s StackD w h p = with_pair_sorted s PairD w h p
  popped_sorted s StackH w h p = with_pair_sorted s PairH w h p
  popped_sorted s Psw w h p = held_sorted s (with_flags_in (low w) (record (s.held) { a = high w })) h (flags_in_sorted (low w) (record (s.held) { a = high w }) (m.low w p) (a_sorted s.held (high w) h.held (m.high w p)))

  pop_sorted : (s : Symbolic80) (pair : StackPair) → AreSorted80 s → AreSorted80 (pop s pair)
  pop_sorted s pair h =
      sp_sorted (popped (load16 s s.sp) pair (next_word s)) (sum16 s.sp (Num 2))
      (popped_sorted (load16 s s.sp) pair (next_word s) (load16_sorted s s.sp h h.sp) (tt, refl))
      (m.sum16 s.sp (Num 2) h.sp (word_sorted 2 (lit< tt)))

  xthl_sorted : (s : Symbolic80) → AreSorted80 s → AreSorted80 (xthl s)
  xthl_sorted s h =
      let t = record (load16 s s.sp) { sp = sum16 s.sp (Num 2) } in
      let r : AreSorted80 (record (load16 s s.sp) { sp = sum16 s.sp (Num 2) }) = sp_sorted (load16 s s.sp) (sum16 s.sp (Num 2)) (load16_sorted s s.sp h h.sp) (m.sum16 s.sp (Num 2) h.sp (word_sorted 2 (lit< tt))) in
      with_pair_sorted (push t (pair_term s PairH)) PairH (next_word s) (push_sorted t (pair_term s PairH) r (pair_sorted s PairH h)) (tt, refl)

  -- the table
  pub effect_sorted : (s : Symbolic80) (i : Instr80) → IsCoded i → AreSorted80 s → AreSorted80 (effect80 s i)
  effect_sorted s Nop k h = h
  effect_sorted s (Mov to from) k h = into_sorted (after_source s from) to (source s from) (after_source_sorted s from h) (source_sorted s from h)
  effect_sorted s (Mvi to n) k h = into_sorted s to (Num n) h (byte_sorted n k)
  effect_sorted s (Lxi pair w) k h = lxi_sorted s pair w k h
  effect_sorted s (Lda a) k h = lda_sorted s (Num a) h (word_sorted a k)
  effect_sorted s (Sta a) k h = store8_sorted s (Num a) s.held.a h (word_sorted a k) h.held.a
  effect_sorted s (Lhld a) k h = with_pair_sorted (load16 s (Num a)) PairH (next_word s) (load16_sorted s (Num a) h (word_sorted a k)) (tt, refl)
  effect_sorted s (Shld a) k h = store16_sorted s (Num a) (pair_term s PairH) h (word_sorted a k) (pair_sorted s PairH h)
  effect_sorted s (Ldax pair) k h = lda_sorted s (pair_term s pair) h (pair_sorted s pair h)
  effect_sorted s (Stax pair) k h = store8_sorted s (pair_term s pair) s.held.a h (pair_sorted s pair h) h.held.a
  effect_sorted s Xchg k h = xchg_sorted s h
  effect_sorted s Xthl k h = xthl_sorted s h
  effect_sorted s Sphl k h = sp_sorted s (pair_term s PairH) h (pair_sorted s PairH h)
  effect_sorted s (AluWith op from) k h = alu_sorted s op from h
  effect_sorted s (AluI op n) k h = held_sorted s (operated op (Num n) s.held) h (operated_sorted op (Num n) s.held (byte_sorted n k) h.held)
  effect_sorted s (Inr on) k h = count_sorted s Add on h
  effect_sorted s (Dcr on) k h = count_sorted s Sub on h
  effect_sorted s (Inx pair) k h = add_sorted s pair 1 (lit< tt) h
  effect_sorted s (Dcx pair) k h = add_sorted s pair 0xFFFF (lit< tt) h
  effect_sorted s (Dad pair) k h = dad_sorted s pair h
  effect_sorted s Daa k h = daa_sorted s h
  effect_sorted s Cma k h = with_a_sorted s (alu Xra s.held.a (Num 0xFF) (Num 0)) h (m.alu Xra s.held.a (Num 0xFF) (Num 0) h.held.a (byte_sorted 0xFF (lit< tt)) zero_bit)
  effect_sorted s Stc k h = held_sorted s (record (s.held) { cy = Num 1 }) h (cy_sorted s.held (Num 1) h.held one_bit)
  effect_sorted s Cmc k h = held_sorted s (record (s.held) { cy = alu Xra s.held.cy (Num 1) (Num 0) }) h (cy_sorted s.held (alu Xra s.held.cy (Num 1) (Num 0)) h.held (complement_sorted s.held.cy h.held.cy))
  effect_sorted s Rlc k h = turn_sorted s 0 (Num 0) (lit< tt) h zero_bit
  effect_sorted s Rrc k h = turn_sorted s 1 (Num 0) (lit< tt) h zero_bit
  effect_sorted s Ral k h = turn_sorted s 2 s.held.cy (lit< tt) h h.held.cy
  effect_sorted s Rar k h = turn_sorted s 3 s.held.cy (lit< tt) h h.held.cy
  effect_sorted s (Push pair) k h = push_sorted s (pushed s pair) h (pushed_sorted s pair h)
  effect_sorted s (Pop pair) k h = pop_sorted s pair h
  effect_sorted s i k h = h

  pub start_sorted : AreSorted80 start80
  start_sorted = record { held = record { a = (tt, refl); b = (tt, refl); c = (tt, refl); d = (tt, refl); e = (tt, refl); h = (tt, refl); l = (tt, refl); s = (tt, refl); z = (tt, refl); ac = (tt, refl); p = (tt, refl); cy = (tt, refl) }; sp = (tt, refl); actions = tt }

  -- exits

  goto_sorted : (p : Program) (a : ℕ) → WayIsSorted (goto p a)
  goto_sorted p a = plain (is_start p a)
    where
      plain : (x : Bool) → WayIsSorted (cond x (Goto (At a)) Leave)
      plain true = tt
      plain false = tt

  jump_sorted : (p : Program) (t : Goal) → WayIsSorted (jump p t)
  jump_sorted p (ToInstr t) = goto_sorted p t
  jump_sorted p ToBoot = tt
  jump_sorted p ToBdos = tt

  call_sorted : (p : Program) (a : ℕ) (t : Goal) → WayIsSorted (call p a t)
  call_sorted p a (ToInstr t) = plain (is_start p a)
    where
      plain : (x : Bool) → WayIsSorted (cond x (Call (At t) (At a)) Leave)
      plain true = tt
      plain false = tt
  call_sorted p a ToBoot = tt
  call_sorted p a ToBdos = tt

  return_sorted : (s : Symbolic80) → WayIsSorted (return_by s)
  return_sorted s = (m.high (next_word s) (tt, refl), m.low (next_word s) (tt, refl))

  asking_sorted : (p : Program) (a : ℕ) (way : Place → Way) → WayIsSorted (way (At a)) → WayIsSorted (asking p a way)
  asking_sorted p a way h = plain (is_start p a)
    where
      plain : (x : Bool) → WayIsSorted (cond x (way (At a)) Leave)
      plain true = h
      plain false = tt

  flag_sorted : (x : Held) (c : Cond) → HeldIsSorted x → IsMadeAs is_bit (flag_term x c)
  flag_sorted x Nz h = h.z
  flag_sorted x Zero h = h.z
  flag_sorted x Nc h = h.cy
  flag_sorted x Carry h = h.cy
  flag_sorted x Po h = h.p
  flag_sorted x Pe h = h.p
  flag_sorted x Plus h = h.s
  flag_sorted x Minus h = h.s

  exit_sorted : (p : Program) (a : ℕ) (s : Symbolic80) (i : Instr80) → AreSorted80 s → ExitIsSorted (exit80 p a s i)
  exit_sorted p a s Pchl h = (h.held.h, h.held.l)
  exit_sorted p a s (Jmp t) h = jump_sorted p t
  exit_sorted p a s (Jif c t) h = (flag_sorted s.held c h.held, jump_sorted p t, goto_sorted p a)
  exit_sorted p a s (CallTo t) h = call_sorted p a t
  exit_sorted p a s (Cif c t) h = (flag_sorted s.held c h.held, call_sorted p a t, goto_sorted p a)
  exit_sorted p a s Ret h = return_sorted s
  exit_sorted p a s (Rif c) h = (flag_sorted s.held c h.held, return_sorted s, goto_sorted p a)
  exit_sorted p a s Rst0 h = tt
  exit_sorted p a s (InFrom n) h = asking_sorted p a (In n) tt
  exit_sorted p a s (OutTo n) h = asking_sorted p a (Out n) tt
  exit_sorted p a s i h = goto_sorted p a

  -- outcomes

  outcome_sorted : (s : Symbolic80) (exit : Exit) → AreSorted80 s → ExitIsSorted exit → OutcomeIsSorted (outcome80 s exit)
  outcome_sorted s exit h e = record { actions = h.actions; held = h.held; sp = h.sp; exit = e }

  outcome_from_sorted : (p : Program) (at : ℕ) (is : List Instr80) (s : Symbolic80) → AllCoded is → AreSorted80 s → OutcomeIsSorted (outcome_from p at is s)
  outcome_from_sorted p at [] s k h = outcome_sorted s (One (goto p at)) h (goto_sorted p at)
  outcome_from_sorted p at (i ∷ []) s k h =
      let t : AreSorted80 (effect80 s i) = effect_sorted s i k.0 h in
      outcome_sorted (effect80 s i) (exit80 p (at + length80 i) (effect80 s i) i) t (exit_sorted p (at + length80 i) (effect80 s i) i t)
  outcome_from_sorted p at (i ∷ j ∷ is) s k h = outcome_from_sorted p (at + length80 i) (j ∷ is) (effect80 s i) k.1 (effect_sorted s i k.0 h)

  pub block_sorted : (p : Program) (first count : ℕ) → AreCoded p.instrs → OutcomeIsSorted (block80 p first count)
  block_sorted p first count k = outcome_from_sorted p first (instrs_from p first count) start80 (instrs_coded p first count k) start_sorted
