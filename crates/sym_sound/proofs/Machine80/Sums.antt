-- Counts, words, adjustment and rotation.
use Rattle.std.proofs.Common.{◌≡◌, ℕ, zero, suc, ◌+◌, ◌-◌, ◌*◌, ◌/◌, ◌%◌, ◌<◌, Bool, true, false, cond, not, List, Some, None, Result, Ok, Err, refl, sym, ap, subst, ◌∙◌, arith}
use Rattle.std.specs.Prelude.{nat_lt, ◌||◌}
use Rattle.cells.specs.declared.Cell.{Cell}
use Rattle.cells.specs.declared.Cell.TheVariants.{Num as NumCell}
use Rattle.cells.specs.declared.Rule.{Rule}
use Rattle.cells.specs.declared.Rule.TheVariants.{P5, P7}
use Rattle.cells.specs.declared.Part.TheVariants.{S, Z, Ac, P, Cy}
use Rattle.i80.specs.declared.Reg.{Reg}
use Rattle.i80.specs.declared.Reg.TheVariants.{A, B, C, D, E, H, L}
use Rattle.i80.specs.declared.Src.{Src}
use Rattle.i80.specs.declared.Src.TheVariants.{Reg as InReg, Mem}
use Rattle.i80.specs.declared.Pair.{Pair}
use Rattle.i80.specs.declared.Pair.TheVariants.{B as PairB, D as PairD, H as PairH, Sp}
use Rattle.i80.specs.declared.Op.{Op}
use Rattle.i80.specs.declared.Op.TheVariants.{Add, Adc, Sub, Xra}
use Rattle.base.specs.Arithmetic.{as_bit, has_even_parity, sum8, carry8, difference8, bit0, daa_result, daa_carry, daa_excepted}
use Rattle.base.specs.Operations.{flags_by, result_of, flags_of}
use Rattle.base.proofs.Bytes.{turned_round, carry_is, inverted_is}
use Rattle.dialogue.specs.Tried.{try_then}
use Rattle.dialogue.specs.Words.{wrap}
use Rattle.asm80_types.specs.Program.{Program}
use Rattle.cpu80_tagged.specs.State.{State80, reg80, high_of, low_of, with_a as with_a80, with_num, with_flags, with_cy, num_or}
use Rattle.cpu80_tagged.specs.Memory.{put, address, read_at, may_write}
use Rattle.cpu80_tagged.specs.Effect.{source as source80, into as into80, known, counted, inr, dcr, pair_num, add_to_pair as add80, dad as dad80, daa as daa80, cma, cmc, rlc, rrc, ral, rar, cleared as cleared80}
use Rattle.sym_terms.specs.Term.{Term, Num, Start, Alu, Flag, Bit, Turn, Unknown, is_bit, is_word, leaves_flag, is_open}
use Rattle.sym_terms.specs.Making.{alu, flag, sum16, high, low, turn, adjust, carry_of}
use Rattle.sym_terms.specs.Values80.{Env80, Load80, Byte, OneBit, Result as ResultOf, word_of, Val80, turn_result, turn_carry, turn_flags}
use Rattle.sym_terms.specs.Laws.{IsMadeAs, MadeTermsKeepValues, MadeTermsHaveSorts}
use Rattle.sym_terms.proofs.Sorts.{byte_sorted, word_sorted}
use Rattle.sym_block_def.specs.Outcome.{Held, with_flags_of, with_count_flags_of}
use Rattle.sym_block_def.specs.Block80.{Symbolic80, reg_term, with_held, with_a, pair_term, with_pair, source, after_source, into, count_by, add_to_pair, dad, turn_by, daa, cleared}
use Rattle.sym_block_def.specs.Sorts.{HeldIsSorted, AreSorted80}
use Rattle.simulation_def.specs.States.{IsCell}
use Rattle.simulation_def.specs.Runs80.{env80}
use Rattle.sym_sound.proofs.Machine80.Denoting.{Denotes}
use Rattle.sym_sound.proofs.Machine80.Holding.{sets_reg, pair_value, fetches, puts}
use Rattle.dialogue.proofs.Tried.{ok_is, err_is_not, then_is}
use Rattle.sym_sound.proofs.Machine80.Answering.{number_is, halves_are}
use Rattle.sym_sound.proofs.Machine80.Computing.{alu_gives, adjust_gives, all_flags, count_flags, sets_flags, byte_number, zero_bit, one_bit, known_is}
use Rattle.sym_sound.proofs.Machine80.Moves.{Denoted, held_after, word_number, sets_number}

-- a bit that is known is used as a byte
pub bit_as_byte : (e : Env80) (t : Term) (b : Bool) → IsMadeAs is_bit t → Val80 e t (OneBit (Some b)) → Val80 e t (Byte (NumCell (as_bit b)))
bit_as_byte e (Num n) b m v = let same : Some b ≡ Some v.0 = v.2 in let is : b ≡ v.0 = cc in let small : n < 256 = small_bit v.0 n v.1 in (small, ap (λ k. NumCell (as_bit k)) is ∙ ap NumCell (sym v.1))
  where
    small_bit : (k : Bool) (n : ℕ) → n ≡ as_bit k → n < 256
    small_bit true n h = omega (arith, h)
    small_bit false n h = omega (arith, h)
bit_as_byte e (Start S) b m v = (b, v, refl)
bit_as_byte e (Start Z) b m v = (b, v, refl)
bit_as_byte e (Start Ac) b m v = (b, v, refl)
bit_as_byte e (Start P) b m v = (b, v, refl)
bit_as_byte e (Start Cy) b m v = (b, v, refl)
bit_as_byte e (Flag part r) b m v = (b, v, refl)
bit_as_byte e (Bit t part) b m v = (b, v, refl)
bit_as_byte e (Alu op x y c) b m v = let same : Some b ≡ Some v.0 = v.3 in let is : b ≡ v.0 = cc in (as_bit v.0, v.1, v.2, ap (λ k. NumCell (as_bit k)) is)
bit_as_byte e Unknown b m v = let differ : Some b ≡ None = v in absurd (cc)
bit_as_byte e t b m v = absurd (cc)

zero_is_even : has_even_parity 0 ≡ true
unfolding lib.Count.ones
zero_is_even = refl

sum_small : (x c : ℕ) → sum8 x 1 c < 256
sum_small x c = omega arith

difference_small : (x c : ℕ) → difference8 x 1 c < 256
difference_small x c = omega arith

pub same_count_regs : (t : Term) (x : Held) (r : Reg) → reg_term (with_count_flags_of t x) r ≡ reg_term x r
same_count_regs t x A = refl
same_count_regs t x B = refl
same_count_regs t x C = refl
same_count_regs t x D = refl
same_count_regs t x E = refl
same_count_regs t x H = refl
same_count_regs t x L = refl

pub same_all : (y : Held) (t : Term) (r : Reg) → reg_term (with_flags_of t y) r ≡ reg_term y r
same_all y t A = refl
same_all y t B = refl
same_all y t C = refl
same_all y t D = refl
same_all y t E = refl
same_all y t H = refl
same_all y t L = refl

same_cy : (y : Held) (c : Term) (r : Reg) → reg_term (record y { cy = c }) r ≡ reg_term y r
same_cy y c A = refl
same_cy y c B = refl
same_cy y c C = refl
same_cy y c D = refl
same_cy y c E = refl
same_cy y c H = refl
same_cy y c L = refl

-- the number that a count finds is what its operand gives
counted_is : (p : Program) (s : State80) (on : Src) (n : ℕ) → counted p s on ≡ Ok n → source80 p s on ≡ Ok (NumCell n)
counted_is p s (InReg r) n e = ap Ok (number_is P5 (reg80 s.regs r) n e)
counted_is p s Mem n e =
    let a = then_is (address s.regs.h s.regs.l) _ n e in
    let b = then_is (read_at p s a.0) _ n a.2 in
    let c = then_is (may_write p a.0) _ n b.2 in
    ap (λ r. by_address r) a.1 ∙ b.1 ∙ ap Ok (number_is P5 b.0 n c.2)
  where
    by_address : Result ℕ Rule → Result Cell Rule
    by_address r = try_then r (read_at p s)

module _ (keep : MadeTermsKeepValues) (sorts : MadeTermsHaveSorts) (p : Program) (s0 : State80) where
  -- a count of an operand, of which the operation's number and its flags but CY are kept
  counts : (loads : List Load80) (x : Symbolic80) (s t : State80) (op : Op) (on : Src) (n : ℕ) → Denotes p s0 loads x s → HeldIsSorted x.held → source80 p s on ≡ Ok (NumCell n) → into80 p s on (NumCell (result_of op n 1 0)) ≡ Ok t → result_of op n 1 0 < 256 → Denoted p s0 (count_by x op on) (with_flags t (record (flags_of op n 1 0) { cy = t.flags.cy }))
  counts loads x s t op on n d h from put small =
      let f = fetches keep p s0 loads x s on (NumCell n) d h from in
      let e = env80 s0 f.loads in
      let r = alu op (source x on) (Num 1) (Num 0) in
      let g = alu_gives keep sorts e op (source x on) (Num 1) (Num 0) n 1 false f.sorted (byte_sorted 1 (omega arith)) (omega arith, refl) f.value (byte_number e 1 (omega arith)) (zero_bit e) in
      let stored = puts keep p s0 f.loads (after_source x on) s t on r (NumCell (result_of op n 1 0)) f.denotes (held_after x on h) g.byte small put in
      let y = (into (after_source x on) on r).held in
      record {
        loads = f.loads;
        denotes = sets_flags keep sorts p s0 f.loads (into (after_source x on) on r) t (with_count_flags_of r y) (record (flags_of op n 1 0) { cy = t.flags.cy }) stored (same_count_regs r y) (count_flags keep sorts e r y (result_of op n 1 0) (flags_of op n 1 0) t.flags.cy g stored.holds.in_flags.4);
      }

  pub counts_up : (loads : List Load80) (x : Symbolic80) (s t : State80) (on : Src) → Denotes p s0 loads x s → HeldIsSorted x.held → inr p s on ≡ Ok t → Denoted p s0 (count_by x Add on) t
  counts_up loads x s t on d h e =
      let a = then_is (counted p s on) _ t e in
      let b = then_is (into80 p s on (NumCell (sum8 a.0 1 0))) _ t a.2 in
      subst (λ (u : State80). Denoted p s0 (count_by x Add on) u) (ok_is _ t b.2)
      (counts loads x s b.0 Add on a.0 d h (counted_is p s on a.0 a.1) b.1 (sum_small a.0 0))

  pub counts_down : (loads : List Load80) (x : Symbolic80) (s t : State80) (on : Src) → Denotes p s0 loads x s → HeldIsSorted x.held → dcr p s on ≡ Ok t → Denoted p s0 (count_by x Sub on) t
  counts_down loads x s t on d h e =
      let a = then_is (counted p s on) _ t e in
      let b = then_is (into80 p s on (NumCell (difference8 a.0 1 0))) _ t a.2 in
      subst (λ (u : State80). Denoted p s0 (count_by x Sub on) u) (ok_is _ t b.2)
      (counts loads x s b.0 Sub on a.0 d h (counted_is p s on a.0 a.1) b.1 (difference_small a.0 0))

  -- the cells of a pair
  pair_cells : (loads : List Load80) (x : Symbolic80) (s : State80) (pair : Pair) → Denotes p s0 loads x s → IsCell p (high_of s pair) × IsCell p (low_of s pair)
  pair_cells loads x s PairB d = (d.is_state.regs B, d.is_state.regs C)
  pair_cells loads x s PairD d = (d.is_state.regs D, d.is_state.regs E)
  pair_cells loads x s PairH d = (d.is_state.regs H, d.is_state.regs L)
  pair_cells loads x s Sp d = let lt = d.is_state.sp in (omega (arith, lt), omega arith)

  pair_number : (loads : List Load80) (x : Symbolic80) (s : State80) (pair : Pair) (n : ℕ) → Denotes p s0 loads x s → HeldIsSorted x.held → pair_num s pair ≡ Ok n → (n < 0x10000) × Val80 (env80 s0 loads) (pair_term x pair) (word_of n)
  pair_number loads x s pair n d h e =
      let a = then_is (num_or P5 (high_of s pair)) _ n e in
      let b = then_is (num_or P5 (low_of s pair)) _ n a.2 in
      let cells = pair_cells loads x s pair d in
      let is = halves_are p (high_of s pair) (low_of s pair) a.0 b.0 n cells.0 cells.1 (number_is P5 (high_of s pair) a.0 a.1) (number_is P5 (low_of s pair) b.0 b.1) (ok_is _ n b.2) in
      (is.0, subst (λ v. Val80 (env80 s0 loads) (pair_term x pair) v) is.1 (pair_value keep p s0 loads x s pair d h))

  pair_sorted : (x : Symbolic80) (pair : Pair) → AreSorted80 x → IsMadeAs is_word (pair_term x pair)
  pair_sorted x PairB o = sorts.join x.held.b x.held.c o.held.b o.held.c
  pair_sorted x PairD o = sorts.join x.held.d x.held.e o.held.d o.held.e
  pair_sorted x PairH o = sorts.join x.held.h x.held.l o.held.h o.held.l
  pair_sorted x Sp o = o.sp

  wrapped : (n : ℕ) → wrap n < 0x10000
  wrapped n = omega arith

  -- the sum of two words
  sum_value : (e : Env80) (a b : Term) (m n : ℕ) → IsMadeAs is_word a → IsMadeAs is_word b → m < 0x10000 → n < 0x10000 → Val80 e a (word_of m) → Val80 e b (word_of n) → Val80 e (sum16 a b) (word_of (wrap (m + n)))
  sum_value e a b m n ma mb lm ln va vb = (keep.on_8080 e).sum16 a b _ ma mb (m, n, lm, ln, va, vb, refl, refl)

  pub adds_to_pair : (loads : List Load80) (x : Symbolic80) (s t : State80) (pair : Pair) (k : ℕ) → Denotes p s0 loads x s → AreSorted80 x → k < 0x10000 → add80 s pair k ≡ Ok t → Denotes p s0 loads (add_to_pair x pair k) t
  adds_to_pair loads x s t pair k d o lt e =
      let a = then_is (pair_num s pair) _ t e in
      let n = pair_number loads x s pair a.0 d o.held a.1 in
      let m = pair_sorted x pair o in
      let w = sum16 (pair_term x pair) (Num k) in
      subst (λ (u : State80). Denotes p s0 loads (add_to_pair x pair k) u) (ok_is _ t a.2)
      (sets_number keep sorts p s0 loads x s pair w (wrap (a.0 + k)) d (wrapped (a.0 + k)) (sorts.sum16 (pair_term x pair) (Num k) m (word_sorted k lt)) (sum_value (env80 s0 loads) (pair_term x pair) (Num k) a.0 k m (word_sorted k lt) n.0 lt n.1 (word_number (env80 s0 loads) k lt)))

  -- the carry of the sum of two words
  high_value : (e : Env80) (a : Term) (n : ℕ) → IsMadeAs is_word a → Val80 e a (word_of n) → Val80 e (high a) (Byte (NumCell (n / 256)))
  high_value e a n m v = (keep.on_8080 e).high a (Byte (NumCell (n / 256))) m (NumCell (n % 256), v)

  low_value : (e : Env80) (a : Term) (n : ℕ) → IsMadeAs is_word a → Val80 e a (word_of n) → Val80 e (low a) (Byte (NumCell (n % 256)))
  low_value e a n m v = (keep.on_8080 e).low a (Byte (NumCell (n % 256))) m (NumCell (n / 256), v)

  carry_value : (e : Env80) (a b : Term) (m n : ℕ) → IsMadeAs is_word a → IsMadeAs is_word b → Val80 e a (word_of m) → Val80 e b (word_of n) → Val80 e (carry_of a b) (OneBit (Some (nat_lt 0xFFFF (m + n))))
  carry_value e a b m n ma mb va vb =
      let low_sum = alu Add (low a) (low b) (Num 0) in
      let g = alu_gives keep sorts e Add (low a) (low b) (Num 0) (m % 256) (n % 256) false (sorts.low a ma) (sorts.low b mb) (omega arith, refl) (low_value e a m ma va) (low_value e b n mb vb) (zero_bit e) in
      let between = (all_flags keep sorts e low_sum x (sum8 (m % 256) (n % 256) 0) (flags_of Add (m % 256) (n % 256) 0) g).4 in
      let sorted = sorts.flag Cy low_sum (g.sorted Cy refl) in
      let c = carry8 (m % 256) (n % 256) 0 in
      let h = alu_gives keep sorts e Adc (high a) (high b) (flag Cy low_sum) (m / 256) (n / 256) c (sorts.high a ma) (sorts.high b mb) sorted (high_value e a m ma va) (high_value e b n mb vb) between in
      let carry = (all_flags keep sorts e (alu Adc (high a) (high b) (flag Cy low_sum)) x (sum8 (m / 256) (n / 256) (as_bit c)) (flags_of Adc (m / 256) (n / 256) (as_bit c)) h).4 in
      subst (λ k. Val80 e (carry_of a b) (OneBit (Some k))) (carry_is m n) carry
    where
      x : Held
      x = record { a = a; b = a; c = a; d = a; e = a; h = a; l = a; s = a; z = a; ac = a; p = a; cy = a }

  -- a byte in A, and CY
  pub sets_a : (loads : List Load80) (x : Symbolic80) (s : State80) (r : Term) (n : ℕ) → Denotes p s0 loads x s → Val80 (env80 s0 loads) r (Byte (NumCell n)) → n < 256 → Denotes p s0 loads (with_a x r) (with_a80 s (NumCell n))
  sets_a loads x s r n d v lt = sets_reg p s0 loads x s A r (NumCell n) d v lt

  pub sets_cy : (loads : List Load80) (x : Symbolic80) (s : State80) (c : Term) (b : Bool) → Denotes p s0 loads x s → Val80 (env80 s0 loads) c (OneBit (Some b)) → Denotes p s0 loads (with_held x (record (x.held) { cy = c })) (with_cy s b)
  sets_cy loads x s c b d v =
      let f = d.holds.in_flags in
      sets_flags keep sorts p s0 loads x s (record (x.held) { cy = c }) (record (s.flags) { cy = Some b }) d (same_cy x.held c) (f.0, f.1, f.2, f.3, v)

  pub adds_pair : (loads : List Load80) (x : Symbolic80) (s t : State80) (pair : Pair) → Denotes p s0 loads x s → AreSorted80 x → dad80 s pair ≡ Ok t → Denotes p s0 loads (dad x pair) t
  adds_pair loads x s t pair d o e =
      let a = then_is (pair_num s PairH) _ t e in
      let b = then_is (pair_num s pair) _ t a.2 in
      let v = pair_number loads x s PairH a.0 d o.held a.1 in
      let w = pair_number loads x s pair b.0 d o.held b.1 in
      let m = pair_sorted x PairH o in
      let k = pair_sorted x pair o in
      let sum = sum16 (pair_term x PairH) (pair_term x pair) in
      let value = sum_value (env80 s0 loads) (pair_term x PairH) (pair_term x pair) a.0 b.0 m k v.0 w.0 v.1 w.1 in
      let set = sets_number keep sorts p s0 loads x s PairH sum (wrap (a.0 + b.0)) d (wrapped (a.0 + b.0)) (sorts.sum16 (pair_term x PairH) (pair_term x pair) m k) value in
      let y = with_pair x PairH sum in
      let carry = carry_value (env80 s0 loads) (pair_term x PairH) (pair_term x pair) a.0 b.0 m k v.1 w.1 in
      subst (λ (u : State80). Denotes p s0 loads (dad x pair) u) (ok_is _ t b.2)
      (sets_cy loads y (with_num s PairH (wrap (a.0 + b.0))) (carry_of (pair_term x PairH) (pair_term x pair)) (nat_lt 0xFFFF (a.0 + b.0)) set carry)

  -- the number in A
  a_number : (loads : List Load80) (x : Symbolic80) (s : State80) (n : ℕ) → Denotes p s0 loads x s → num_or P5 s.regs.a ≡ Ok n → (n < 256) × Val80 (env80 s0 loads) x.held.a (Byte (NumCell n))
  a_number loads x s n d e =
      let is = number_is P5 s.regs.a n e in
      (subst (IsCell p) is (d.is_state.regs A), subst (λ (c : Cell). Val80 (env80 s0 loads) x.held.a (Byte c)) is (d.holds.in_regs A))

  adjusted_small : (n : ℕ) (h k : Bool) → daa_result n h k < 256
  adjusted_small n h k = omega arith

  -- DAA
  pub adjusts : (loads : List Load80) (x : Symbolic80) (s t : State80) → Denotes p s0 loads x s → HeldIsSorted x.held → daa80 s ≡ Ok t → Denotes p s0 loads (daa x) t
  adjusts loads x s t d h e =
      let a = then_is (num_or P5 s.regs.a) _ t e in
      let b = then_is (known s.flags.ac) _ t a.2 in
      let c = then_is (known s.flags.cy) _ t b.2 in
      by_excepted a.0 b.0 c.0 (daa_excepted a.0 b.0 c.0) refl (a_number loads x s a.0 d a.1).1 (known_is s.flags.ac b.0 b.1) (known_is s.flags.cy c.0 c.1) c.2
    where
      by_excepted : (n : ℕ) (half carry b : Bool) → daa_excepted n half carry ≡ b → Val80 (env80 s0 loads) x.held.a (Byte (NumCell n)) → s.flags.ac ≡ Some half → s.flags.cy ≡ Some carry → cond b (Err P7) (Ok (with_flags (with_a80 s (NumCell (daa_result n half carry))) (flags_by (daa_result n half carry) None (Some (daa_carry n half carry))))) ≡ Ok t → Denotes p s0 loads (daa x) t
      by_excepted n half carry true usual v eh ek e = absurd (err_is_not P7 t e)
      by_excepted n half carry false usual v eh ek e =
          let f = d.holds.in_flags in
          let vh = subst (λ o. Val80 (env80 s0 loads) x.held.ac (OneBit o)) eh f.2 in
          let vk = subst (λ o. Val80 (env80 s0 loads) x.held.cy (OneBit o)) ek f.4 in
          let r = adjust x.held.a x.held.ac x.held.cy in
          let g = adjust_gives keep sorts (env80 s0 loads) x.held.a x.held.ac x.held.cy n half carry h.a h.ac h.cy v vh vk usual in
          let m = daa_result n half carry in
          let set = sets_a loads x s r m d g.byte (adjusted_small n half carry) in
          let y = record (x.held) { a = r } in
          subst (λ (u : State80). Denotes p s0 loads (daa x) u) (ok_is _ t e)
          (sets_flags keep sorts p s0 loads (with_a x r) (with_a80 s (NumCell m)) (with_flags_of r y) (flags_by m None (Some (daa_carry n half carry))) set (same_all y r) (all_flags keep sorts (env80 s0 loads) r y m (flags_by m None (Some (daa_carry n half carry))) g))

  -- CMA
  pub inverts : (loads : List Load80) (x : Symbolic80) (s t : State80) → Denotes p s0 loads x s → HeldIsSorted x.held → cma s ≡ Ok t → Denotes p s0 loads (with_a x (alu Xra x.held.a (Num 0xFF) (Num 0))) t
  inverts loads x s t d h e =
      let a = then_is (num_or P5 s.regs.a) _ t e in
      let v = a_number loads x s a.0 d a.1 in
      let r = alu Xra x.held.a (Num 0xFF) (Num 0) in
      let g = alu_gives keep sorts (env80 s0 loads) Xra x.held.a (Num 0xFF) (Num 0) a.0 0xFF false h.a (byte_sorted 0xFF (omega arith)) (omega arith, refl) v.1 (byte_number (env80 s0 loads) 0xFF (omega arith)) (zero_bit (env80 s0 loads)) in
      let is = inverted_is a.0 v.0 in
      let small : 255 - a.0 < 256 = omega arith in
      subst (λ (u : State80). Denotes p s0 loads (with_a x r) u) (ok_is _ t a.2)
      (sets_a loads x s r (255 - a.0) d (subst (λ k. Val80 (env80 s0 loads) r (Byte (NumCell k))) is g.byte) small)

  -- CMC
  pub turns_cy : (loads : List Load80) (x : Symbolic80) (s t : State80) → Denotes p s0 loads x s → HeldIsSorted x.held → cmc s ≡ Ok t → Denotes p s0 loads (with_held x (record (x.held) { cy = alu Xra x.held.cy (Num 1) (Num 0) })) t
  turns_cy loads x s t d h e =
      let a = then_is (known s.flags.cy) _ t e in
      let b = a.0 in
      let v = subst (λ o. Val80 (env80 s0 loads) x.held.cy (OneBit o)) (known_is s.flags.cy b a.1) d.holds.in_flags.4 in
      let byte = bit_as_byte (env80 s0 loads) x.held.cy b h.cy v in
      let f = flags_of Xra (as_bit b) 1 0 in
      let value = (keep.on_8080 (env80 s0 loads)).alu Xra x.held.cy (Num 1) (Num 0) (OneBit (Some (not b))) (sorts.bits_are_bytes x.held.cy h.cy) (byte_sorted 1 (omega arith)) (omega arith, refl)
      (not b, f, (as_bit b, 1, false, byte, byte_number (env80 s0 loads) 1 (omega arith), zero_bit (env80 s0 loads), sym (turned_round b), refl), refl) in
      subst (λ (u : State80). Denotes p s0 loads (with_held x (record (x.held) { cy = alu Xra x.held.cy (Num 1) (Num 0) })) u) (ok_is _ t a.2)
      (sets_cy loads x s (alu Xra x.held.cy (Num 1) (Num 0)) (not b) d value)

  -- rotations
  turned_small : (kind n : ℕ) (k : Bool) → n < 256 → turn_result kind n k < 256
  turned_small zero n k lt = omega arith
  turned_small (suc zero) n k lt = by_bit (bit0 n)
    where
      by_bit : (b : Bool) → n / 2 + 128 * as_bit b < 256
      by_bit true = omega (arith, lt)
      by_bit false = omega (arith, lt)
  turned_small (suc (suc zero)) n k lt = omega arith
  turned_small (suc (suc (suc kind))) n k lt = by_bit k
    where
      by_bit : (b : Bool) → n / 2 + 128 * as_bit b < 256
      by_bit true = omega (arith, lt)
      by_bit false = omega (arith, lt)

  turns : (loads : List Load80) (x : Symbolic80) (s : State80) (kind : ℕ) (c : Term) (n : ℕ) (k : Bool) → kind < 4 → Denotes p s0 loads x s → HeldIsSorted x.held → IsMadeAs is_bit c → Val80 (env80 s0 loads) c (OneBit (Some k)) → (n < 256) × Val80 (env80 s0 loads) x.held.a (Byte (NumCell n)) → Denotes p s0 loads (turn_by x kind c) (with_cy (with_a80 s (NumCell (turn_result kind n k))) (turn_carry kind n))
  turns loads x s kind c n k few d h mc vc va =
      let e = env80 s0 loads in
      let r = turn kind x.held.a c in
      let m = turn_result kind n k in
      let f = turn_flags kind n in
      let is = (keep.on_8080 e).turn kind x.held.a c (ResultOf m f) h.a mc (n, k, va.1, vc, refl, refl) in
      let byte = (keep.on_8080 e).turn kind x.held.a c (Byte (NumCell m)) h.a mc (m, f, (n, k, va.1, vc, refl, refl), refl) in
      let made = sorts.turn kind x.held.a c few h.a mc in
      let carry = (keep.on_8080 e).flag Cy r (OneBit (Some (turn_carry kind n))) (made.0, leaves_cy (is_open x.held.a || is_open c)) (m, f, is, refl) in
      sets_cy loads (with_a x r) (with_a80 s (NumCell m)) (flag Cy r) (turn_carry kind n) (sets_a loads x s r m d byte (turned_small kind n k va.0)) carry
    where
      leaves_cy : (b : Bool) → leaves_flag Cy (cond b Unknown (Turn kind x.held.a c)) ≡ true
      leaves_cy true = refl
      leaves_cy false = refl

  pub turns_left : (loads : List Load80) (x : Symbolic80) (s t : State80) → Denotes p s0 loads x s → HeldIsSorted x.held → rlc s ≡ Ok t → Denotes p s0 loads (turn_by x 0 (Num 0)) t
  turns_left loads x s t d h e =
      let a = then_is (num_or P5 s.regs.a) _ t e in
      subst (λ (u : State80). Denotes p s0 loads (turn_by x 0 (Num 0)) u) (ok_is _ t a.2)
      (turns loads x s 0 (Num 0) a.0 false (omega arith) d h (omega arith, refl) (zero_bit (env80 s0 loads)) (a_number loads x s a.0 d a.1))

  pub turns_right : (loads : List Load80) (x : Symbolic80) (s t : State80) → Denotes p s0 loads x s → HeldIsSorted x.held → rrc s ≡ Ok t → Denotes p s0 loads (turn_by x 1 (Num 0)) t
  turns_right loads x s t d h e =
      let a = then_is (num_or P5 s.regs.a) _ t e in
      subst (λ (u : State80). Denotes p s0 loads (turn_by x 1 (Num 0)) u) (ok_is _ t a.2)
      (turns loads x s 1 (Num 0) a.0 false (omega arith) d h (omega arith, refl) (zero_bit (env80 s0 loads)) (a_number loads x s a.0 d a.1))

  cy_number : (loads : List Load80) (x : Symbolic80) (s : State80) (k : Bool) → Denotes p s0 loads x s → known s.flags.cy ≡ Ok k → Val80 (env80 s0 loads) x.held.cy (OneBit (Some k))
  cy_number loads x s k d e = subst (λ o. Val80 (env80 s0 loads) x.held.cy (OneBit o)) (known_is s.flags.cy k e) d.holds.in_flags.4

  pub turns_left_through : (loads : List Load80) (x : Symbolic80) (s t : State80) → Denotes p s0 loads x s → HeldIsSorted x.held → ral s ≡ Ok t → Denotes p s0 loads (turn_by x 2 x.held.cy) t
  turns_left_through loads x s t d h e =
      let a = then_is (num_or P5 s.regs.a) _ t e in
      let b = then_is (known s.flags.cy) _ t a.2 in
      subst (λ (u : State80). Denotes p s0 loads (turn_by x 2 x.held.cy) u) (ok_is _ t b.2)
      (turns loads x s 2 x.held.cy a.0 b.0 (omega arith) d h h.cy (cy_number loads x s b.0 d b.1) (a_number loads x s a.0 d a.1))

  pub turns_right_through : (loads : List Load80) (x : Symbolic80) (s t : State80) → Denotes p s0 loads x s → HeldIsSorted x.held → rar s ≡ Ok t → Denotes p s0 loads (turn_by x 3 x.held.cy) t
  turns_right_through loads x s t d h e =
      let a = then_is (num_or P5 s.regs.a) _ t e in
      let b = then_is (known s.flags.cy) _ t a.2 in
      subst (λ (u : State80). Denotes p s0 loads (turn_by x 3 x.held.cy) u) (ok_is _ t b.2)
      (turns loads x s 3 x.held.cy a.0 b.0 (omega arith) d h h.cy (cy_number loads x s b.0 d b.1) (a_number loads x s a.0 d a.1))

  -- XRA A and SUB A
  pub clears_a : (loads : List Load80) (x : Symbolic80) (s : State80) → Denotes p s0 loads x s → Denotes p s0 loads (with_held x (cleared x.held)) (cleared80 s)
  clears_a loads x s d =
      let set = sets_a loads x s (Num 0) 0 d (byte_number (env80 s0 loads) 0 (omega arith)) (omega arith) in
      sets_flags keep sorts p s0 loads (with_a x (Num 0)) (with_a80 s (NumCell 0)) (cleared x.held) (flags_by 0 None (Some false)) set (same_cleared x.held)
      (zero_bit (env80 s0 loads), one_bit (env80 s0 loads), refl, subst (λ b. Val80 (env80 s0 loads) (Num 1) (OneBit (Some b))) (sym zero_is_even) (one_bit (env80 s0 loads)), zero_bit (env80 s0 loads))
    where
      same_cleared : (y : Held) (r : Reg) → reg_term (cleared y) r ≡ reg_term (record y { a = Num 0 }) r
      same_cleared y A = refl
      same_cleared y B = refl
      same_cleared y C = refl
      same_cleared y D = refl
      same_cleared y E = refl
      same_cleared y H = refl
      same_cleared y L = refl
