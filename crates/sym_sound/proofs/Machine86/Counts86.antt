-- Counts, words, rotations, adjustment and the byte of flags.
use Rattle.std.proofs.Common.{◌≡◌, ℕ, ◌+◌, ◌-◌, ◌*◌, ◌/◌, ◌%◌, ◌<◌, Bool, true, false, cond, not, List, Some, None, refl, sym, ap, subst, ◌∙◌, arith, ◌==◌}
use Rattle.std.specs.Prelude.{nat_lt, ◌||◌}
use Rattle.cells.specs.declared.Flags.{Flags}
use Rattle.cells.specs.declared.Part.TheVariants.{S, Z, Ac, P, Cy}
use Rattle.cells.specs.Bits.{has_bit}
use Rattle.i80.specs.declared.Op.TheVariants.{Add, Adc as AddWithCarry, Sub, Xra, Ora}
use Rattle.i86.specs.declared.Reg8.{Reg8}
use Rattle.i86.specs.declared.Reg8.TheVariants.{Al, Cl, Ah}
use Rattle.i86.specs.declared.Reg16.{Reg16}
use Rattle.i86.specs.declared.Operand8.{Operand8}
use Rattle.i86.specs.declared.Operand8.TheVariants.{Reg, Mem}
use Rattle.i86.specs.declared.AluOp.TheVariants.{Or}
use Rattle.i86.specs.declared.Count.{Count}
use Rattle.i86.specs.declared.Count.TheVariants.{Inc, Dec}
use Rattle.i86.specs.declared.Rotate.{Rotate}
use Rattle.i86.specs.declared.Rotate.TheVariants.{Rol, Ror, Rcl, Rcr}
use Rattle.base.specs.Arithmetic.{as_bit, has_even_parity, sum8, carry8, difference8, borrow4, turned_left, turned_right, bit7, bit0, daa_adds_6, daa_result, daa_carry, daa_excepted}
use Rattle.base.specs.Operations.{flags_by as flags_by80, result_of, flags_of}
use Rattle.base.proofs.Bytes.{bit_small, turned_round, flag_bits, carry_is, inverted_is}
use Rattle.dialogue.specs.Choice.{byte_of}
use Rattle.cpu86.specs.State.{State86, Flags86, reg8, reg16, with16, operand8 as operand86, with_operand8}
use Rattle.cpu86.specs.Flags.{flags_by, alu_flags, count8_flags, count16_flags, add16_flags, rotate8_result, rotate8_carry, rotate16_result, bit15, chosen_flags, flag_byte as flag_byte86, flags_of_byte}
use Rattle.cpu86.specs.Effect.{set8, with_flags, with_cf as with_cf86, or_cl as or_cl86, count8 as count8_86, count16 as count16_86, add16 as add16_86, rotate8 as rotate8_86, rotate16 as rotate16_86, daa as daa86}
use Rattle.sym_terms.specs.Term.{Term, Num, Turn, Turned, Adjust, Unknown, is_bit, is_word, leaves_flag, is_open}
use Rattle.sym_terms.specs.Making.{alu, flag, sum16, high, low, turn, adjust, carry_of}
use Rattle.sym_terms.specs.Values80.{turn_result, turn_carry as turn_carry80, turn_flags}
use Rattle.sym_terms.specs.Values86.{Env86, Load86, Number, Result as ResultOf, Adjusts, Val86}
use Rattle.sym_terms.specs.Laws.{IsMadeAs, MadeTermsKeepValues, MadeTermsHaveSorts}
use Rattle.sym_terms.proofs.Sorts.{byte_sorted, word_sorted, leaves_open}
use Rattle.sym_block_def.specs.Outcome.{with_flags_of, with_count_flags_of, with_flags_in}
use Rattle.sym_block_def.specs.Block80.{cleared, flag_byte}
use Rattle.sym_block_def.specs.Symbolic86.{Symbolic86, reg8_term, with_reg8, reg16_term, with_reg16, with_held, with_cf, operand8, after_operand8, into_operand8, or_cl, count8, losing_flags, count_step, count16, add16, turn_kind, turn_carry, rotate8, brought_back, rotate16, daa}
use Rattle.simulation_def.specs.Runs86.{with_loads}
use Rattle.sym_sound.proofs.Machine86.Denoting.{Denotes, sets_byte, sets_flags}
use Rattle.sym_sound.proofs.Machine86.Words86.{Denoted, HasSorts, reg8_sorted, reg16_value, reg16_sorted, reg16_small, sets_word, fetches, puts}
use Rattle.sym_sound.proofs.Machine86.Alu86.{MayHave, Gives, alu_gives, all_flags, count_flags, same_flags_of, same_count_flags, same_cy, same_lost, same_in, same_cleared}

zero_is_even : has_even_parity 0 ≡ true
unfolding lib.Count.ones
zero_is_even = refl

sum_small : (x : ℕ) → sum8 x 1 0 < 256
sum_small x = omega arith

difference_small : (x : ℕ) → difference8 x 1 0 < 256
difference_small x = omega arith

-- bytes that are rotated
left_small : (n c : ℕ) → turned_left n c < 256
left_small n c = omega arith

right_small : (n : ℕ) (b : Bool) → n < 256 → turned_right n (as_bit b) < 256
right_small n true lt = omega (arith, lt)
right_small n false lt = omega (arith, lt)

rotated_small : (k : Rotate) (n : ℕ) (c : Bool) → n < 256 → rotate8_result k n c < 256
rotated_small Rol n c lt = left_small n (as_bit (bit7 n))
rotated_small Ror n c lt = right_small n (bit0 n) lt
rotated_small Rcl n c lt = left_small n (as_bit c)
rotated_small Rcr n c lt = right_small n c lt

-- words that are rotated
word_left_small : (n : ℕ) (b : Bool) → (2 * n + as_bit b) % 0x10000 < 0x10000
word_left_small n b = omega arith

word_right_small : (n : ℕ) (b : Bool) → n < 0x10000 → n / 2 + 0x8000 * as_bit b < 0x10000
word_right_small n true lt = omega (arith, lt)
word_right_small n false lt = omega (arith, lt)

rotated16_small : (k : Rotate) (n : ℕ) (c : Bool) → n < 0x10000 → rotate16_result k n c < 0x10000
rotated16_small Rol n c lt = word_left_small n (bit15 n)
rotated16_small Ror n c lt = word_right_small n (bit0 n) lt
rotated16_small Rcl n c lt = word_left_small n c
rotated16_small Rcr n c lt = word_right_small n c lt

-- the carry that was rotated in is the uppermost bit
uppermost : (n : ℕ) (b : Bool) → n < 0x10000 → (n / 2 + 0x8000 * as_bit b) / 0x8000 ≡ as_bit b
uppermost n true lt = omega (arith, lt)
uppermost n false lt = omega (arith, lt)

bit15_is : (n : ℕ) → n < 0x10000 → as_bit (bit15 n) ≡ n / 0x8000
bit15_is n lt = by_bit (bit15 n) refl
  where
    by_bit : (b : Bool) → bit15 n ≡ b → as_bit b ≡ n / 0x8000
    by_bit true h = grind (arith, h, lt)
    by_bit false h = grind (arith, h, lt)

module _ (keep : MadeTermsKeepValues) (sorts : MadeTermsHaveSorts) (e : Env86) (s0 : State86) where
  -- CF alone
  pub sets_cf : (loads : List Load86) (x : Symbolic86) (s : State86) (c : Term) (b : Bool) → Denotes e s0 loads x s → Val86 (with_loads e loads) c (Number (as_bit b)) → Denotes e s0 loads (with_cf x c) (with_cf86 s b)
  sets_cf loads x s c b d v =
      let f = d.in_flags in
      sets_flags e s0 loads x s (record (x.held) { cy = c }) (record (s.flags) { cf = b }) d (same_cy x c) (f.0, f.1, f.2, f.3, v)

  -- XOR AL,AL and SUB AL,AL
  pub clears : (loads : List Load86) (x : Symbolic86) (s : State86) (n : ℕ) (af : Bool) → Denotes e s0 loads x s → n ≡ 0 → Denotes e s0 loads (with_held x (cleared x.held)) (with_flags (set8 s Al n) (flags_by n af false))
  clears loads x s n af d is =
      subst (λ k. Denotes e s0 loads (with_held x (cleared x.held)) (with_flags (set8 s Al k) (flags_by k af false))) (sym is)
      (sets_flags e s0 loads (with_reg8 x Al (Num 0)) (set8 s Al 0) (cleared x.held) (flags_by 0 af false) (sets_byte e s0 loads x s Al (Num 0) 0 d (omega arith) refl) (same_cleared x x.held)
      (refl, refl, tt, ap as_bit zero_is_even, refl))

  -- OR CL,CL
  pub ors_cl : (loads : List Load86) (x : Symbolic86) (s : State86) (choice : ℕ) → Denotes e s0 loads x s → HasSorts x → Denotes e s0 loads (or_cl x) (or_cl86 s choice)
  ors_cl loads x s choice d o =
      let now = with_loads e loads in
      let c = s.regs.cl in
      let r = alu Ora x.held.c x.held.c (Num 0) in
      let g = alu_gives keep sorts now Ora x.held.c x.held.c (Num 0) c c false o.held.c o.held.c (omega arith, refl) (d.in_regs Cl) (d.in_regs Cl) refl in
      let n = result_of Ora c c 0 in
      let stored = sets_byte e s0 loads x s Cl r n d (or_small c (d.is_state.regs Cl)) g.number in
      let held = record (x.held) { c = r } in
      sets_flags e s0 loads (with_held x held) (set8 s Cl n) (with_flags_of r held) (alu_flags Or c c s.flags.cf choice) stored (same_flags_of x held r)
      (all_flags keep sorts now r held n (flags_of Ora c c 0) (alu_flags Or c c s.flags.cf choice) g (record { s = refl; z = refl; ac = bit_small (has_bit choice 0); p = refl; cy = refl }))
    where
      or_small : (n : ℕ) → n < 256 → result_of Ora n n 0 < 256
      or_small n lt = Rattle.std.proofs.lemmas.Nat.or_of_8 n n lt lt

  -- counts of bytes
  flags_kept : (s : State86) (o : Operand8) (n : ℕ) → (with_operand8 s o n).flags ≡ s.flags
  flags_kept s (Reg r) n = refl
  flags_kept s (Mem p) n = refl

  pub counts : (loads : List Load86) (x : Symbolic86) (s : State86) (c : Count) (o : Operand8) → Denotes e s0 loads x s → HasSorts x → Denoted e s0 (count8 x c o) (count8_86 s c o)
  counts loads x s Inc o d h =
      let f = fetches keep sorts e s0 loads x s o d h in
      let now = with_loads e f.loads in
      let n = operand86 s o in
      let r = alu Add (operand8 x o) (Num 1) (Num 0) in
      let g = alu_gives keep sorts now Add (operand8 x o) (Num 1) (Num 0) n 1 false f.sorted (byte_sorted 1 (omega arith)) (omega arith, refl) f.value refl refl in
      let stored = puts keep sorts e s0 f.loads (after_operand8 x o) s o r (sum8 n 1 0) f.denotes f.has_sorts (sum_small n) g.number in
      let y = into_operand8 (after_operand8 x o) o r in
      let k = count8_flags Inc n s.flags.cf in
      let kept = subst (λ (v : Flags86). Val86 now y.held.cy (Number (as_bit v.cf))) (flags_kept s o (sum8 n 1 0)) stored.in_flags.4 in
      record { loads = f.loads; denotes = sets_flags e s0 f.loads y (with_operand8 s o (sum8 n 1 0)) (with_count_flags_of r y.held) k stored (same_count_flags y y.held r) (count_flags keep sorts now r y.held (sum8 n 1 0) (flags_of Add n 1 0) k g refl refl refl refl kept) }
  counts loads x s Dec o d h =
      let f = fetches keep sorts e s0 loads x s o d h in
      let now = with_loads e f.loads in
      let n = operand86 s o in
      let r = alu Sub (operand8 x o) (Num 1) (Num 0) in
      let g = alu_gives keep sorts now Sub (operand8 x o) (Num 1) (Num 0) n 1 false f.sorted (byte_sorted 1 (omega arith)) (omega arith, refl) f.value refl refl in
      let stored = puts keep sorts e s0 f.loads (after_operand8 x o) s o r (difference8 n 1 0) f.denotes f.has_sorts (difference_small n) g.number in
      let y = into_operand8 (after_operand8 x o) o r in
      let k = count8_flags Dec n s.flags.cf in
      let kept = subst (λ (v : Flags86). Val86 now y.held.cy (Number (as_bit v.cf))) (flags_kept s o (difference8 n 1 0)) stored.in_flags.4 in
      record { loads = f.loads; denotes = sets_flags e s0 f.loads y (with_operand8 s o (difference8 n 1 0)) (with_count_flags_of r y.held) k stored (same_count_flags y y.held r) (count_flags keep sorts now r y.held (difference8 n 1 0) (flags_of Sub n 1 0) k g refl refl (bit_small (borrow4 n 1 0)) refl kept) }

  -- words: of SF, ZF, AF and PF nothing is said
  loses : (loads : List Load86) (x : Symbolic86) (s : State86) (f : Flags86) → Denotes e s0 loads x s → f.cf ≡ s.flags.cf → Denotes e s0 loads (losing_flags x) (with_flags s f)
  loses loads x s f d is =
      sets_flags e s0 loads x s (record (x.held) { s = Unknown; z = Unknown; ac = Unknown; p = Unknown }) f d (same_lost x)
      (tt, tt, tt, tt, subst (λ b. Val86 (with_loads e loads) x.held.cy (Number (as_bit b))) (sym is) d.in_flags.4)

  wrapped : (n : ℕ) → n % 0x10000 < 0x10000
  wrapped n = omega arith

  sum_value : (d : Env86) (a b : Term) (m n : ℕ) → IsMadeAs is_word a → IsMadeAs is_word b → m < 0x10000 → n < 0x10000 → Val86 d a (Number m) → Val86 d b (Number n) → Val86 d (sum16 a b) (Number ((m + n) % 0x10000))
  sum_value d a b m n ma mb lm ln va vb = (keep.on_8086 d).sum16 a b (Number ((m + n) % 0x10000)) ma mb (m, n, lm, ln, va, vb, refl)

  flags_of_word : (s : State86) (r : Reg16) (n : ℕ) → (with16 s r n).flags ≡ s.flags
  flags_of_word s Rattle.i86.specs.declared.Reg16.TheVariants.Ax n = refl
  flags_of_word s Rattle.i86.specs.declared.Reg16.TheVariants.Cx n = refl
  flags_of_word s Rattle.i86.specs.declared.Reg16.TheVariants.Dx n = refl
  flags_of_word s Rattle.i86.specs.declared.Reg16.TheVariants.Bx n = refl
  flags_of_word s Rattle.i86.specs.declared.Reg16.TheVariants.Sp n = refl
  flags_of_word s Rattle.i86.specs.declared.Reg16.TheVariants.Si n = refl

  counts_word : (loads : List Load86) (x : Symbolic86) (s : State86) (c : Count) (r : Reg16) (k : ℕ) → Denotes e s0 loads x s → HasSorts x → count_step c ≡ k → k < 0x10000 → (f : Flags86) → f.cf ≡ s.flags.cf → Denotes e s0 loads (losing_flags (with_reg16 x r (sum16 (reg16_term x r) (Num k)))) (with_flags (with16 s r ((reg16 s r + k) % 0x10000)) f)
  counts_word loads x s c r k d o is lt f kept =
      let n = reg16 s r in
      let w = sum16 (reg16_term x r) (Num k) in
      let m = reg16_sorted keep sorts e s0 x r o in
      let value = sum_value (with_loads e loads) (reg16_term x r) (Num k) n k m (word_sorted k lt) (reg16_small keep sorts e s0 loads x s r d) lt (reg16_value keep sorts e s0 loads x s r d o) refl in
      let set = sets_word keep sorts e s0 loads x s r w ((n + k) % 0x10000) d (wrapped (n + k)) (sorts.sum16 (reg16_term x r) (Num k) m (word_sorted k lt)) value in
      loses loads (with_reg16 x r w) (with16 s r ((n + k) % 0x10000)) f set (kept ∙ ap (λ (v : Flags86). v.cf) (sym (flags_of_word s r ((n + k) % 0x10000))))

  pub counts16 : (loads : List Load86) (x : Symbolic86) (s : State86) (c : Count) (r : Reg16) → Denotes e s0 loads x s → HasSorts x → Denotes e s0 loads (count16 x c r) (count16_86 s c r)
  counts16 loads x s Inc r d o = counts_word loads x s Inc r 1 d o refl (omega arith) (count16_flags Inc (reg16 s r) s.flags.cf) refl
  counts16 loads x s Dec r d o = counts_word loads x s Dec r 0xFFFF d o refl (omega arith) (count16_flags Dec (reg16 s r) s.flags.cf) refl

  carry_value : (d : Env86) (a b : Term) (m n : ℕ) → IsMadeAs is_word a → IsMadeAs is_word b → Val86 d a (Number m) → Val86 d b (Number n) → Val86 d (carry_of a b) (Number (as_bit (nat_lt 0xFFFF (m + n))))
  carry_value d a b m n ma mb va vb =
      let k = keep.on_8086 d in
      let la = k.low a (Number (m % 256)) ma (m, va, refl) in
      let lb = k.low b (Number (n % 256)) mb (n, vb, refl) in
      let ha = k.high a (Number (m / 256)) ma (m, va, refl) in
      let hb = k.high b (Number (n / 256)) mb (n, vb, refl) in
      let low_sum = alu Add (low a) (low b) (Num 0) in
      let g = alu_gives keep sorts d Add (low a) (low b) (Num 0) (m % 256) (n % 256) false (sorts.low a ma) (sorts.low b mb) (omega arith, refl) la lb refl in
      let c = carry8 (m % 256) (n % 256) 0 in
      let between = k.flag Cy low_sum (Number (as_bit c)) (g.sorted Cy refl) (sum8 (m % 256) (n % 256) 0, flags_of Add (m % 256) (n % 256) 0, g.result, refl) in
      let sorted = sorts.flag Cy low_sum (g.sorted Cy refl) in
      let high_sum = alu AddWithCarry (high a) (high b) (flag Cy low_sum) in
      let h = alu_gives keep sorts d AddWithCarry (high a) (high b) (flag Cy low_sum) (m / 256) (n / 256) c (sorts.high a ma) (sorts.high b mb) sorted ha hb between in
      let carry = k.flag Cy high_sum (Number (as_bit (carry8 (m / 256) (n / 256) (as_bit c)))) (h.sorted Cy refl) (sum8 (m / 256) (n / 256) (as_bit c), flags_of AddWithCarry (m / 256) (n / 256) (as_bit c), h.result, refl) in
      subst (λ q. Val86 d (carry_of a b) (Number (as_bit q))) (carry_is m n) carry

  pub adds16 : (loads : List Load86) (x : Symbolic86) (s : State86) (r q : Reg16) → Denotes e s0 loads x s → HasSorts x → Denotes e s0 loads (add16 x r q) (add16_86 s r q)
  adds16 loads x s r q d o =
      let now = with_loads e loads in
      let a = reg16 s r in
      let b = reg16 s q in
      let ma = reg16_sorted keep sorts e s0 x r o in
      let mb = reg16_sorted keep sorts e s0 x q o in
      let va = reg16_value keep sorts e s0 loads x s r d o in
      let vb = reg16_value keep sorts e s0 loads x s q d o in
      let w = sum16 (reg16_term x r) (reg16_term x q) in
      let n = (a + b) % 0x10000 in
      let value = sum_value now (reg16_term x r) (reg16_term x q) a b ma mb (reg16_small keep sorts e s0 loads x s r d) (reg16_small keep sorts e s0 loads x s q d) va vb in
      let set = sets_word keep sorts e s0 loads x s r w n d (wrapped (a + b)) (sorts.sum16 (reg16_term x r) (reg16_term x q) ma mb) value in
      let y = with_reg16 x r w in
      let t = with16 s r n in
      let f = record (add16_flags a b) { cf = t.flags.cf } in
      sets_cf loads (losing_flags y) (with_flags t f) (carry_of (reg16_term x r) (reg16_term x q)) (nat_lt 0xFFFF (a + b)) (loses loads y t f set refl) (carry_value now (reg16_term x r) (reg16_term x q) a b ma mb va vb)

  -- rotations of a byte
  turn_carry_is : (k : Rotate) (n : ℕ) → turn_carry80 (turn_kind k) n ≡ rotate8_carry k n
  turn_carry_is Rol n = refl
  turn_carry_is Ror n = refl
  turn_carry_is Rcl n = refl
  turn_carry_is Rcr n = refl

  kind_small : (k : Rotate) → turn_kind k < 4
  kind_small Rol = omega arith
  kind_small Ror = omega arith
  kind_small Rcl = omega arith
  kind_small Rcr = omega arith

  carry_in_is : (d : Env86) (k : Rotate) (c : Term) (b : Bool) → IsMadeAs is_bit c → Val86 d c (Number (as_bit b)) → (q : Bool) × IsMadeAs is_bit (turn_carry k c) × Val86 d (turn_carry k c) (Number (as_bit q)) × ((n : ℕ) → turn_result (turn_kind k) n q ≡ rotate8_result k n b)
  carry_in_is d Rol c b m v = (false, (omega arith, refl), refl, λ n. refl)
  carry_in_is d Ror c b m v = (false, (omega arith, refl), refl, λ n. refl)
  carry_in_is d Rcl c b m v = (b, m, v, λ n. refl)
  carry_in_is d Rcr c b m v = (b, m, v, λ n. refl)

  pub rotates : (loads : List Load86) (x : Symbolic86) (s : State86) (k : Rotate) (r : Reg8) → Denotes e s0 loads x s → HasSorts x → Denotes e s0 loads (rotate8 x k r) (rotate8_86 s k r)
  rotates loads x s k r d o =
      let now = with_loads e loads in
      let n = reg8 s.regs r in
      let a = reg8_term x r in
      let ma = reg8_sorted x o r in
      let c = carry_in_is now k x.held.cy s.flags.cf o.held.cy d.in_flags.4 in
      let kind = turn_kind k in
      let t = turn kind a (turn_carry k x.held.cy) in
      let m = turn_result kind n c.0 in
      let f = turn_flags kind n in
      let law = keep.on_8086 now in
      let is = law.turn kind a (turn_carry k x.held.cy) (ResultOf m f) ma c.1 (n, c.0, d.in_regs r, c.2, refl, refl) in
      let number = law.turn kind a (turn_carry k x.held.cy) (Number m) ma c.1 (f, (n, c.0, d.in_regs r, c.2, refl, refl)) in
      let made = sorts.turn kind a (turn_carry k x.held.cy) (kind_small k) ma c.1 in
      let carry = law.flag Cy t (Number (as_bit (turn_carry80 kind n))) (made.0, leaves_cy kind a (turn_carry k x.held.cy) (is_open a || is_open (turn_carry k x.held.cy))) (m, f, is, refl) in
      let value = subst (λ q. Val86 now t (Number q)) (c.3 n) number in
      let set = sets_byte e s0 loads x s r t (rotate8_result k n s.flags.cf) d (rotated_small k n s.flags.cf (d.is_state.regs r)) value in
      sets_cf loads (with_reg8 x r t) (set8 s r (rotate8_result k n s.flags.cf)) (flag Cy t) (rotate8_carry k n) set (subst (λ b. Val86 now (flag Cy t) (Number (as_bit b))) (turn_carry_is k n) carry)
    where
      leaves_cy : (kind : ℕ) (a c : Term) (b : Bool) → leaves_flag Cy (cond b Unknown (Turn kind a c)) ≡ true
      leaves_cy kind a c true = refl
      leaves_cy kind a c false = refl

  -- rotations of a word
  unknown_word : (loads : List Load86) (x : Symbolic86) (s : State86) (r : Reg16) (n : ℕ) (c : Term) (b : Bool) → Denotes e s0 loads x s → n < 0x10000 → Val86 (with_loads e loads) c (Number (as_bit b)) → Denotes e s0 loads (with_cf (with_reg16 x r Unknown) c) (with_cf86 (with16 s r n) b)
  unknown_word loads x s r n c b d lt v = sets_cf loads (with_reg16 x r Unknown) (with16 s r n) c b (sets_word keep sorts e s0 loads x s r Unknown n d lt (tt, refl) tt) v

  brought : (d : Env86) (w : Term) (n : ℕ) → n < 0x10000 → Val86 d w (Number n) → Val86 d (brought_back w) (Number (as_bit (bit15 n)))
  brought d (Turned c) n lt v = subst (λ k. Val86 d c (Number k)) (sym v.3 ∙ sym (bit15_is n lt)) v.2
  brought d w n lt v = tt

  pub rotates16 : (loads : List Load86) (x : Symbolic86) (s : State86) (k : Rotate) (r : Reg16) → Denotes e s0 loads x s → HasSorts x → Denotes e s0 loads (rotate16 x k r) (rotate16_86 s k r)
  rotates16 loads x s Rol r d o = let lt = reg16_small keep sorts e s0 loads x s r d in unknown_word loads x s r (rotate16_result Rol (reg16 s r) s.flags.cf) Unknown (bit15 (reg16 s r)) d (rotated16_small Rol (reg16 s r) s.flags.cf lt) tt
  rotates16 loads x s Ror r d o = let lt = reg16_small keep sorts e s0 loads x s r d in unknown_word loads x s r (rotate16_result Ror (reg16 s r) s.flags.cf) Unknown (bit0 (reg16 s r)) d (rotated16_small Ror (reg16 s r) s.flags.cf lt) tt
  rotates16 loads x s Rcl r d o =
      let lt = reg16_small keep sorts e s0 loads x s r d in
      unknown_word loads x s r (rotate16_result Rcl (reg16 s r) s.flags.cf) (brought_back (reg16_term x r)) (bit15 (reg16 s r)) d (rotated16_small Rcl (reg16 s r) s.flags.cf lt) (brought (with_loads e loads) (reg16_term x r) (reg16 s r) lt (reg16_value keep sorts e s0 loads x s r d o))
  rotates16 loads x s Rcr r d o =
      let lt = reg16_small keep sorts e s0 loads x s r d in
      let n = rotate16_result Rcr (reg16 s r) s.flags.cf in
      let small = rotated16_small Rcr (reg16 s r) s.flags.cf lt in
      let set = sets_word keep sorts e s0 loads x s r (Turned x.held.cy) n d small (sorts.turned x.held.cy o.held.cy) (small, s.flags.cf, d.in_flags.4, uppermost (reg16 s r) s.flags.cf lt) in
      sets_cf loads (with_reg16 x r (Turned x.held.cy)) (with16 s r n) Unknown (bit0 (reg16 s r)) set tt

  -- DAA
  adjusted_small : (n : ℕ) (h k : Bool) → daa_result n h k < 256
  adjusted_small n h k = omega arith

  byte_small : (c k : ℕ) → byte_of c k < 256
  byte_small c k = omega arith

  -- flags as an operation's flags
  abbrev as_flags : Flags86 → Flags
  as_flags f = record { s = Some f.sf; z = Some f.zf; ac = Some f.af; p = Some f.pf; cy = Some f.cf }

  pub adjusts : (loads : List Load86) (x : Symbolic86) (s : State86) (choice : ℕ) → Denotes e s0 loads x s → HasSorts x → Denotes e s0 loads (daa x) (daa86 s choice)
  adjusts loads x s choice d o = by_excepted (daa_excepted s.regs.al s.flags.af s.flags.cf) refl
    where
      now : Env86
      now = with_loads e loads

      gives : (n : ℕ) (f : Flags) → Adjusts (daa_excepted s.regs.al s.flags.af s.flags.cf) s.regs.al s.flags.af s.flags.cf n f → Gives (with_loads e loads) (adjust x.held.a x.held.ac x.held.cy) n f
      gives n f is =
          let made = sorts.adjust x.held.a x.held.ac x.held.cy o.held.a o.held.ac o.held.cy in
          let v = d.in_flags in
          record {
            result = (keep.on_8086 (with_loads e loads)).adjust x.held.a x.held.ac x.held.cy (ResultOf n f) o.held.a o.held.ac o.held.cy (s.regs.al, s.flags.af, s.flags.cf, d.in_regs Al, v.2, v.4, is);
            number = (keep.on_8086 (with_loads e loads)).adjust x.held.a x.held.ac x.held.cy (Number n) o.held.a o.held.ac o.held.cy (f, (s.regs.al, s.flags.af, s.flags.cf, d.in_regs Al, v.2, v.4, is));
            sorted = λ part i. (made.0, leaves_open (is_open x.held.a || (is_open x.held.ac || is_open x.held.cy)) (Adjust x.held.a x.held.ac x.held.cy) part i refl);
          }

      adjusted : (n : ℕ) (f : Flags) (g : Flags86) → n < 256 → Gives (with_loads e loads) (adjust x.held.a x.held.ac x.held.cy) n f → MayHave f g → Denotes e s0 loads (daa x) (with_flags (set8 s Al n) g)
      adjusted n f g lt h may =
          let r = adjust x.held.a x.held.ac x.held.cy in
          let y = record (x.held) { a = r } in
          sets_flags e s0 loads (with_held x y) (set8 s Al n) (with_flags_of r y) g (sets_byte e s0 loads x s Al r n d lt h.number) (same_flags_of x y r) (all_flags keep sorts (with_loads e loads) r y n f g h may)

      by_excepted : (b : Bool) → daa_excepted s.regs.al s.flags.af s.flags.cf ≡ b → Denotes e s0 loads (daa x) (with_flags (set8 s Al (cond (daa_excepted s.regs.al s.flags.af s.flags.cf) (byte_of choice 0) (daa_result s.regs.al s.flags.af s.flags.cf))) (cond (daa_excepted s.regs.al s.flags.af s.flags.cf) (chosen_flags choice 8) (flags_by (daa_result s.regs.al s.flags.af s.flags.cf) (daa_adds_6 s.regs.al s.flags.af) (daa_carry s.regs.al s.flags.af s.flags.cf))))
      by_excepted true is =
          let n = byte_of choice 0 in
          let g = chosen_flags choice 8 in
          let a = adjusted n (as_flags g) g (byte_small choice 0) (gives n (as_flags g) (subst (λ b. Adjusts b s.regs.al s.flags.af s.flags.cf n (as_flags g)) (sym is) (byte_small choice 0))) (record { s = refl; z = refl; ac = refl; p = refl; cy = refl }) in
          subst (λ b. Denotes e s0 loads (daa x) (with_flags (set8 s Al (cond b (byte_of choice 0) (daa_result s.regs.al s.flags.af s.flags.cf))) (cond b (chosen_flags choice 8) (flags_by (daa_result s.regs.al s.flags.af s.flags.cf) (daa_adds_6 s.regs.al s.flags.af) (daa_carry s.regs.al s.flags.af s.flags.cf))))) (sym is) a
      by_excepted false is =
          let n = daa_result s.regs.al s.flags.af s.flags.cf in
          let f = flags_by80 n None (Some (daa_carry s.regs.al s.flags.af s.flags.cf)) in
          let g = flags_by n (daa_adds_6 s.regs.al s.flags.af) (daa_carry s.regs.al s.flags.af s.flags.cf) in
          let a = adjusted n f g (adjusted_small s.regs.al s.flags.af s.flags.cf) (gives n f (subst (λ b. Adjusts b s.regs.al s.flags.af s.flags.cf n f) (sym is) (refl, refl))) (record { s = refl; z = refl; ac = bit_small (daa_adds_6 s.regs.al s.flags.af); p = refl; cy = refl }) in
          subst (λ b. Denotes e s0 loads (daa x) (with_flags (set8 s Al (cond b (byte_of choice 0) (daa_result s.regs.al s.flags.af s.flags.cf))) (cond b (chosen_flags choice 8) (flags_by (daa_result s.regs.al s.flags.af s.flags.cf) (daa_adds_6 s.regs.al s.flags.af) (daa_carry s.regs.al s.flags.af s.flags.cf))))) (sym is) a

  -- NOT
  pub inverts : (loads : List Load86) (x : Symbolic86) (s : State86) (r : Reg8) → Denotes e s0 loads x s → HasSorts x → Denotes e s0 loads (with_reg8 x r (alu Xra (reg8_term x r) (Num 0xFF) (Num 0))) (set8 s r (255 - reg8 s.regs r))
  inverts loads x s r d o =
      let n = reg8 s.regs r in
      let t = alu Xra (reg8_term x r) (Num 0xFF) (Num 0) in
      let g = alu_gives keep sorts (with_loads e loads) Xra (reg8_term x r) (Num 0xFF) (Num 0) n 0xFF false (reg8_sorted x o r) (byte_sorted 0xFF (omega arith)) (omega arith, refl) (d.in_regs r) refl refl in
      let small : 255 - n < 256 = omega arith in
      sets_byte e s0 loads x s r t (255 - n) d small (subst (λ k. Val86 (with_loads e loads) t (Number k)) (inverted_is n (d.is_state.regs r)) g.number)

  -- CMC
  pub turns_cf : (loads : List Load86) (x : Symbolic86) (s : State86) → Denotes e s0 loads x s → HasSorts x → Denotes e s0 loads (with_cf x (alu Xra x.held.cy (Num 1) (Num 0))) (with_cf86 s (not s.flags.cf))
  turns_cf loads x s d o =
      let c = s.flags.cf in
      let t = alu Xra x.held.cy (Num 1) (Num 0) in
      let g = alu_gives keep sorts (with_loads e loads) Xra x.held.cy (Num 1) (Num 0) (as_bit c) 1 false (sorts.bits_are_bytes x.held.cy o.held.cy) (byte_sorted 1 (omega arith)) (omega arith, refl) d.in_flags.4 refl refl in
      sets_cf loads x s t (not c) d (subst (λ k. Val86 (with_loads e loads) t (Number k)) (turned_round c) g.number)

  -- LAHF and SAHF
  pub loads_flags : (loads : List Load86) (x : Symbolic86) (s : State86) (choice : ℕ) → Denotes e s0 loads x s → Denotes e s0 loads (record x { ah = flag_byte x.held }) (set8 s Ah (flag_byte86 s.flags choice))
  loads_flags loads x s choice d =
      let f = s.flags in
      let n = flag_byte86 f choice in
      let b = flag_bits n f.sf f.zf (has_bit choice 2) f.af (has_bit choice 1) f.pf (has_bit choice 0) f.cf refl in
      let v = d.in_flags in
      let now = with_loads e loads in
      sets_byte e s0 loads x s Ah (flag_byte x.held) n d b.0 (
        b.0,
        subst (λ q. Val86 now x.held.s (Number (as_bit q))) (sym b.1) v.0,
        subst (λ q. Val86 now x.held.z (Number (as_bit q))) (sym b.2) v.1,
        subst (λ q. Val86 now x.held.ac (Number (as_bit q))) (sym b.3) v.2,
        subst (λ q. Val86 now x.held.p (Number (as_bit q))) (sym b.4) v.3,
        subst (λ q. Val86 now x.held.cy (Number (as_bit q))) (sym b.5) v.4,
      )

  pub stores_flags : (loads : List Load86) (x : Symbolic86) (s : State86) → Denotes e s0 loads x s → HasSorts x → Denotes e s0 loads (with_held x (with_flags_in x.ah x.held)) (with_flags s (flags_of_byte s.regs.ah))
  stores_flags loads x s d o =
      let k = keep.on_8086 (with_loads e loads) in
      let n = s.regs.ah in
      let v = d.in_regs Ah in
      let f = flags_of_byte n in
      let whole : n / 1 ≡ n = omega arith in
      let is_c : has_bit n 0 ≡ f.cf = ap (λ q. q % 2 == 1) whole in
      sets_flags e s0 loads x s (with_flags_in x.ah x.held) f d (same_in x x.held x.ah) (
        k.bit x.ah S (Number (as_bit f.sf)) o.ah refl (n, f.sf, v, refl, refl),
        k.bit x.ah Z (Number (as_bit f.zf)) o.ah refl (n, f.zf, v, refl, refl),
        k.bit x.ah Ac (Number (as_bit f.af)) o.ah refl (n, f.af, v, refl, refl),
        k.bit x.ah P (Number (as_bit f.pf)) o.ah refl (n, f.pf, v, refl, refl),
        k.bit x.ah Cy (Number (as_bit f.cf)) o.ah refl (n, f.cf, v, ap Some is_c, refl),
      )
