-- Arithmetic: where the tagged machine runs on, the bytes stand for what it knows afterwards.
use Rattle.std.proofs.Common.{◌≡◌, ℕ, ◌+◌, ◌-◌, ◌<◌, Bool, true, false, cond, not, Option, Some, None, Ok, Err, refl, sym, ap, subst, ◌∙◌, arith}
use Rattle.std.specs.Prelude.{nat_lt, bit_xor, unwrap_or}
use Rattle.std.specs.Int.Bits.{xor_self}
use Rattle.cells.specs.declared.Flags.{Flags}
use Rattle.cells.specs.declared.Cell.{Cell}
use Rattle.cells.specs.declared.Cell.TheVariants.{Num}
use Rattle.cells.specs.declared.Rule.TheVariants.{P5, P6, P7}
use Rattle.cells.specs.Conditions.{Knows}
use Rattle.cells.specs.Bits.{has_bit}
use Rattle.i80.specs.declared.Reg.TheVariants.{A}
use Rattle.i80.specs.declared.Src.{Src}
use Rattle.i80.specs.declared.Src.TheVariants.{Reg as InReg, Mem}
use Rattle.i80.specs.declared.Pair.{Pair}
use Rattle.i80.specs.declared.Pair.TheVariants.{H as PairH}
use Rattle.i80.specs.declared.Op.{Op}
use Rattle.i80.specs.declared.Op.TheVariants.{Add, Adc, Sub, Sbb, Ana, Xra, Ora, Cmp}
use Rattle.dialogue.specs.Tried.{try_then}
use Rattle.dialogue.specs.Words.{wrap}
use Rattle.dialogue.specs.Choice.{byte_of}
use Rattle.base.specs.Arithmetic.{as_bit, sum8, difference8, borrow8, turned_left, turned_right, bit7, bit0, daa_result, daa_carry, daa_excepted}
use Rattle.base.specs.Operations.{flags_by, result_of, flags_of}
use Rattle.base.proofs.Bytes.{bit_small, result_small}
use Rattle.asm80_types.specs.Program.{Program}
use Rattle.cpu80_tagged.specs.State.{State80, reg80, with_num, with_a as with_a80, with_flags as with_flags80, with_cy as with_cy80, num_or}
use Rattle.cpu80_tagged.specs.Memory.{address, read_at, may_write}
use Rattle.cpu80_tagged.specs.Effect.{source as source80, into as into80, known, carry_for as carry_for80, a_after as a_after80, alu_with, cleared, alu as alu80, counted, counted_up as counted_up80, counted_down as counted_down80, inr as inr80, dcr as dcr80, pair_num, add_to_pair as add_to_pair80, dad as dad80, daa_of, daa as daa80, cma as cma80, cmc as cmc80, rlc, rrc, ral, rar}
use Rattle.cpu80.specs.State.{UntaggedState, reg, pair_word, with_word, with_a, with_flags, with_cy}
use Rattle.cpu80.specs.Flags.{settled, chosen_flags}
use Rattle.cpu80.specs.Effect.{source, into, carry_for, a_after, computed, alu, counted_up, counted_down, inr, dcr, add_to_pair, added, dad, adjusted, daa, turned}
use Rattle.dialogue.proofs.Tried.{ok_is, then_is, err_is_not}
use Rattle.cpu80.proofs.Stands.{Stands, FlagsStand, StatesStand, reg_stands, sets_flags, number, number_is}
use Rattle.cpu80.proofs.MovesStand.{reads, address_is, pair_is, sets_a, sets_word, source_stands, into_stands}

-- flags

kept : (o : Option Bool) (b : Bool) → Knows o (unwrap_or o b)
kept None b = tt
kept (Some v) b = refl

pub settles : (f : Flags) (choice : ℕ) → FlagsStand f (settled f choice)
settles f choice =
    let b = has_bit choice 0 in
    record { s = kept f.s b; z = kept f.z b; ac = kept f.ac b; p = kept f.p b; cy = kept f.cy b }

flag_is : (o : Option Bool) (v b : Bool) → Knows o b → known o ≡ Ok v → b ≡ v
flag_is None v b h e = absurd (err_is_not P6 v e)
flag_is (Some w) v b h e = h ∙ ok_is w v e

a_after_stands : (op : Op) (v : Cell) (a n : ℕ) → Stands v a → n < 256 → Stands (a_after80 op v n) (a_after op a n)
a_after_stands Add v a n h lt = number n lt
a_after_stands Adc v a n h lt = number n lt
a_after_stands Sub v a n h lt = number n lt
a_after_stands Sbb v a n h lt = number n lt
a_after_stands Ana v a n h lt = number n lt
a_after_stands Xra v a n h lt = number n lt
a_after_stands Ora v a n h lt = number n lt
a_after_stands Cmp v a n h lt = h

bit_is : (o : Option Bool) (n : ℕ) (b : Bool) → Knows o b → try_then (known o) (λ c. Ok (as_bit c)) ≡ Ok n → as_bit b ≡ n
bit_is o n b h e = let v = then_is (known o) _ n e in ap as_bit (flag_is o v.0 b h v.1) ∙ ok_is _ n v.2

difference_self : (n : ℕ) → n < 256 → difference8 n n 0 ≡ 0
difference_self n lt = omega (arith, lt)

borrow_self : (n : ℕ) → borrow8 n n 0 ≡ false
borrow_self n = grind arith

sum_small : (x : ℕ) → sum8 x 1 0 < 256
sum_small x = omega arith

difference_small : (x : ℕ) → difference8 x 1 0 < 256
difference_small x = omega arith

wrap_small : (w : ℕ) → wrap w < 0x10000
wrap_small w = omega arith

adjusted_small : (n : ℕ) (h k : Bool) → daa_result n h k < 256
adjusted_small n h k = omega arith

inverted_small : (x : ℕ) → 255 - x < 256
inverted_small x = omega arith

left_small : (x c : ℕ) → turned_left x c < 256
left_small x c = omega arith

right_small : (x c : ℕ) → x < 256 → c < 2 → turned_right x c < 256
right_small x c hx hc = omega (arith, hx, hc)

module _ {p : Program} {held : ℕ → ℕ} where
  pub sets_cy : (s : State80) (u : UntaggedState) (c : Bool) → StatesStand p held s u → StatesStand p held (with_cy80 s c) (with_cy u c)
  sets_cy s u c d = sets_flags s u _ _ d (record { s = d.flags.s; z = d.flags.z; ac = d.flags.ac; p = d.flags.p; cy = refl })

  -- operations

  carry_is : (op : Op) (s : State80) (u : UntaggedState) (n : ℕ) → StatesStand p held s u → carry_for80 op s.flags ≡ Ok n → carry_for op u.flags ≡ n
  carry_is Add s u n d e = ok_is 0 n e
  carry_is Adc s u n d e = bit_is s.flags.cy n u.flags.cy d.flags.cy e
  carry_is Sub s u n d e = ok_is 0 n e
  carry_is Sbb s u n d e = bit_is s.flags.cy n u.flags.cy d.flags.cy e
  carry_is Ana s u n d e = ok_is 0 n e
  carry_is Xra s u n d e = ok_is 0 n e
  carry_is Ora s u n d e = ok_is 0 n e
  carry_is Cmp s u n d e = ok_is 0 n e

  computed_stands : (s : State80) (u : UntaggedState) (op : Op) (x y c choice : ℕ) → StatesStand p held s u → x < 256 → y < 256 → StatesStand p held (with_flags80 (with_a80 s (a_after80 op s.regs.a (result_of op x y c))) (flags_of op x y c)) (computed u op x y c choice)
  computed_stands s u op x y c choice d hx hy =
      sets_flags (with_a80 s (a_after80 op s.regs.a (result_of op x y c))) (with_a u (a_after op u.regs.a (result_of op x y c))) (flags_of op x y c) (settled (flags_of op x y c) choice)
      (sets_a s u _ _ d (a_after_stands op s.regs.a u.regs.a (result_of op x y c) d.regs.a (result_small op x y c hx hy))) (settles (flags_of op x y c) choice)

  pub alu_with_stands : (s t : State80) (u : UntaggedState) (op : Op) (v : Cell) (b choice : ℕ) → StatesStand p held s u → Stands v b → alu_with s op v ≡ Ok t → StatesStand p held t (alu u op b choice)
  alu_with_stands s t u op v b choice d h e =
      let x = then_is (num_or P5 s.regs.a) _ t e in
      let y = then_is (num_or P5 v) _ t x.2 in
      let c = then_is (carry_for80 op s.flags) _ t y.2 in
      let is_x = number_is P5 s.regs.a x.0 u.regs.a d.regs.a x.1 in
      let is_y = number_is P5 v y.0 b h y.1 in
      let is_c = carry_is op s u c.0 d c.1 in
      subst (λ k. StatesStand p held k (alu u op b choice)) (ok_is _ t c.2)
      (subst (λ k. StatesStand p held (with_flags80 (with_a80 s (a_after80 op s.regs.a (result_of op k y.0 c.0))) (flags_of op k y.0 c.0)) (alu u op b choice)) is_x
      (subst (λ k. StatesStand p held (with_flags80 (with_a80 s (a_after80 op s.regs.a (result_of op u.regs.a k c.0))) (flags_of op u.regs.a k c.0)) (alu u op b choice)) is_y
      (subst (λ k. StatesStand p held (with_flags80 (with_a80 s (a_after80 op s.regs.a (result_of op u.regs.a b k))) (flags_of op u.regs.a b k)) (alu u op b choice)) is_c
      (computed_stands s u op u.regs.a b (carry_for op u.flags) choice d d.regs.a.small h.small))))

  -- XRA A and SUB A

  cleared_stands : (s : State80) (u : UntaggedState) (n choice : ℕ) (c : Bool) → StatesStand p held s u → n ≡ 0 → c ≡ false → StatesStand p held (cleared s) (with_flags (with_a u n) (settled (flags_by n None (Some c)) choice))
  cleared_stands s u n choice c d zero none =
      subst (λ k. StatesStand p held (cleared s) (with_flags (with_a u k) (settled (flags_by k None (Some c)) choice))) (sym zero)
      (subst (λ k. StatesStand p held (cleared s) (with_flags (with_a u 0) (settled (flags_by 0 None (Some k)) choice))) (sym none)
      (sets_flags (with_a80 s (Num 0)) (with_a u 0) (flags_by 0 None (Some false)) (settled (flags_by 0 None (Some false)) choice) (sets_a s u (Num 0) 0 d (number 0 (omega arith))) (settles (flags_by 0 None (Some false)) choice)))

  pub alu_stands : (s t : State80) (u : UntaggedState) (op : Op) (from : Src) (choice : ℕ) → StatesStand p held s u → alu80 p s op from ≡ Ok t → StatesStand p held t (alu u op (source u from) choice)
  alu_stands s t u Xra (InReg A) choice d e =
      subst (λ k. StatesStand p held k (alu u Xra u.regs.a choice)) (ok_is _ t e) (cleared_stands s u (bit_xor u.regs.a u.regs.a) choice false d (xor_self u.regs.a) refl)
  alu_stands s t u Sub (InReg A) choice d e =
      subst (λ k. StatesStand p held k (alu u Sub u.regs.a choice)) (ok_is _ t e) (cleared_stands s u (difference8 u.regs.a u.regs.a 0) choice (borrow8 u.regs.a u.regs.a 0) d (difference_self u.regs.a d.regs.a.small) (borrow_self u.regs.a))
  alu_stands s t u op from choice d e =
      let v = then_is (source80 p s from) (alu_with s op) t e in
      alu_with_stands s t u op v.0 (source u from) choice d (source_stands p s u from v.0 d v.1) v.2

  -- counts

  counted_is : (s : State80) (u : UntaggedState) (on : Src) (n : ℕ) → StatesStand p held s u → counted p s on ≡ Ok n → source u on ≡ n
  counted_is s u (InReg r) n d e = number_is P5 (reg80 s.regs r) n (reg u.regs r) (reg_stands s.regs u.regs r d.regs) e
  counted_is s u Mem n d e =
      let a = then_is (address s.regs.h s.regs.l) _ n e in
      let v = then_is (read_at p s a.0) _ n a.2 in
      let w = then_is (may_write p a.0) _ n v.2 in
      ap u.mem (address_is s u a.0 d a.1) ∙ number_is P5 v.0 n (u.mem a.0) (reads p s u a.0 v.0 d v.1) w.2

  counted_up_stands : (s : State80) (u : UntaggedState) (x choice : ℕ) → StatesStand p held s u → StatesStand p held (counted_up80 s x) (counted_up u x choice)
  counted_up_stands s u x choice d = sets_flags s u _ _ d (record { s = refl; z = refl; ac = refl; p = refl; cy = d.flags.cy })

  counted_down_stands : (s : State80) (u : UntaggedState) (x choice : ℕ) → StatesStand p held s u → StatesStand p held (counted_down80 s x) (counted_down u x choice)
  counted_down_stands s u x choice d = sets_flags s u _ _ d (record { s = refl; z = refl; ac = tt; p = refl; cy = d.flags.cy })

  pub inr_stands : (s t : State80) (u : UntaggedState) (on : Src) (choice : ℕ) → StatesStand p held s u → inr80 p s on ≡ Ok t → StatesStand p held t (inr u on choice)
  inr_stands s t u on choice d e =
      let x = then_is (counted p s on) _ t e in
      let w = then_is (into80 p s on (Num (sum8 x.0 1 0))) _ t x.2 in
      let stored = into_stands p s w.0 u on (Num (sum8 x.0 1 0)) (sum8 x.0 1 0) d (number (sum8 x.0 1 0) (sum_small x.0)) w.1 in
      subst (λ k. StatesStand p held k (inr u on choice)) (ok_is _ t w.2)
      (subst (λ k. StatesStand p held (counted_up80 w.0 x.0) (counted_up (into u on (sum8 k 1 0)) k choice)) (sym (counted_is s u on x.0 d x.1)) (counted_up_stands w.0 (into u on (sum8 x.0 1 0)) x.0 choice stored))

  pub dcr_stands : (s t : State80) (u : UntaggedState) (on : Src) (choice : ℕ) → StatesStand p held s u → dcr80 p s on ≡ Ok t → StatesStand p held t (dcr u on choice)
  dcr_stands s t u on choice d e =
      let x = then_is (counted p s on) _ t e in
      let w = then_is (into80 p s on (Num (difference8 x.0 1 0))) _ t x.2 in
      let stored = into_stands p s w.0 u on (Num (difference8 x.0 1 0)) (difference8 x.0 1 0) d (number (difference8 x.0 1 0) (difference_small x.0)) w.1 in
      subst (λ k. StatesStand p held k (dcr u on choice)) (ok_is _ t w.2)
      (subst (λ k. StatesStand p held (counted_down80 w.0 x.0) (counted_down (into u on (difference8 k 1 0)) k choice)) (sym (counted_is s u on x.0 d x.1)) (counted_down_stands w.0 (into u on (difference8 x.0 1 0)) x.0 choice stored))

  -- pairs

  pub add_to_pair_stands : (s t : State80) (u : UntaggedState) (pair : Pair) (k : ℕ) → StatesStand p held s u → add_to_pair80 s pair k ≡ Ok t → StatesStand p held t (add_to_pair u pair k)
  add_to_pair_stands s t u pair k d e =
      let w = then_is (pair_num s pair) _ t e in
      subst (λ z. StatesStand p held z (add_to_pair u pair k)) (ok_is _ t w.2)
      (subst (λ n. StatesStand p held (with_num s pair (wrap (w.0 + k))) (with_word u pair (wrap (n + k)))) (sym (pair_is P5 s u pair w.0 d w.1)) (sets_word s u pair (wrap (w.0 + k)) d (wrap_small (w.0 + k))))

  pub dad_stands : (s t : State80) (u : UntaggedState) (pair : Pair) → StatesStand p held s u → dad80 s pair ≡ Ok t → StatesStand p held t (dad u pair)
  dad_stands s t u pair d e =
      let x = then_is (pair_num s PairH) _ t e in
      let y = then_is (pair_num s pair) _ t x.2 in
      let made = sets_cy (with_num s PairH (wrap (x.0 + y.0))) (with_word u PairH (wrap (x.0 + y.0))) (nat_lt 0xFFFF (x.0 + y.0)) (sets_word s u PairH (wrap (x.0 + y.0)) d (wrap_small (x.0 + y.0))) in
      subst (λ z. StatesStand p held z (dad u pair)) (ok_is _ t y.2)
      (subst (λ n. StatesStand p held (with_cy80 (with_num s PairH (wrap (x.0 + y.0))) (nat_lt 0xFFFF (x.0 + y.0))) (added u n (pair_word u pair))) (sym (pair_is P5 s u PairH x.0 d x.1))
      (subst (λ n. StatesStand p held (with_cy80 (with_num s PairH (wrap (x.0 + y.0))) (nat_lt 0xFFFF (x.0 + y.0))) (added u x.0 n)) (sym (pair_is P5 s u pair y.0 d y.1)) made))

  -- DAA, CMA and CMC

  daa_of_stands : (s t : State80) (u : UntaggedState) (x : ℕ) (ac cy : Bool) (choice : ℕ) → StatesStand p held s u → daa_of s x ac cy ≡ Ok t → StatesStand p held t (adjusted u x ac cy choice)
  daa_of_stands s t u x ac cy choice d e = by_excepted (daa_excepted x ac cy) e
    where
      by_excepted : (b : Bool) → cond b (Err P7) (Ok (with_flags80 (with_a80 s (Num (daa_result x ac cy))) (flags_by (daa_result x ac cy) None (Some (daa_carry x ac cy))))) ≡ Ok t → StatesStand p held t (cond b (with_flags (with_a u (byte_of choice 0)) (chosen_flags choice 8)) (with_flags (with_a u (daa_result x ac cy)) (settled (flags_by (daa_result x ac cy) None (Some (daa_carry x ac cy))) choice)))
      by_excepted true h = absurd (err_is_not P7 t h)
      by_excepted false h =
          subst (λ k. StatesStand p held k (with_flags (with_a u (daa_result x ac cy)) (settled (flags_by (daa_result x ac cy) None (Some (daa_carry x ac cy))) choice))) (ok_is _ t h)
          (sets_flags (with_a80 s (Num (daa_result x ac cy))) (with_a u (daa_result x ac cy)) _ _ (sets_a s u (Num (daa_result x ac cy)) (daa_result x ac cy) d (number (daa_result x ac cy) (adjusted_small x ac cy))) (settles (flags_by (daa_result x ac cy) None (Some (daa_carry x ac cy))) choice))

  pub daa_stands : (s t : State80) (u : UntaggedState) (choice : ℕ) → StatesStand p held s u → daa80 s ≡ Ok t → StatesStand p held t (daa u choice)
  daa_stands s t u choice d e =
      let x = then_is (num_or P5 s.regs.a) _ t e in
      let a = then_is (known s.flags.ac) _ t x.2 in
      let c = then_is (known s.flags.cy) _ t a.2 in
      subst (λ k. StatesStand p held t (adjusted u k u.flags.ac u.flags.cy choice)) (sym (number_is P5 s.regs.a x.0 u.regs.a d.regs.a x.1))
      (subst (λ k. StatesStand p held t (adjusted u x.0 k u.flags.cy choice)) (sym (flag_is s.flags.ac a.0 u.flags.ac d.flags.ac a.1))
      (subst (λ k. StatesStand p held t (adjusted u x.0 a.0 k choice)) (sym (flag_is s.flags.cy c.0 u.flags.cy d.flags.cy c.1)) (daa_of_stands s t u x.0 a.0 c.0 choice d c.2)))

  pub cma_stands : (s t : State80) (u : UntaggedState) → StatesStand p held s u → cma80 s ≡ Ok t → StatesStand p held t (with_a u (255 - u.regs.a))
  cma_stands s t u d e =
      let x = then_is (num_or P5 s.regs.a) _ t e in
      subst (λ k. StatesStand p held k (with_a u (255 - u.regs.a))) (ok_is _ t x.2)
      (subst (λ k. StatesStand p held (with_a80 s (Num (255 - k))) (with_a u (255 - u.regs.a))) (number_is P5 s.regs.a x.0 u.regs.a d.regs.a x.1) (sets_a s u (Num (255 - u.regs.a)) (255 - u.regs.a) d (number (255 - u.regs.a) (inverted_small u.regs.a))))

  pub cmc_stands : (s t : State80) (u : UntaggedState) → StatesStand p held s u → cmc80 s ≡ Ok t → StatesStand p held t (with_cy u (not u.flags.cy))
  cmc_stands s t u d e =
      let c = then_is (known s.flags.cy) _ t e in
      subst (λ k. StatesStand p held k (with_cy u (not u.flags.cy))) (ok_is _ t c.2)
      (subst (λ k. StatesStand p held (with_cy80 s (not k)) (with_cy u (not u.flags.cy))) (flag_is s.flags.cy c.0 u.flags.cy d.flags.cy c.1) (sets_cy s u (not u.flags.cy) d))

  -- rotations

  turned_stands : (s : State80) (u : UntaggedState) (v : ℕ) (c : Bool) → StatesStand p held s u → v < 256 → StatesStand p held (with_cy80 (with_a80 s (Num v)) c) (turned u v c)
  turned_stands s u v c d lt = sets_cy (with_a80 s (Num v)) (with_a u v) c (sets_a s u (Num v) v d (number v lt))

  pub rlc_stands : (s t : State80) (u : UntaggedState) → StatesStand p held s u → rlc s ≡ Ok t → StatesStand p held t (turned u (turned_left u.regs.a (as_bit (bit7 u.regs.a))) (bit7 u.regs.a))
  rlc_stands s t u d e =
      let x = then_is (num_or P5 s.regs.a) _ t e in
      let v = turned_left u.regs.a (as_bit (bit7 u.regs.a)) in
      subst (λ k. StatesStand p held k (turned u v (bit7 u.regs.a))) (ok_is _ t x.2)
      (subst (λ k. StatesStand p held (with_cy80 (with_a80 s (Num (turned_left k (as_bit (bit7 k))))) (bit7 k)) (turned u v (bit7 u.regs.a))) (number_is P5 s.regs.a x.0 u.regs.a d.regs.a x.1) (turned_stands s u v (bit7 u.regs.a) d (left_small u.regs.a (as_bit (bit7 u.regs.a)))))

  pub rrc_stands : (s t : State80) (u : UntaggedState) → StatesStand p held s u → rrc s ≡ Ok t → StatesStand p held t (turned u (turned_right u.regs.a (as_bit (bit0 u.regs.a))) (bit0 u.regs.a))
  rrc_stands s t u d e =
      let x = then_is (num_or P5 s.regs.a) _ t e in
      let v = turned_right u.regs.a (as_bit (bit0 u.regs.a)) in
      subst (λ k. StatesStand p held k (turned u v (bit0 u.regs.a))) (ok_is _ t x.2)
      (subst (λ k. StatesStand p held (with_cy80 (with_a80 s (Num (turned_right k (as_bit (bit0 k))))) (bit0 k)) (turned u v (bit0 u.regs.a))) (number_is P5 s.regs.a x.0 u.regs.a d.regs.a x.1) (turned_stands s u v (bit0 u.regs.a) d (right_small u.regs.a (as_bit (bit0 u.regs.a)) d.regs.a.small (bit_small (bit0 u.regs.a)))))

  pub ral_stands : (s t : State80) (u : UntaggedState) → StatesStand p held s u → ral s ≡ Ok t → StatesStand p held t (turned u (turned_left u.regs.a (as_bit u.flags.cy)) (bit7 u.regs.a))
  ral_stands s t u d e =
      let x = then_is (num_or P5 s.regs.a) _ t e in
      let c = then_is (known s.flags.cy) _ t x.2 in
      let v = turned_left u.regs.a (as_bit u.flags.cy) in
      subst (λ k. StatesStand p held k (turned u v (bit7 u.regs.a))) (ok_is _ t c.2)
      (subst (λ k. StatesStand p held (with_cy80 (with_a80 s (Num (turned_left k (as_bit c.0)))) (bit7 k)) (turned u v (bit7 u.regs.a))) (number_is P5 s.regs.a x.0 u.regs.a d.regs.a x.1)
      (subst (λ k. StatesStand p held (with_cy80 (with_a80 s (Num (turned_left u.regs.a (as_bit k)))) (bit7 u.regs.a)) (turned u v (bit7 u.regs.a))) (flag_is s.flags.cy c.0 u.flags.cy d.flags.cy c.1) (turned_stands s u v (bit7 u.regs.a) d (left_small u.regs.a (as_bit u.flags.cy)))))

  pub rar_stands : (s t : State80) (u : UntaggedState) → StatesStand p held s u → rar s ≡ Ok t → StatesStand p held t (turned u (turned_right u.regs.a (as_bit u.flags.cy)) (bit0 u.regs.a))
  rar_stands s t u d e =
      let x = then_is (num_or P5 s.regs.a) _ t e in
      let c = then_is (known s.flags.cy) _ t x.2 in
      let v = turned_right u.regs.a (as_bit u.flags.cy) in
      subst (λ k. StatesStand p held k (turned u v (bit0 u.regs.a))) (ok_is _ t c.2)
      (subst (λ k. StatesStand p held (with_cy80 (with_a80 s (Num (turned_right k (as_bit c.0)))) (bit0 k)) (turned u v (bit0 u.regs.a))) (number_is P5 s.regs.a x.0 u.regs.a d.regs.a x.1)
      (subst (λ k. StatesStand p held (with_cy80 (with_a80 s (Num (turned_right u.regs.a (as_bit k)))) (bit0 u.regs.a)) (turned u v (bit0 u.regs.a))) (flag_is s.flags.cy c.0 u.flags.cy d.flags.cy c.1) (turned_stands s u v (bit0 u.regs.a) d (right_small u.regs.a (as_bit u.flags.cy) d.regs.a.small (bit_small u.flags.cy)))))
