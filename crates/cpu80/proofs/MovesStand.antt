-- Moves, loads, stores and the stack: where the tagged machine runs on, the bytes stand for what it knows afterwards.
use Rattle.std.proofs.Common.{◌≡◌, ℕ, ◌+◌, ◌*◌, ◌/◌, ◌%◌, ◌<◌, ◌==◌, ◌&&◌, ◌||◌, nat_le, nat_lt, Bool, false, Ok, refl, sym, ap, subst, ◌∙◌, arith}
use Rattle.std.proofs.lemmas.Bool.{or_parts}
use Rattle.cells.specs.declared.Place.TheVariants.{At}
use Rattle.cells.specs.declared.Cell.{Cell}
use Rattle.cells.specs.declared.Cell.TheVariants.{Num, Lo, Hi, Psw as PswCell, Junk}
use Rattle.cells.specs.declared.Rule.{Rule}
use Rattle.cells.specs.declared.Rule.TheVariants.{P2, P3, P4, P8}
use Rattle.cells.specs.Bits.{has_bit}
use Rattle.cells.specs.Conditions.{Knows}
use Rattle.i80.specs.declared.Src.{Src}
use Rattle.i80.specs.declared.Src.TheVariants.{Reg as InReg, Mem}
use Rattle.i80.specs.declared.Pair.{Pair}
use Rattle.i80.specs.declared.Pair.TheVariants.{B as PairB, D as PairD, H as PairH, Sp}
use Rattle.i80.specs.declared.StackPair.{StackPair}
use Rattle.i80.specs.declared.StackPair.TheVariants.{B as StackB, D as StackD, H as StackH, Psw}
use Rattle.dialogue.specs.Tried.{try_then}
use Rattle.dialogue.specs.ByteMemory.{put}
use Rattle.dialogue.specs.Words.{wrap}
use Rattle.base.specs.Operations.{flags_in}
use Rattle.base.proofs.Bytes.{flag_bits}
use Rattle.asm80_types.specs.Program.{Program, is_code}
use Rattle.cpu80_tagged.specs.State.{State80, high_of, low_of, with_bc as with_bc80, with_de as with_de80, with_hl as with_hl80, with_num, with_a as with_a80, num_or}
use Rattle.cpu80_tagged.specs.Memory.{is_closed, is_write_protected, unless_then, put as put80, address, word_fits, read_at, may_write, write_at, Halves, read_word, write_word}
use Rattle.cpu80_tagged.specs.Effect.{source as source80, into as into80, lda as lda80, sta as sta80, lhld as lhld80, xchg as xchg80, xthl as xthl80, sphl as sphl80, push as push80, push_pair as push_pair80, popped as popped80, pop_pair as pop_pair80}
use Rattle.cpu80_tagged.proofs.Passing.{unless_is, within}
use Rattle.cpu80.specs.State.{UntaggedState, pair_word, with_bc, with_de, with_hl, with_word, with_a, next, put_word}
use Rattle.cpu80.specs.Flags.{flag_byte, flags_in_byte}
use Rattle.cpu80.specs.Effect.{source, into, store, lda, lhld, shld, xchg, xthl, push, push_pair, popped, pop_pair}
use Rattle.dialogue.proofs.Tried.{ok_is, then_is}
use Rattle.cpu80.proofs.Stands.{Stands, FlagsStand, StatesStand, reg_stands, set_stands, put_stands, sets_regs, sets_flags, sets_cells, sets_sp, number, word_is, word_small}

next_is : (n : ℕ) (x : Bool) → n < 0x10000 → word_fits n ≡ Ok x → n + 1 ≡ next n
next_is n x lt e = let h = within n lt (unless_is (n == 0xFFFF) P4 x e) in omega (arith, h)

pub high_small : (n : ℕ) → n < 0x10000 → n / 256 < 256
high_small n lt = omega (arith, lt)

pub low_small : (n : ℕ) → n % 256 < 256
low_small n = omega arith

-- the flags that POP PSW takes
flags_in_stand : (v : Cell) (b : ℕ) → Stands v b → FlagsStand (flags_in v) (flags_in_byte b)
flags_in_stand (Num n) b h = record {
  s = ap (λ k. has_bit k 7) h.means;
  z = ap (λ k. has_bit k 6) h.means;
  ac = ap (λ k. has_bit k 4) h.means;
  p = ap (λ k. has_bit k 2) h.means;
  cy = ap (λ k. has_bit k 0) h.means;
}
flags_in_stand (Lo q) b h = record { s = tt; z = tt; ac = tt; p = tt; cy = tt }
flags_in_stand (Hi q) b h = record { s = tt; z = tt; ac = tt; p = tt; cy = tt }
flags_in_stand (PswCell f) b h = record { s = h.means.s; z = h.means.z; ac = h.means.ac; p = h.means.p; cy = h.means.cy }
flags_in_stand Junk b h = record { s = tt; z = tt; ac = tt; p = tt; cy = tt }

-- the halves of a code address
pub high_of_place : (a : ℕ) → a < 0x10000 → Stands (Hi (At a)) (a / 256)
high_of_place a lt = record { means = refl; small = high_small a lt }

pub low_of_place : (a : ℕ) → Stands (Lo (At a)) (a % 256)
low_of_place a = record { means = refl; small = low_small a }

pub record WordStands (w : Halves) (u : UntaggedState) (n : ℕ) : Type 0 where
  pub high : Stands w.high (u.mem (next n))
  pub low : Stands w.low (u.mem n)

-- a cell that may be written is none of an instruction
pub unprotected_free : (p : Program) (n : ℕ) → is_write_protected p n ≡ false → is_code p n ≡ false
unprotected_free p n e =
    let closed = (or_parts (is_closed p n) (n == 6 || n == 7) e).0 in
    let high = (or_parts (nat_lt n 6) ((nat_le 8 n && nat_lt n 0x5C) || (nat_le p.top n || is_code p n)) closed).1 in
    let top = (or_parts (nat_le 8 n && nat_lt n 0x5C) (nat_le p.top n || is_code p n) high).1 in
    (or_parts (nat_le p.top n) (is_code p n) top).1

free_is : (p : Program) (n : ℕ) (x : Bool) → may_write p n ≡ Ok x → is_code p n ≡ false
free_is p n x e = unprotected_free p n (unless_is (is_write_protected p n) P3 x e)

-- a flag byte
flag_byte_stands : (s : State80) (u : UntaggedState) (choice : ℕ) → FlagsStand s.flags u.flags → Stands (PswCell s.flags) (flag_byte u.flags choice)
flag_byte_stands s u choice d =
    let f = u.flags in
    let n = flag_byte f choice in
    let b = flag_bits n f.s f.z (has_bit choice 2) f.ac (has_bit choice 1) f.p (has_bit choice 0) f.cy refl in
    record {
      means = record {
        s = subst (Knows s.flags.s) (sym b.1) d.s;
        z = subst (Knows s.flags.z) (sym b.2) d.z;
        ac = subst (Knows s.flags.ac) (sym b.3) d.ac;
        p = subst (Knows s.flags.p) (sym b.4) d.p;
        cy = subst (Knows s.flags.cy) (sym b.5) d.cy;
      };
      small = b.0;
    }

module _ {p : Program} {held : ℕ → ℕ} where
  -- addresses
  pub address_is : (s : State80) (u : UntaggedState) (n : ℕ) → StatesStand p held s u → address s.regs.h s.regs.l ≡ Ok n → pair_word u PairH ≡ n
  address_is s u n d e = word_is P8 s.regs.h s.regs.l u.regs.h u.regs.l n d.regs.h d.regs.l e

  pub pair_is : (r : Rule) (s : State80) (u : UntaggedState) (pair : Pair) (n : ℕ) → StatesStand p held s u → try_then (num_or r (high_of s pair)) (λ x. try_then (num_or r (low_of s pair)) (λ y. Ok (256 * x + y))) ≡ Ok n → pair_word u pair ≡ n
  pair_is r s u PairB n d e = word_is r s.regs.b s.regs.c u.regs.b u.regs.c n d.regs.b d.regs.c e
  pair_is r s u PairD n d e = word_is r s.regs.d s.regs.e u.regs.d u.regs.e n d.regs.d d.regs.e e
  pair_is r s u PairH n d e = word_is r s.regs.h s.regs.l u.regs.h u.regs.l n d.regs.h d.regs.l e
  pair_is r s u Sp n d e = let whole : s.sp ≡ 256 * (s.sp / 256) + s.sp % 256 = omega arith in d.sp ∙ whole ∙ ok_is _ n e

  pub pair_small : (s : State80) (u : UntaggedState) (pair : Pair) → StatesStand p held s u → pair_word u pair < 0x10000
  pair_small s u PairB d = word_small u.regs.b u.regs.c d.regs.b.small d.regs.c.small
  pair_small s u PairD d = word_small u.regs.d u.regs.e d.regs.d.small d.regs.e.small
  pair_small s u PairH d = word_small u.regs.h u.regs.l d.regs.h.small d.regs.l.small
  pair_small s u Sp d = subst (λ n. n < 0x10000) (sym d.sp) d.sp_small

  -- pairs of registers

  pub sets_bc : (s : State80) (u : UntaggedState) (h l : Cell) (a b : ℕ) → StatesStand p held s u → Stands h a → Stands l b → StatesStand p held (with_bc80 s h l) (with_bc u a b)
  sets_bc s u h l a b d ha lb = sets_regs s u (record (s.regs) { b = h; c = l }) (record (u.regs) { b = a; c = b }) d (record { a = d.regs.a; b = ha; c = lb; d = d.regs.d; e = d.regs.e; h = d.regs.h; l = d.regs.l })

  pub sets_de : (s : State80) (u : UntaggedState) (h l : Cell) (a b : ℕ) → StatesStand p held s u → Stands h a → Stands l b → StatesStand p held (with_de80 s h l) (with_de u a b)
  sets_de s u h l a b d ha lb = sets_regs s u (record (s.regs) { d = h; e = l }) (record (u.regs) { d = a; e = b }) d (record { a = d.regs.a; b = d.regs.b; c = d.regs.c; d = ha; e = lb; h = d.regs.h; l = d.regs.l })

  pub sets_hl : (s : State80) (u : UntaggedState) (h l : Cell) (a b : ℕ) → StatesStand p held s u → Stands h a → Stands l b → StatesStand p held (with_hl80 s h l) (with_hl u a b)
  sets_hl s u h l a b d ha lb = sets_regs s u (record (s.regs) { h = h; l = l }) (record (u.regs) { h = a; l = b }) d (record { a = d.regs.a; b = d.regs.b; c = d.regs.c; d = d.regs.d; e = d.regs.e; h = ha; l = lb })

  pub sets_a : (s : State80) (u : UntaggedState) (v : Cell) (b : ℕ) → StatesStand p held s u → Stands v b → StatesStand p held (with_a80 s v) (with_a u b)
  sets_a s u v b d h = sets_regs s u (record (s.regs) { a = v }) (record (u.regs) { a = b }) d (record { a = h; b = d.regs.b; c = d.regs.c; d = d.regs.d; e = d.regs.e; h = d.regs.h; l = d.regs.l })

  pub sets_word : (s : State80) (u : UntaggedState) (pair : Pair) (w : ℕ) → StatesStand p held s u → w < 0x10000 → StatesStand p held (with_num s pair w) (with_word u pair w)
  sets_word s u PairB w d lt = sets_bc s u (Num (w / 256)) (Num (w % 256)) (w / 256) (w % 256) d (number (w / 256) (high_small w lt)) (number (w % 256) (low_small w))
  sets_word s u PairD w d lt = sets_de s u (Num (w / 256)) (Num (w % 256)) (w / 256) (w % 256) d (number (w / 256) (high_small w lt)) (number (w % 256) (low_small w))
  sets_word s u PairH w d lt = sets_hl s u (Num (w / 256)) (Num (w % 256)) (w / 256) (w % 256) d (number (w / 256) (high_small w lt)) (number (w % 256) (low_small w))
  sets_word s u Sp w d lt = sets_sp s u w d lt

module _ (p : Program) {held : ℕ → ℕ} where
  -- cells

  pub reads : (s : State80) (u : UntaggedState) (n : ℕ) (v : Cell) → StatesStand p held s u → read_at p s n ≡ Ok v → Stands v (u.mem n)
  reads s u n v d e =
      let o = then_is (unless_then (is_closed p n) P2) _ v e in
      subst (λ w. Stands w (u.mem n)) (ok_is (s.mem n) v o.2) (d.mem.each n)

  pub writes : (s t : State80) (u : UntaggedState) (n : ℕ) (v : Cell) (b : ℕ) → StatesStand p held s u → Stands v b → write_at p s n v ≡ Ok t → StatesStand p held t (store u n b)
  writes s t u n v b d h e =
      let o = then_is (may_write p n) _ t e in
      subst (λ w. StatesStand p held w (store u n b)) (ok_is _ t o.2) (sets_cells s u (put80 s.mem n v) (put u.mem n b) d (put_stands s.mem u.mem n v b d.mem h (free_is p n o.0 o.1)))

  pub reads_word : (s : State80) (u : UntaggedState) (n : ℕ) (w : Halves) → StatesStand p held s u → n < 0x10000 → read_word p s n ≡ Ok w → WordStands w u n
  reads_word s u n w d lt e =
      let f = then_is (word_fits n) _ w e in
      let l = then_is (read_at p s n) _ w f.2 in
      let h = then_is (read_at p s (n + 1)) _ w l.2 in
      let made : WordStands (record { high = h.0; low = l.0 }) u n = record {
        high = subst (λ k. Stands h.0 (u.mem k)) (next_is n f.0 lt f.1) (reads s u (n + 1) h.0 d h.1);
        low = reads s u n l.0 d l.1;
      } in
      subst (λ (k : Halves). WordStands k u n) (ok_is _ w h.2) made

  pub writes_word : (s t : State80) (u : UntaggedState) (n : ℕ) (high low : Cell) (a b : ℕ) → StatesStand p held s u → n < 0x10000 → Stands high a → Stands low b → write_word p s n high low ≡ Ok t → StatesStand p held t (record u { mem = put_word u.mem n a b })
  writes_word s t u n high low a b d lt ha lb e =
      let f = then_is (word_fits n) _ t e in
      let l = then_is (may_write p n) _ t f.2 in
      let h = then_is (may_write p (n + 1)) _ t l.2 in
      let first = put_stands s.mem u.mem n low b d.mem lb (free_is p n l.0 l.1) in
      let second = put_stands (put80 s.mem n low) (put u.mem n b) (n + 1) high a first ha (free_is p (n + 1) h.0 h.1) in
      let made = subst (λ k. StatesStand p held (record s { mem = put80 (put80 s.mem n low) (n + 1) high }) (record u { mem = put (put u.mem n b) k a })) (next_is n f.0 lt f.1) (sets_cells s u (put80 (put80 s.mem n low) (n + 1) high) (put (put u.mem n b) (n + 1) a) d second) in
      subst (λ k. StatesStand p held k (record u { mem = put_word u.mem n a b })) (ok_is _ t h.2) made

  -- moves

  pub source_stands : (s : State80) (u : UntaggedState) (from : Src) (v : Cell) → StatesStand p held s u → source80 p s from ≡ Ok v → Stands v (source u from)
  source_stands s u (InReg r) v d e = subst (λ w. Stands w (source u (InReg r))) (ok_is _ v e) (reg_stands s.regs u.regs r d.regs)
  source_stands s u Mem v d e =
      let a = then_is (address s.regs.h s.regs.l) _ v e in
      subst (λ k. Stands v (u.mem k)) (sym (address_is s u a.0 d a.1)) (reads s u a.0 v d a.2)

  pub into_stands : (s t : State80) (u : UntaggedState) (to : Src) (v : Cell) (b : ℕ) → StatesStand p held s u → Stands v b → into80 p s to v ≡ Ok t → StatesStand p held t (into u to b)
  into_stands s t u (InReg r) v b d h e =
      subst (λ w. StatesStand p held w (into u (InReg r) b)) (ok_is _ t e) (sets_regs s u _ _ d (set_stands s.regs u.regs r v b d.regs h))
  into_stands s t u Mem v b d h e =
      let a = then_is (address s.regs.h s.regs.l) _ t e in
      subst (λ k. StatesStand p held t (store u k b)) (sym (address_is s u a.0 d a.1)) (writes s t u a.0 v b d h a.2)

  pub mov : (s t : State80) (u : UntaggedState) (to from : Src) → StatesStand p held s u → try_then (source80 p s from) (into80 p s to) ≡ Ok t → StatesStand p held t (into u to (source u from))
  mov s t u to from d e =
      let v = then_is (source80 p s from) (into80 p s to) t e in
      into_stands s t u to v.0 (source u from) d (source_stands s u from v.0 d v.1) v.2

  pub lda_stands : (s t : State80) (u : UntaggedState) (n : ℕ) → StatesStand p held s u → lda80 p s n ≡ Ok t → StatesStand p held t (lda u n)
  lda_stands s t u n d e =
      let v = then_is (read_at p s n) _ t e in
      subst (λ w. StatesStand p held w (lda u n)) (ok_is _ t v.2) (sets_a s u v.0 (u.mem n) d (reads s u n v.0 d v.1))

  pub ldax_stands : (s t : State80) (u : UntaggedState) (pair : Pair) → StatesStand p held s u → try_then (address (high_of s pair) (low_of s pair)) (lda80 p s) ≡ Ok t → StatesStand p held t (lda u (pair_word u pair))
  ldax_stands s t u pair d e =
      let a = then_is (address (high_of s pair) (low_of s pair)) (lda80 p s) t e in
      subst (λ k. StatesStand p held t (lda u k)) (sym (pair_is P8 s u pair a.0 d a.1)) (lda_stands s t u a.0 d a.2)

  pub sta_stands : (s t : State80) (u : UntaggedState) (n : ℕ) → StatesStand p held s u → sta80 p s n ≡ Ok t → StatesStand p held t (store u n u.regs.a)
  sta_stands s t u n d e = writes s t u n s.regs.a u.regs.a d d.regs.a e

  pub stax_stands : (s t : State80) (u : UntaggedState) (pair : Pair) → StatesStand p held s u → try_then (address (high_of s pair) (low_of s pair)) (sta80 p s) ≡ Ok t → StatesStand p held t (store u (pair_word u pair) u.regs.a)
  stax_stands s t u pair d e =
      let a = then_is (address (high_of s pair) (low_of s pair)) (sta80 p s) t e in
      subst (λ k. StatesStand p held t (store u k u.regs.a)) (sym (pair_is P8 s u pair a.0 d a.1)) (sta_stands s t u a.0 d a.2)

  pub lhld_stands : (s t : State80) (u : UntaggedState) (n : ℕ) → StatesStand p held s u → n < 0x10000 → lhld80 p s n ≡ Ok t → StatesStand p held t (lhld u n)
  lhld_stands s t u n d lt e =
      let w = then_is (read_word p s n) _ t e in
      let h = reads_word s u n w.0 d lt w.1 in
      subst (λ k. StatesStand p held k (lhld u n)) (ok_is _ t w.2) (sets_hl s u w.0.high w.0.low (u.mem (next n)) (u.mem n) d h.high h.low)

  pub shld_stands : (s t : State80) (u : UntaggedState) (n : ℕ) → StatesStand p held s u → n < 0x10000 → write_word p s n s.regs.h s.regs.l ≡ Ok t → StatesStand p held t (shld u n)
  shld_stands s t u n d lt e = writes_word s t u n s.regs.h s.regs.l u.regs.h u.regs.l d lt d.regs.h d.regs.l e

  pub xchg_stands : (s : State80) (u : UntaggedState) → StatesStand p held s u → StatesStand p held (xchg80 s) (xchg u)
  xchg_stands s u d = sets_regs s u _ _ d (record { a = d.regs.a; b = d.regs.b; c = d.regs.c; d = d.regs.h; e = d.regs.l; h = d.regs.d; l = d.regs.e })

  pub xthl_stands : (s t : State80) (u : UntaggedState) → StatesStand p held s u → xthl80 p s ≡ Ok t → StatesStand p held t (xthl u)
  xthl_stands s t u d e =
      let w = then_is (read_word p s s.sp) _ t e in
      let v = then_is (write_word p s s.sp s.regs.h s.regs.l) _ t w.2 in
      let h = reads_word s u s.sp w.0 d d.sp_small w.1 in
      let stored = shld_stands s v.0 u s.sp d d.sp_small v.1 in
      let made = sets_hl v.0 (shld u s.sp) w.0.high w.0.low (u.mem (next s.sp)) (u.mem s.sp) stored h.high h.low in
      subst (λ k. StatesStand p held k (xthl u)) (ok_is _ t v.2)
      (subst (λ n. StatesStand p held (with_hl80 v.0 w.0.high w.0.low) (with_hl (shld u n) (u.mem (next n)) (u.mem n))) (sym d.sp) made)

  pub sphl_stands : (s t : State80) (u : UntaggedState) → StatesStand p held s u → sphl80 s ≡ Ok t → StatesStand p held t (record u { sp = pair_word u PairH })
  sphl_stands s t u d e =
      let a = then_is (address s.regs.h s.regs.l) _ t e in
      let same = address_is s u a.0 d a.1 in
      subst (λ k. StatesStand p held k (record u { sp = pair_word u PairH })) (ok_is _ t a.2)
      (subst (λ n. StatesStand p held (record s { sp = n }) (record u { sp = pair_word u PairH })) same (sets_sp s u (pair_word u PairH) d (pair_small s u PairH d)))

  -- the stack

  pub push_stands : (s t : State80) (u : UntaggedState) (high low : Cell) (a b : ℕ) → StatesStand p held s u → Stands high a → Stands low b → push80 p s high low ≡ Ok t → StatesStand p held t (push u a b)
  push_stands s t u high low a b d ha lb e =
      let below = wrap (s.sp + 0xFFFE) in
      let small : below < 0x10000 = omega arith in
      let v = then_is (write_word p s below high low) _ t e in
      let made = sets_sp v.0 (record u { mem = put_word u.mem below a b }) below (writes_word s v.0 u below high low a b d small ha lb v.1) small in
      subst (λ k. StatesStand p held k (push u a b)) (ok_is _ t v.2)
      (subst (λ n. StatesStand p held (record (v.0) { sp = below }) (record u { mem = put_word u.mem (wrap (n + 0xFFFE)) a b; sp = wrap (n + 0xFFFE) })) (sym d.sp) made)

  pub push_pair_stands : (s t : State80) (u : UntaggedState) (pair : StackPair) (choice : ℕ) → StatesStand p held s u → push_pair80 p s pair ≡ Ok t → StatesStand p held t (push_pair u pair choice)
  push_pair_stands s t u StackB choice d e = push_stands s t u s.regs.b s.regs.c u.regs.b u.regs.c d d.regs.b d.regs.c e
  push_pair_stands s t u StackD choice d e = push_stands s t u s.regs.d s.regs.e u.regs.d u.regs.e d d.regs.d d.regs.e e
  push_pair_stands s t u StackH choice d e = push_stands s t u s.regs.h s.regs.l u.regs.h u.regs.l d d.regs.h d.regs.l e
  push_pair_stands s t u Psw choice d e = push_stands s t u s.regs.a (PswCell s.flags) u.regs.a (flag_byte u.flags choice) d d.regs.a (flag_byte_stands s u choice d.flags) e

  popped_stands : (s : State80) (u : UntaggedState) (pair : StackPair) (w : Halves) (a b : ℕ) → StatesStand p held s u → Stands w.high a → Stands w.low b → StatesStand p held (popped80 s pair w) (popped u pair a b)
  popped_stands s u StackB w a b d ha lb = sets_bc s u w.high w.low a b d ha lb
  popped_stands s u StackD w a b d ha lb = sets_de s u w.high w.low a b d ha lb
  popped_stands s u StackH w a b d ha lb = sets_hl s u w.high w.low a b d ha lb
  popped_stands s u Psw w a b d ha lb = sets_flags (with_a80 s w.high) (with_a u a) (flags_in w.low) (flags_in_byte b) (sets_a s u w.high a d ha) (flags_in_stand w.low b lb)

  pub pop_pair_stands : (s t : State80) (u : UntaggedState) (pair : StackPair) → StatesStand p held s u → pop_pair80 p s pair ≡ Ok t → StatesStand p held t (pop_pair u pair)
  pop_pair_stands s t u pair d e =
      let w = then_is (read_word p s s.sp) _ t e in
      let h = reads_word s u s.sp w.0 d d.sp_small w.1 in
      let up = wrap (s.sp + 2) in
      let small : up < 0x10000 = omega arith in
      let made = popped_stands (record s { sp = up }) (record u { sp = up }) pair w.0 (u.mem (next s.sp)) (u.mem s.sp) (sets_sp s u up d small) h.high h.low in
      subst (λ k. StatesStand p held k (pop_pair u pair)) (ok_is _ t w.2)
      (subst (λ n. StatesStand p held (popped80 (record s { sp = up }) pair w.0) (popped (record u { sp = wrap (n + 2) }) pair (u.mem (next n)) (u.mem n))) (sym d.sp) made)
