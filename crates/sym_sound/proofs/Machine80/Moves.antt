-- Moves, loads, stores and the stack.
use Rattle.std.proofs.Common.{◌≡◌, ℕ, ◌+◌, ◌/◌, ◌%◌, ◌<◌, true, false, List, [], ◌∷◌, ◌++◌, Ok, refl, ap, subst, ◌∙◌, arith}
use Rattle.cells.specs.declared.Cell.{Cell}
use Rattle.cells.specs.declared.Cell.TheVariants.{Num as NumCell, Lo, Hi, Psw as PswCell}
use Rattle.cells.specs.declared.Place.TheVariants.{At}
use Rattle.cells.specs.declared.Part.TheVariants.{S, Z, Ac, P, Cy}
use Rattle.i80.specs.declared.Reg.{Reg}
use Rattle.i80.specs.declared.Reg.TheVariants.{A, B, C, D, E, H, L}
use Rattle.i80.specs.declared.Src.{Src}
use Rattle.i80.specs.declared.Src.TheVariants.{Reg as InReg, Mem}
use Rattle.i80.specs.declared.Pair.{Pair}
use Rattle.i80.specs.declared.Pair.TheVariants.{B as PairB, D as PairD, H as PairH, Sp}
use Rattle.i80.specs.declared.StackPair.{StackPair}
use Rattle.i80.specs.declared.StackPair.TheVariants.{B as StackB, D as StackD, H as StackH, Psw}
use Rattle.i80.specs.declared.Word.TheVariants.{Code as CodeAt}
use Rattle.base.specs.Operations.{flags_in}
use Rattle.asm80_types.specs.Program.{Program}
use Rattle.dialogue.specs.Words.{wrap}
use Rattle.cpu80_tagged.specs.State.{State80, reg80, with_a as with_a80, with_num}
use Rattle.cpu80_tagged.specs.Memory.{put, read_at, write_at, Halves, read_word, write_word}
use Rattle.cpu80_tagged.specs.Effect.{source as source80, into as into80, lxi as lxi80, lda as lda80, lhld as lhld80, xchg as xchg80, xthl as xthl80, push as push80, push_pair, popped as popped80, pop_pair}
use Rattle.sym_terms.specs.Term.{Term, Num, Code, is_word}
use Rattle.sym_terms.specs.Making.{high, low, join, sum16}
use Rattle.sym_terms.specs.Values80.{Env80, Load80, LoadedByte, LoadedWord, Byte, Word, OneBit, word_of, Val80}
use Rattle.sym_terms.specs.Laws.{IsMadeAs, MadeTermsKeepValues, MadeTermsHaveSorts}
use Rattle.sym_terms.proofs.Sorts.{word_sorted}
use Rattle.sym_block_def.specs.Outcome.{Held, with_flags_in}
use Rattle.sym_block_def.specs.Block80.{Symbolic80, reg_term, with_held, pair_term, with_pair, source, after_source, into, load8, load16, store8, store16, next_byte, next_word, lxi, lda, lhld, xchg, xthl, flag_byte, pushed, push, popped, pop}
use Rattle.sym_block_def.specs.Sorts.{HeldIsSorted, AreSorted80}
use Rattle.simulation_def.specs.States.{IsCell, IsHeldPlace}
use Rattle.simulation_def.specs.Runs80.{env80}
use Rattle.sym_sound.proofs.Machine80.Denoting.{Denotes, loads_byte, byte_loaded, loads_word, word_loaded, stores_byte, stores_word}
use Rattle.sym_sound.proofs.Machine80.Holding.{sets_parts, sets_reg, pair_value, sets_bc, sets_de, sets_hl, fetches, puts}
use Rattle.dialogue.proofs.Tried.{ok_is, then_is}
use Rattle.sym_sound.proofs.Machine80.Answering.{read_is, write_is, read_word_is, write_word_is}
use Rattle.sym_sound.proofs.Machine80.Computing.{sets_flags}

-- a state that holds what the terms say, with what was loaded
pub record Denoted (p : Program) (s0 : State80) (x : Symbolic80) (s : State80) : Type 0 where
  pub loads : List Load80
  pub denotes : Denotes p s0 loads x s

pub word_number : (e : Env80) (n : ℕ) → n < 0x10000 → Val80 e (Num n) (word_of n)
word_number e n lt = (lt, refl, refl)

pub held_after : (x : Symbolic80) (from : Src) → HeldIsSorted x.held → HeldIsSorted (after_source x from).held
held_after x (InReg r) h = h
held_after x Mem h = h

module _ (p : Program) (s0 : State80) where
  -- SP alone is changed
  pub sets_sp : (loads : List Load80) (x : Symbolic80) (s : State80) (t : Term) (n : ℕ) → Denotes p s0 loads x s → n < 0x10000 → Val80 (env80 s0 loads) t (word_of n) → Denotes p s0 loads (record x { sp = t }) (record s { sp = n })
  sets_sp loads x s t n d lt v = record {
    is_state = record { regs = d.is_state.regs; mem = d.is_state.mem; sp = lt };
    holds = d.holds;
    sp = v;
    count = d.count;
    memory = d.memory;
    dma = d.dma;
  }

  pub loads_a : (loads : List Load80) (x : Symbolic80) (s t : State80) (at : Term) (n : ℕ) → Denotes p s0 loads x s → n < 0x10000 → Val80 (env80 s0 loads) at (word_of n) → lda80 p s n ≡ Ok t → Denoted p s0 (lda x at) t
  loads_a loads x s t at n d lt v e =
      let a = then_is (read_at p s n) _ t e in
      let r = read_is p s n a.0 a.1 in
      let loaded = loads_byte p s0 loads x s at n d lt v r.0 in
      let set = sets_reg p s0 (loads ++ LoadedByte (s.mem n) ∷ []) (load8 x at) s A (next_byte x) (s.mem n) loaded (byte_loaded p s0 loads x s (s.mem n) d) (d.is_state.mem n r.0) in
      record { loads = loads ++ LoadedByte (s.mem n) ∷ []; denotes = subst (λ (u : State80). Denotes p s0 (loads ++ LoadedByte (s.mem n) ∷ []) (lda x at) u) (ap (with_a80 s) r.1 ∙ ok_is _ t a.2) set }

  pub stores_a : (loads : List Load80) (x : Symbolic80) (s t : State80) (at : Term) (n : ℕ) → Denotes p s0 loads x s → n < 0x10000 → Val80 (env80 s0 loads) at (word_of n) → write_at p s n s.regs.a ≡ Ok t → Denoted p s0 (store8 x at x.held.a) t
  stores_a loads x s t at n d lt v e =
      let w = write_is p s t n s.regs.a e in
      record { loads = loads; denotes = subst (λ (u : State80). Denotes p s0 loads (store8 x at x.held.a) u) w.1 (stores_byte p s0 loads x s at x.held.a n s.regs.a d lt v (d.holds.in_regs A) w.0 (d.is_state.regs A)) }

  pub exchanges : (loads : List Load80) (x : Symbolic80) (s : State80) → Denotes p s0 loads x s → Denotes p s0 loads (xchg x) (xchg80 s)
  exchanges loads x s d = sets_parts p s0 loads x s (record (x.held) { d = x.held.h; e = x.held.l; h = x.held.d; l = x.held.e }) (record (s.regs) { d = s.regs.h; e = s.regs.l; h = s.regs.d; l = s.regs.e }) s.flags d cells (record { in_regs = held; in_flags = d.holds.in_flags })
    where
      cells : (r : Reg) → IsCell p (reg80 (record (s.regs) { d = s.regs.h; e = s.regs.l; h = s.regs.d; l = s.regs.e }) r)
      cells A = d.is_state.regs A
      cells B = d.is_state.regs B
      cells C = d.is_state.regs C
      cells D = d.is_state.regs H
      cells E = d.is_state.regs L
      cells H = d.is_state.regs D
      cells L = d.is_state.regs E

      held : (r : Reg) → Val80 (env80 s0 loads) (reg_term (record (x.held) { d = x.held.h; e = x.held.l; h = x.held.d; l = x.held.e }) r) (Byte (reg80 (record (s.regs) { d = s.regs.h; e = s.regs.l; h = s.regs.d; l = s.regs.e }) r))
      held A = d.holds.in_regs A
      held B = d.holds.in_regs B
      held C = d.holds.in_regs C
      held D = d.holds.in_regs H
      held E = d.holds.in_regs L
      held H = d.holds.in_regs D
      held L = d.holds.in_regs E

-- the halves of a number are bytes
high_small : (n : ℕ) → n < 0x10000 → n / 256 < 256
high_small n lt = omega (arith, lt)

low_small : (n : ℕ) → n % 256 < 256
low_small n = omega arith

module _ (keep : MadeTermsKeepValues) (sorts : MadeTermsHaveSorts) (p : Program) (s0 : State80) where
  pub moves : (loads : List Load80) (x : Symbolic80) (s t : State80) (to from : Src) → Denotes p s0 loads x s → HeldIsSorted x.held → (c : Cell) × (source80 p s from ≡ Ok c) × (into80 p s to c ≡ Ok t) → Denoted p s0 (into (after_source x from) to (source x from)) t
  moves loads x s t to from d h m =
      let f = fetches keep p s0 loads x s from m.0 d h m.1 in
      record { loads = f.loads; denotes = puts keep p s0 f.loads (after_source x from) s t to (source x from) m.0 f.denotes (held_after x from h) f.value f.cell m.2 }

  -- a number into a pair
  pub sets_number : (loads : List Load80) (x : Symbolic80) (s : State80) (pair : Pair) (w : Term) (n : ℕ) → Denotes p s0 loads x s → n < 0x10000 → IsMadeAs is_word w → Val80 (env80 s0 loads) w (word_of n) → Denotes p s0 loads (with_pair x pair w) (with_num s pair n)
  sets_number loads x s PairB w n d lt m v = sets_bc keep p s0 loads x s w (NumCell (n / 256)) (NumCell (n % 256)) d m v (high_small n lt) (low_small n)
  sets_number loads x s PairD w n d lt m v = sets_de keep p s0 loads x s w (NumCell (n / 256)) (NumCell (n % 256)) d m v (high_small n lt) (low_small n)
  sets_number loads x s PairH w n d lt m v = sets_hl keep p s0 loads x s w (NumCell (n / 256)) (NumCell (n % 256)) d m v (high_small n lt) (low_small n)
  sets_number loads x s Sp w n d lt m v = sets_sp p s0 loads x s w n d lt v

  code_sorted : (a : ℕ) → IsMadeAs is_word (join (Code (At a) true) (Code (At a) false))
  code_sorted a = sorts.join (Code (At a) true) (Code (At a) false) (tt, refl) (tt, refl)

  code_value : (e : Env80) (a : ℕ) → Val80 e (join (Code (At a) true) (Code (At a) false)) (Word (Hi (At a)) (Lo (At a)))
  code_value e a = (keep.on_8080 e).join (Code (At a) true) (Code (At a) false) (Word (Hi (At a)) (Lo (At a))) (tt, refl) (tt, refl) (refl, refl)

  pub loads_code_bc : (loads : List Load80) (x : Symbolic80) (s : State80) (a : ℕ) → Denotes p s0 loads x s → IsHeldPlace p (At a) → Denotes p s0 loads (lxi x PairB (CodeAt a)) (lxi80 s PairB (CodeAt a))
  loads_code_bc loads x s a d i = sets_bc keep p s0 loads x s (join (Code (At a) true) (Code (At a) false)) (Hi (At a)) (Lo (At a)) d (code_sorted a) (code_value (env80 s0 loads) a) i i

  pub loads_code_de : (loads : List Load80) (x : Symbolic80) (s : State80) (a : ℕ) → Denotes p s0 loads x s → IsHeldPlace p (At a) → Denotes p s0 loads (lxi x PairD (CodeAt a)) (lxi80 s PairD (CodeAt a))
  loads_code_de loads x s a d i = sets_de keep p s0 loads x s (join (Code (At a) true) (Code (At a) false)) (Hi (At a)) (Lo (At a)) d (code_sorted a) (code_value (env80 s0 loads) a) i i

  pub loads_code_hl : (loads : List Load80) (x : Symbolic80) (s : State80) (a : ℕ) → Denotes p s0 loads x s → IsHeldPlace p (At a) → Denotes p s0 loads (lxi x PairH (CodeAt a)) (lxi80 s PairH (CodeAt a))
  loads_code_hl loads x s a d i = sets_hl keep p s0 loads x s (join (Code (At a) true) (Code (At a) false)) (Hi (At a)) (Lo (At a)) d (code_sorted a) (code_value (env80 s0 loads) a) i i

  -- a word that is loaded
  pub word_is_loaded : (loads : List Load80) (x : Symbolic80) (s : State80) (at : Term) (n : ℕ) (w : Halves) → Denotes p s0 loads x s → n < 0x10000 → Val80 (env80 s0 loads) at (word_of n) → read_word p s n ≡ Ok w → Denotes p s0 (loads ++ LoadedWord w.high w.low ∷ []) (load16 x at) s × IsCell p w.high × IsCell p w.low
  word_is_loaded loads x s at n w d lt v e =
      let r = read_word_is p s n w lt e in
      let loaded = loads_word p s0 loads x s at n d r.0 v r.1 r.2 in (
        subst (λ (c : Cell). Denotes p s0 (loads ++ LoadedWord w.high c ∷ []) (load16 x at) s) r.4 (subst (λ (c : Cell). Denotes p s0 (loads ++ LoadedWord c (s.mem n) ∷ []) (load16 x at) s) r.3 loaded),
        subst (IsCell p) r.3 (d.is_state.mem (n + 1) r.2),
        subst (IsCell p) r.4 (d.is_state.mem n r.1),
      )

  pub loads_hl : (loads : List Load80) (x : Symbolic80) (s t : State80) (at : Term) (n : ℕ) → Denotes p s0 loads x s → n < 0x10000 → Val80 (env80 s0 loads) at (word_of n) → lhld80 p s n ≡ Ok t → Denoted p s0 (lhld x at) t
  loads_hl loads x s t at n d lt v e =
      let a = then_is (read_word p s n) _ t e in
      let w = a.0 in
      let l = word_is_loaded loads x s at n w d lt v a.1 in
      let more = loads ++ LoadedWord w.high w.low ∷ [] in
      record { loads = more; denotes = subst (λ (u : State80). Denotes p s0 more (lhld x at) u) (ok_is _ t a.2) (sets_hl keep p s0 more (load16 x at) s (next_word x) w.high w.low l.0 (tt, refl) (word_loaded p s0 loads x s w.high w.low d) l.1 l.2) }

  pub stores_pair : (loads : List Load80) (x : Symbolic80) (s t : State80) (at : Term) (n : ℕ) → Denotes p s0 loads x s → HeldIsSorted x.held → n < 0x10000 → Val80 (env80 s0 loads) at (word_of n) → write_word p s n s.regs.h s.regs.l ≡ Ok t → Denotes p s0 loads (store16 x at (pair_term x PairH)) t
  stores_pair loads x s t at n d h lt v e =
      let w = write_word_is p s t n s.regs.h s.regs.l lt e in
      subst (λ (u : State80). Denotes p s0 loads (store16 x at (pair_term x PairH)) u) w.3 (stores_word p s0 loads x s at (pair_term x PairH) n s.regs.h s.regs.l d w.0 v (pair_value keep p s0 loads x s PairH d h) w.1 w.2 (d.is_state.regs H) (d.is_state.regs L))

  -- SP and a number
  pub sp_moves : (loads : List Load80) (x : Symbolic80) (s : State80) (k : ℕ) → Denotes p s0 loads x s → IsMadeAs is_word x.sp → k < 0x10000 → Val80 (env80 s0 loads) (sum16 x.sp (Num k)) (word_of (wrap (s.sp + k)))
  sp_moves loads x s k d m lt = (keep.on_8080 (env80 s0 loads)).sum16 x.sp (Num k) _ m (word_sorted k lt) (s.sp, k, d.is_state.sp, lt, d.sp, word_number (env80 s0 loads) k lt, refl, refl)

  wrapped : (n : ℕ) → wrap n < 0x10000
  wrapped n = omega arith

  pub pushes : (loads : List Load80) (x : Symbolic80) (s t : State80) (w : Term) (high low : Cell) → Denotes p s0 loads x s → IsMadeAs is_word x.sp → Val80 (env80 s0 loads) w (Word high low) → IsCell p high → IsCell p low → push80 p s high low ≡ Ok t → Denoted p s0 (push x w) t
  pushes loads x s t w high low d m v ih il e =
      let n = wrap (s.sp + 0xFFFE) in
      let a = then_is (write_word p s n high low) _ t e in
      let moved = sp_moves loads x s 0xFFFE d m (omega arith) in
      let r = write_word_is p s a.0 n high low (wrapped (s.sp + 0xFFFE)) a.1 in
      let stored = subst (λ (u : State80). Denotes p s0 loads (store16 x (sum16 x.sp (Num 0xFFFE)) w) u) r.3 (stores_word p s0 loads x s (sum16 x.sp (Num 0xFFFE)) w n high low d r.0 moved v r.1 r.2 ih il) in
      record { loads = loads; denotes = subst (λ (u : State80). Denotes p s0 loads (push x w) u) (ok_is _ t a.2) (sets_sp p s0 loads (store16 x (sum16 x.sp (Num 0xFFFE)) w) a.0 (sum16 x.sp (Num 0xFFFE)) n stored (wrapped (s.sp + 0xFFFE)) moved) }

  -- SP that was raised and lowered by 2 is what it was
  back : (n : ℕ) → n < 0x10000 → wrap (wrap (n + 2) + 0xFFFE) ≡ n
  back n lt = omega (arith, lt)

  pub exchanges_top : (loads : List Load80) (x : Symbolic80) (s t : State80) → Denotes p s0 loads x s → AreSorted80 x → xthl80 p s ≡ Ok t → Denoted p s0 (xthl x) t
  exchanges_top loads x s t d o e =
      let a = then_is (read_word p s s.sp) _ t e in
      let w = a.0 in
      let b = then_is (write_word p s s.sp s.regs.h s.regs.l) _ t a.2 in
      let l = word_is_loaded loads x s x.sp s.sp w d d.is_state.sp d.sp a.1 in
      let more = loads ++ LoadedWord w.high w.low ∷ [] in
      let y = load16 x x.sp in
      let up = sum16 x.sp (Num 2) in
      let at = sum16 (sum16 x.sp (Num 2)) (Num 0xFFFE) in
      let raised = sets_sp p s0 more (load16 x x.sp) s (sum16 x.sp (Num 2)) (wrap (s.sp + 2)) l.0 (wrapped (s.sp + 2)) (sp_moves more (load16 x x.sp) s 2 l.0 o.sp (omega arith)) in
      let lowered = sp_moves more (record (load16 x x.sp) { sp = sum16 x.sp (Num 2) }) (record s { sp = wrap (s.sp + 2) }) 0xFFFE raised (sorts.sum16 x.sp (Num 2) o.sp (word_sorted 2 (omega arith))) (omega arith) in
      let v = subst (λ (n : ℕ). Val80 (env80 s0 more) at (word_of n)) (back s.sp d.is_state.sp) lowered in
      let r = write_word_is p s b.0 s.sp s.regs.h s.regs.l d.is_state.sp b.1 in
      let stored = stores_word p s0 more y s at (pair_term x PairH) s.sp s.regs.h s.regs.l l.0 r.0 v (pair_value keep p s0 more y s PairH l.0 o.held) r.1 r.2 (d.is_state.regs H) (d.is_state.regs L) in
      let after = record s { mem = put (put s.mem s.sp s.regs.l) (s.sp + 1) s.regs.h } in
      let kept = subst (λ (u : State80). Denotes p s0 more (push (record (load16 x x.sp) { sp = sum16 x.sp (Num 2) }) (pair_term x PairH)) u) r.3 (sets_sp p s0 more (store16 y at (pair_term x PairH)) after at s.sp stored d.is_state.sp v) in
      record { loads = more; denotes = subst (λ (u : State80). Denotes p s0 more (xthl x) u) (ok_is _ t b.2) (sets_hl keep p s0 more (push (record (load16 x x.sp) { sp = sum16 x.sp (Num 2) }) (pair_term x PairH)) b.0 (next_word x) w.high w.low kept (tt, refl) (word_loaded p s0 loads x s w.high w.low d) l.1 l.2) }

  -- the byte of the flags
  psw_value : (loads : List Load80) (x : Symbolic80) (s : State80) → Denotes p s0 loads x s → HeldIsSorted x.held → Val80 (env80 s0 loads) (join x.held.a (flag_byte x.held)) (Word s.regs.a (PswCell s.flags))
  psw_value loads x s d h =
      let f = d.holds.in_flags in
      (keep.on_8080 (env80 s0 loads)).join x.held.a (flag_byte x.held) _ h.a (sorts.flag_byte x.held.s x.held.z x.held.ac x.held.p x.held.cy h.s h.z h.ac h.p h.cy)
      (d.holds.in_regs A, (s.flags, f.0, f.1, f.2, f.3, f.4, refl))

  pub pushes_pair : (loads : List Load80) (x : Symbolic80) (s t : State80) (pair : StackPair) → Denotes p s0 loads x s → AreSorted80 x → push_pair p s pair ≡ Ok t → Denoted p s0 (push x (pushed x pair)) t
  pushes_pair loads x s t StackB d o e = pushes loads x s t (pair_term x PairB) s.regs.b s.regs.c d o.sp (pair_value keep p s0 loads x s PairB d o.held) (d.is_state.regs B) (d.is_state.regs C) e
  pushes_pair loads x s t StackD d o e = pushes loads x s t (pair_term x PairD) s.regs.d s.regs.e d o.sp (pair_value keep p s0 loads x s PairD d o.held) (d.is_state.regs D) (d.is_state.regs E) e
  pushes_pair loads x s t StackH d o e = pushes loads x s t (pair_term x PairH) s.regs.h s.regs.l d o.sp (pair_value keep p s0 loads x s PairH d o.held) (d.is_state.regs H) (d.is_state.regs L) e
  pushes_pair loads x s t Psw d o e = pushes loads x s t (join x.held.a (flag_byte x.held)) s.regs.a (PswCell s.flags) d o.sp (psw_value loads x s d o.held) (d.is_state.regs A) tt e

  -- a word that was popped, into its pair
  pop_sets : (loads : List Load80) (x : Symbolic80) (s : State80) (pair : StackPair) (t : Term) (w : Halves) → Denotes p s0 loads x s → IsMadeAs is_word t → Val80 (env80 s0 loads) t (Word w.high w.low) → IsCell p w.high → IsCell p w.low → Denotes p s0 loads (popped x pair t) (popped80 s pair w)
  pop_sets loads x s StackB t w d m v ih il = sets_bc keep p s0 loads x s t w.high w.low d m v ih il
  pop_sets loads x s StackD t w d m v ih il = sets_de keep p s0 loads x s t w.high w.low d m v ih il
  pop_sets loads x s StackH t w d m v ih il = sets_hl keep p s0 loads x s t w.high w.low d m v ih il
  pop_sets loads x s Psw t w d m v ih il =
      let k = keep.on_8080 (env80 s0 loads) in
      let set = sets_reg p s0 loads x s A (high t) w.high d (k.high t (Byte w.high) m (w.low, v)) ih in
      let y = record (x.held) { a = high t } in
      let byte = k.low t (Byte w.low) m (w.high, v) in
      let sorted = sorts.low t m in
      let f = flags_in w.low in
      sets_flags keep sorts p s0 loads (with_held x y) (with_a80 s w.high) (with_flags_in (low t) y) f set (same y (low t)) (
        k.bit (low t) S (OneBit f.s) sorted refl (w.low, byte, refl),
        k.bit (low t) Z (OneBit f.z) sorted refl (w.low, byte, refl),
        k.bit (low t) Ac (OneBit f.ac) sorted refl (w.low, byte, refl),
        k.bit (low t) P (OneBit f.p) sorted refl (w.low, byte, refl),
        k.bit (low t) Cy (OneBit f.cy) sorted refl (w.low, byte, refl),
      )
    where
      same : (y : Held) (b : Term) (r : Reg) → reg_term (with_flags_in b y) r ≡ reg_term y r
      same y b A = refl
      same y b B = refl
      same y b C = refl
      same y b D = refl
      same y b E = refl
      same y b H = refl
      same y b L = refl

  pub pops : (loads : List Load80) (x : Symbolic80) (s t : State80) (pair : StackPair) → Denotes p s0 loads x s → AreSorted80 x → pop_pair p s pair ≡ Ok t → Denoted p s0 (pop x pair) t
  pops loads x s t pair d o e =
      let a = then_is (read_word p s s.sp) _ t e in
      let w = a.0 in
      let l = word_is_loaded loads x s x.sp s.sp w d d.is_state.sp d.sp a.1 in
      let more = loads ++ LoadedWord w.high w.low ∷ [] in
      let moved = sp_moves more (load16 x x.sp) s 2 l.0 o.sp (omega arith) in
      let at_top = sets_sp p s0 more (load16 x x.sp) s (sum16 x.sp (Num 2)) (wrap (s.sp + 2)) l.0 (wrapped (s.sp + 2)) moved in
      let set = pop_sets more (record (load16 x x.sp) { sp = sum16 x.sp (Num 2) }) (record s { sp = wrap (s.sp + 2) }) pair (next_word x) w at_top (tt, refl) (word_loaded p s0 loads x s w.high w.low d) l.1 l.2 in
      record { loads = more; denotes = subst (λ (y : Symbolic80). Denotes p s0 more y t) (same_pop pair) (subst (λ (u : State80). Denotes p s0 more (popped (record (load16 x x.sp) { sp = sum16 x.sp (Num 2) }) pair (next_word x)) u) (ok_is _ t a.2) set) }
    where
      same_pop : (q : StackPair) → popped (record (load16 x x.sp) { sp = sum16 x.sp (Num 2) }) q (next_word x) ≡ pop x q
      same_pop StackB = refl
      same_pop StackD = refl
      same_pop StackH = refl
      same_pop Psw = refl
