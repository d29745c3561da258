-- Words of the 8086, operands, moves and the stack.
use Rattle.std.proofs.Common.{◌≡◌, ℕ, ◌+◌, ◌/◌, ◌%◌, ◌<◌, List, [], ◌∷◌, ◌++◌, refl, arith}
use Rattle.i86.specs.declared.Reg8.{Reg8}
use Rattle.i86.specs.declared.Reg8.TheVariants.{Al, Cl, Dl, Bl, Ah, Ch, Dh, Bh}
use Rattle.i86.specs.declared.Reg16.{Reg16}
use Rattle.i86.specs.declared.Reg16.TheVariants.{Ax, Cx, Dx, Bx, Sp, Si}
use Rattle.i86.specs.declared.Ptr.{Ptr}
use Rattle.i86.specs.declared.Ptr.TheVariants.{Bx as PtrBx, Si as PtrSi}
use Rattle.i86.specs.declared.Operand8.{Operand8}
use Rattle.i86.specs.declared.Operand8.TheVariants.{Reg, Mem}
use Rattle.i86.specs.declared.Operand16.{Operand16}
use Rattle.i86.specs.declared.Operand16.TheVariants.{Reg as Reg_16, Direct}
use Rattle.dialogue.specs.Words.{word, wrap}
use Rattle.dialogue.specs.ByteMemory.{word_at}
use Rattle.cpu86.specs.State.{State86, reg8, reg16, with16, back, put_word, pointed as pointed86, operand8 as operand86, with_operand8, operand16 as operand16_86, push as push86}
use Rattle.cpu86.specs.Effect.{set8, popped, with_pop, xchg8 as xchg8_86, xchg16 as xchg16_86}
use Rattle.sym_terms.specs.Term.{Term, Num, is_byte, is_word}
use Rattle.sym_terms.specs.Making.{high, low, join, sum16}
use Rattle.sym_terms.specs.Values86.{Load86, LoadedByte, LoadedWord, Env86, Number, Val86}
use Rattle.sym_terms.specs.Laws.{IsMadeAs, MadeTermsKeepValues, MadeTermsHaveSorts}
use Rattle.sym_terms.proofs.Sorts.{word_sorted}
use Rattle.sym_block_def.specs.Symbolic86.{Symbolic86, reg8_term, with_reg8, reg16_term, with_reg16, load8, load16, store16, next_byte, next_word, pointed, operand8, after_operand8, into_operand8, operand16, after_operand16, push, pop, xchg8, xchg16}
use Rattle.sym_block_def.specs.Sorts.{HeldIsSorted}
use Rattle.simulation_def.specs.Runs86.{with_loads}
use Rattle.sym_sound.proofs.Machine86.Denoting.{Denotes, loads_byte, byte_loaded, loads_word, word_loaded, stores_byte, stores_word, sets_byte, sets_si, sets_sp}

-- a state that holds what the terms say, with what was loaded
pub record Denoted (e : Env86) (s0 : State86) (x : Symbolic86) (s : State86) : Type 0 where
  pub loads : List Load86
  pub denotes : Denotes e s0 loads x s

-- the terms of registers and flags are made and of their sorts
pub record HasSorts (x : Symbolic86) : Type 0 where
  pub held : HeldIsSorted x.held
  pub ah : IsMadeAs is_byte x.ah
  pub si : IsMadeAs is_word x.si
  pub sp : IsMadeAs is_word x.sp

pub reg8_sorted : (x : Symbolic86) → HasSorts x → (r : Reg8) → IsMadeAs is_byte (reg8_term x r)
reg8_sorted x o Al = o.held.a
reg8_sorted x o Cl = o.held.c
reg8_sorted x o Dl = o.held.e
reg8_sorted x o Bl = o.held.l
reg8_sorted x o Ah = o.ah
reg8_sorted x o Ch = o.held.b
reg8_sorted x o Dh = o.held.d
reg8_sorted x o Bh = o.held.h

word_small : (h l : ℕ) → h < 256 → l < 256 → word h l < 0x10000
word_small h l a b = omega (arith, a, b)

high_small : (n : ℕ) → n < 0x10000 → n / 256 < 256
high_small n lt = omega (arith, lt)

low_small : (n : ℕ) → n % 256 < 256
low_small n = omega arith

wrapped : (n : ℕ) → wrap n < 0x10000
wrapped n = omega arith

module _ (keep : MadeTermsKeepValues) (sorts : MadeTermsHaveSorts) (e : Env86) (s0 : State86) where
  -- word registers

  joined : (loads : List Load86) (x : Symbolic86) (s : State86) (h l : Reg8) → Denotes e s0 loads x s → HasSorts x → Val86 (with_loads e loads) (join (reg8_term x h) (reg8_term x l)) (Number (word (reg8 s.regs h) (reg8 s.regs l)))
  joined loads x s h l d o = (keep.on_8086 (with_loads e loads)).join (reg8_term x h) (reg8_term x l) (Number (word (reg8 s.regs h) (reg8 s.regs l))) (reg8_sorted x o h) (reg8_sorted x o l) (reg8 s.regs h, reg8 s.regs l, d.is_state.regs h, d.is_state.regs l, d.in_regs h, d.in_regs l, refl)

  pub reg16_value : (loads : List Load86) (x : Symbolic86) (s : State86) (r : Reg16) → Denotes e s0 loads x s → HasSorts x → Val86 (with_loads e loads) (reg16_term x r) (Number (reg16 s r))
  reg16_value loads x s Ax d o = joined loads x s Ah Al d o
  reg16_value loads x s Cx d o = joined loads x s Ch Cl d o
  reg16_value loads x s Dx d o = joined loads x s Dh Dl d o
  reg16_value loads x s Bx d o = joined loads x s Bh Bl d o
  reg16_value loads x s Sp d o = d.sp
  reg16_value loads x s Si d o = d.si

  pub reg16_sorted : (x : Symbolic86) (r : Reg16) → HasSorts x → IsMadeAs is_word (reg16_term x r)
  reg16_sorted x Ax o = sorts.join x.ah x.held.a o.ah o.held.a
  reg16_sorted x Cx o = sorts.join x.held.b x.held.c o.held.b o.held.c
  reg16_sorted x Dx o = sorts.join x.held.d x.held.e o.held.d o.held.e
  reg16_sorted x Bx o = sorts.join x.held.h x.held.l o.held.h o.held.l
  reg16_sorted x Sp o = o.sp
  reg16_sorted x Si o = o.si

  pub reg16_small : (loads : List Load86) (x : Symbolic86) (s : State86) (r : Reg16) → Denotes e s0 loads x s → reg16 s r < 0x10000
  reg16_small loads x s Ax d = word_small s.regs.ah s.regs.al (d.is_state.regs Ah) (d.is_state.regs Al)
  reg16_small loads x s Cx d = word_small s.regs.ch s.regs.cl (d.is_state.regs Ch) (d.is_state.regs Cl)
  reg16_small loads x s Dx d = word_small s.regs.dh s.regs.dl (d.is_state.regs Dh) (d.is_state.regs Dl)
  reg16_small loads x s Bx d = word_small s.regs.bh s.regs.bl (d.is_state.regs Bh) (d.is_state.regs Bl)
  reg16_small loads x s Sp d = d.is_state.sp
  reg16_small loads x s Si d = d.is_state.si

  -- the halves of a word into two byte registers
  sets_halves : (loads : List Load86) (x : Symbolic86) (s : State86) (h l : Reg8) (w : Term) (n : ℕ) → Denotes e s0 loads x s → n < 0x10000 → IsMadeAs is_word w → Val86 (with_loads e loads) w (Number n) → Denotes e s0 loads (with_reg8 (with_reg8 x h (high w)) l (low w)) (set8 (set8 s h (n / 256)) l (n % 256))
  sets_halves loads x s h l w n d lt m v =
      let k = keep.on_8086 (with_loads e loads) in
      sets_byte e s0 loads (with_reg8 x h (high w)) (set8 s h (n / 256)) l (low w) (n % 256)
      (sets_byte e s0 loads x s h (high w) (n / 256) d (high_small n lt) (k.high w (Number (n / 256)) m (n, v, refl)))
      (low_small n) (k.low w (Number (n % 256)) m (n, v, refl))

  pub sets_word : (loads : List Load86) (x : Symbolic86) (s : State86) (r : Reg16) (w : Term) (n : ℕ) → Denotes e s0 loads x s → n < 0x10000 → IsMadeAs is_word w → Val86 (with_loads e loads) w (Number n) → Denotes e s0 loads (with_reg16 x r w) (with16 s r n)
  sets_word loads x s Ax w n d lt m v = sets_halves loads x s Ah Al w n d lt m v
  sets_word loads x s Cx w n d lt m v = sets_halves loads x s Ch Cl w n d lt m v
  sets_word loads x s Dx w n d lt m v = sets_halves loads x s Dh Dl w n d lt m v
  sets_word loads x s Bx w n d lt m v = sets_halves loads x s Bh Bl w n d lt m v
  sets_word loads x s Sp w n d lt m v = sets_sp e s0 loads x s w n d lt v
  sets_word loads x s Si w n d lt m v = sets_si e s0 loads x s w n d lt v

  -- operands

  pub pointed_value : (loads : List Load86) (x : Symbolic86) (s : State86) (p : Ptr) → Denotes e s0 loads x s → HasSorts x → Val86 (with_loads e loads) (pointed x p) (Number (pointed86 s p))
  pointed_value loads x s PtrBx d o = reg16_value loads x s Bx d o
  pointed_value loads x s PtrSi d o = d.si

  pub pointed_small : (loads : List Load86) (x : Symbolic86) (s : State86) (p : Ptr) → Denotes e s0 loads x s → pointed86 s p < 0x10000
  pointed_small loads x s PtrBx d = reg16_small loads x s Bx d
  pointed_small loads x s PtrSi d = d.is_state.si

  -- an operand that is read
  pub record Fetched (x : Symbolic86) (s : State86) (o : Operand8) : Type 0 where
    pub loads : List Load86
    pub denotes : Denotes e s0 loads (after_operand8 x o) s
    pub value : Val86 (with_loads e loads) (operand8 x o) (Number (operand86 s o))
    pub small : operand86 s o < 256
    pub sorted : IsMadeAs is_byte (operand8 x o)
    pub has_sorts : HasSorts (after_operand8 x o)

  pub fetches : (loads : List Load86) (x : Symbolic86) (s : State86) (o : Operand8) → Denotes e s0 loads x s → HasSorts x → Fetched x s o
  fetches loads x s (Reg r) d o = record {
    loads = loads;
    denotes = d;
    value = d.in_regs r;
    small = d.is_state.regs r;
    sorted = reg8_sorted x o r;
    has_sorts = o;
  }
  fetches loads x s (Mem p) d o =
      let n = pointed86 s p in
      record {
        loads = loads ++ LoadedByte (s.mem n) ∷ [];
        denotes = loads_byte e s0 loads x s (pointed x p) n d (pointed_small loads x s p d) (pointed_value loads x s p d o);
        value = byte_loaded e s0 loads x s (s.mem n) d;
        small = d.is_state.mem n;
        sorted = (tt, refl);
        has_sorts = record { held = o.held; ah = o.ah; si = o.si; sp = o.sp };
      }

  -- a byte into an operand
  pub puts : (loads : List Load86) (x : Symbolic86) (s : State86) (o : Operand8) (t : Term) (n : ℕ) → Denotes e s0 loads x s → HasSorts x → n < 256 → Val86 (with_loads e loads) t (Number n) → Denotes e s0 loads (into_operand8 x o t) (with_operand8 s o n)
  puts loads x s (Reg r) t n d o lt v = sets_byte e s0 loads x s r t n d lt v
  puts loads x s (Mem p) t n d o lt v = stores_byte e s0 loads x s (pointed x p) t (pointed86 s p) n d (pointed_small loads x s p d) lt (pointed_value loads x s p d o) v

  pub loads_into : (loads : List Load86) (x : Symbolic86) (s : State86) (r : Reg8) (o : Operand8) → Denotes e s0 loads x s → HasSorts x → Denoted e s0 (with_reg8 (after_operand8 x o) r (operand8 x o)) (set8 s r (operand86 s o))
  loads_into loads x s r o d h =
      let f = fetches loads x s o d h in
      record { loads = f.loads; denotes = sets_byte e s0 f.loads (after_operand8 x o) s r (operand8 x o) (operand86 s o) f.denotes f.small f.value }

  pub loads_direct : (loads : List Load86) (x : Symbolic86) (s : State86) (a : ℕ) → Denotes e s0 loads x s → a < 0x10000 → Denoted e s0 (with_reg8 (load8 x (Num a)) Al (next_byte x)) (set8 s Al (s.mem a))
  loads_direct loads x s a d lt =
      let loaded = loads_byte e s0 loads x s (Num a) a d lt refl in
      record { loads = loads ++ LoadedByte (s.mem a) ∷ []; denotes = sets_byte e s0 (loads ++ LoadedByte (s.mem a) ∷ []) (load8 x (Num a)) s Al (next_byte x) (s.mem a) loaded (d.is_state.mem a) (byte_loaded e s0 loads x s (s.mem a) d) }

  -- a word operand
  word_at_small : (s : State86) (n : ℕ) → ((a : ℕ) → s.mem a < 256) → word_at s.mem n < 0x10000
  word_at_small s n h = word_small (s.mem (wrap (n + 1))) (s.mem n) (h (wrap (n + 1))) (h n)

  pub moves_word : (loads : List Load86) (x : Symbolic86) (s : State86) (r : Reg16) (o : Operand16) → Denotes e s0 loads x s → HasSorts x → ((a : ℕ) → o ≡ Direct a → a < 0x10000) → Denoted e s0 (with_reg16 (after_operand16 x o) r (operand16 x o)) (with16 s r (operand16_86 s o))
  moves_word loads x s r (Reg_16 q) d h lt = record { loads = loads; denotes = sets_word loads x s r (reg16_term x q) (reg16 s q) d (reg16_small loads x s q d) (reg16_sorted x q h) (reg16_value loads x s q d h) }
  moves_word loads x s r (Direct a) d h lt =
      let w = word_at s.mem a in
      let more = loads ++ LoadedWord w ∷ [] in
      let loaded = loads_word e s0 loads x s (Num a) a d (lt a refl) refl in
      record { loads = more; denotes = sets_word more (load16 x (Num a)) s r (next_word x) w loaded (word_at_small s a d.is_state.mem) (tt, refl) (word_loaded e s0 loads x s w d) }

  -- the stack
  sum_value : (d : Env86) (a : Term) (m n : ℕ) → IsMadeAs is_word a → m < 0x10000 → n < 0x10000 → Val86 d a (Number m) → Val86 d (sum16 a (Num n)) (Number ((m + n) % 0x10000))
  sum_value d a m n ma lm ln va = (keep.on_8086 d).sum16 a (Num n) (Number ((m + n) % 0x10000)) ma (word_sorted n ln) (m, n, lm, ln, va, refl, refl)

  pub pushes : (loads : List Load86) (x : Symbolic86) (s : State86) (r : Reg16) → Denotes e s0 loads x s → HasSorts x → Denotes e s0 loads (push x r) (push86 s (reg16 s r))
  pushes loads x s r d o =
      let t = sum16 x.sp (Num 0xFFFE) in
      let n = back s.sp 2 in
      let moved = sum_value (with_loads e loads) x.sp s.sp 0xFFFE o.sp d.is_state.sp (omega arith) d.sp in
      let stored = stores_word e s0 loads x s t (reg16_term x r) n (reg16 s r) d (wrapped (s.sp + 0xFFFE)) (reg16_small loads x s r d) moved (reg16_value loads x s r d o) in
      sets_sp e s0 loads (store16 x t (reg16_term x r)) (record s { mem = put_word s.mem n (reg16 s r) }) t n stored (wrapped (s.sp + 0xFFFE)) moved

  pub pops : (loads : List Load86) (x : Symbolic86) (s : State86) (r : Reg16) → Denotes e s0 loads x s → HasSorts x → Denoted e s0 (pop x r) (with16 (with_pop s) r (popped s))
  pops loads x s r d o =
      let w = word_at s.mem s.sp in
      let more = loads ++ LoadedWord w ∷ [] in
      let loaded = loads_word e s0 loads x s x.sp s.sp d d.is_state.sp d.sp in
      let moved = sum_value (with_loads e more) x.sp s.sp 2 o.sp d.is_state.sp (omega arith) loaded.sp in
      let at_top = sets_sp e s0 more (load16 x x.sp) s (sum16 x.sp (Num 2)) (wrap (s.sp + 2)) loaded (wrapped (s.sp + 2)) moved in
      record { loads = more; denotes = sets_word more (record (load16 x x.sp) { sp = sum16 x.sp (Num 2) }) (with_pop s) r (next_word x) w at_top (word_at_small s s.sp d.is_state.mem) (tt, refl) (word_loaded e s0 loads x s w d) }

  -- exchanges
  pub exchanges_bytes : (loads : List Load86) (x : Symbolic86) (s : State86) (r q : Reg8) → Denotes e s0 loads x s → Denotes e s0 loads (xchg8 x r q) (xchg8_86 s r q)
  exchanges_bytes loads x s r q d =
      sets_byte e s0 loads (with_reg8 x r (reg8_term x q)) (set8 s r (reg8 s.regs q)) q (reg8_term x r) (reg8 s.regs r)
      (sets_byte e s0 loads x s r (reg8_term x q) (reg8 s.regs q) d (d.is_state.regs q) (d.in_regs q)) (d.is_state.regs r) (d.in_regs r)

  pub exchanges_words : (loads : List Load86) (x : Symbolic86) (s : State86) (r q : Reg16) → Denotes e s0 loads x s → HasSorts x → Denotes e s0 loads (xchg16 x r q) (xchg16_86 s r q)
  exchanges_words loads x s r q d o =
      sets_word loads (with_reg16 x r (reg16_term x q)) (with16 s r (reg16 s q)) q (reg16_term x r) (reg16 s r)
      (sets_word loads x s r (reg16_term x q) (reg16 s q) d (reg16_small loads x s q d) (reg16_sorted x q o) (reg16_value loads x s q d o))
      (reg16_small loads x s r d) (reg16_sorted x r o) (reg16_value loads x s r d o)
