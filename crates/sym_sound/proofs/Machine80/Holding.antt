-- Registers, pairs and flags of a state that holds what terms say.
use Rattle.std.proofs.Common.{◌≡◌, ℕ, ◌<◌, List, [], ◌∷◌, ◌++◌, Ok, refl, subst}
use Rattle.cells.specs.declared.Flags.{Flags}
use Rattle.cells.specs.declared.Cell.{Cell}
use Rattle.i80.specs.declared.Reg.{Reg}
use Rattle.i80.specs.declared.Reg.TheVariants.{A, B, C, D, E, H, L}
use Rattle.i80.specs.declared.Src.{Src}
use Rattle.i80.specs.declared.Src.TheVariants.{Reg as InReg, Mem}
use Rattle.i80.specs.declared.Pair.{Pair}
use Rattle.i80.specs.declared.Pair.TheVariants.{B as PairB, D as PairD, H as PairH, Sp}
use Rattle.asm80_types.specs.Program.{Program}
use Rattle.cpu80_tagged.specs.State.{State80, Regs80, reg80, with_reg80, high_of, low_of, with_bc, with_de, with_hl}
use Rattle.cpu80_tagged.specs.Memory.{address}
use Rattle.cpu80_tagged.specs.Effect.{source as source80, into as into80}
use Rattle.sym_terms.specs.Term.{Term, is_byte, is_word}
use Rattle.sym_terms.specs.Making.{high, low}
use Rattle.sym_terms.specs.Values80.{Env80, Load80, LoadedByte, Byte, Word, word_of, Val80}
use Rattle.sym_terms.specs.Laws.{IsMadeAs, MadeTermsKeepValues}
use Rattle.sym_block_def.specs.Outcome.{Held}
use Rattle.sym_block_def.specs.Block80.{Symbolic80, reg_term, with_reg, with_held, pair_term, with_pair, source, after_source, into}
use Rattle.sym_block_def.specs.Sorts.{HeldIsSorted}
use Rattle.simulation_def.specs.States.{IsCell}
use Rattle.simulation_def.specs.Runs80.{env80, FlagsHold80, Holds80}
use Rattle.sym_sound.proofs.Machine80.Writing.{each_written}
use Rattle.sym_sound.proofs.Machine80.Denoting.{Denotes, loads_byte, byte_loaded, stores_byte}
use Rattle.dialogue.proofs.Tried.{ok_is, then_is}
use Rattle.sym_sound.proofs.Machine80.Answering.{address_is, read_is, write_is}

pub reg_sorted : (x : Held) → HeldIsSorted x → (r : Reg) → IsMadeAs is_byte (reg_term x r)
reg_sorted x h A = h.a
reg_sorted x h B = h.b
reg_sorted x h C = h.c
reg_sorted x h D = h.d
reg_sorted x h E = h.e
reg_sorted x h H = h.h
reg_sorted x h L = h.l

-- a write to a register keeps the flags
flags_stay : (e : Env80) (x : Held) (f : Flags) (r : Reg) (t : Term) → FlagsHold80 e x f → FlagsHold80 e (with_reg x r t) f
flags_stay e x f A t h = h
flags_stay e x f B t h = h
flags_stay e x f C t h = h
flags_stay e x f D t h = h
flags_stay e x f E t h = h
flags_stay e x f H t h = h
flags_stay e x f L t h = h

-- what an operand that is read gives: the state holds what the terms after its load say, and its term has the operand's value
pub record Fetched (p : Program) (s0 : State80) (x : Symbolic80) (s : State80) (from : Src) (c : Cell) : Type 0 where
  pub loads : List Load80
  pub denotes : Denotes p s0 loads (after_source x from) s
  pub value : Val80 (env80 s0 loads) (source x from) (Byte c)
  pub cell : IsCell p c
  pub sorted : IsMadeAs is_byte (source x from)

module _ (p : Program) (s0 : State80) where
  -- registers and flags alone are changed
  pub sets_parts : (loads : List Load80) (x : Symbolic80) (s : State80) (y : Held) (regs : Regs80) (flags : Flags) → Denotes p s0 loads x s → ((r : Reg) → IsCell p (reg80 regs r)) → Holds80 (env80 s0 loads) y regs flags → Denotes p s0 loads (with_held x y) (record s { regs = regs; flags = flags })
  sets_parts loads x s y regs flags d cells h = record {
    is_state = record { regs = cells; mem = d.is_state.mem; sp = d.is_state.sp };
    holds = h;
    sp = d.sp;
    count = d.count;
    memory = d.memory;
    dma = d.dma;
  }

  pub sets_reg : (loads : List Load80) (x : Symbolic80) (s : State80) (r : Reg) (t : Term) (c : Cell) → Denotes p s0 loads x s → Val80 (env80 s0 loads) t (Byte c) → IsCell p c → Denotes p s0 loads (with_held x (with_reg x.held r t)) (record s { regs = with_reg80 s.regs r c })
  sets_reg loads x s r t c d v i =
      let h = d.holds in
      record {
        is_state = record {
          regs = each_written (λ u k. IsCell p k) x.held s.regs r t c i d.is_state.regs;
          mem = d.is_state.mem;
          sp = d.is_state.sp;
        };
        holds = record {
          in_regs = each_written (λ u k. Val80 (env80 s0 loads) u (Byte k)) x.held s.regs r t c v h.in_regs;
          in_flags = flags_stay (env80 s0 loads) x.held s.flags r t h.in_flags;
        };
        sp = d.sp;
        count = d.count;
        memory = d.memory;
        dma = d.dma;
      }

  -- a register that is read
  reads_reg : (loads : List Load80) (x : Symbolic80) (s : State80) (r : Reg) → Denotes p s0 loads x s → HeldIsSorted x.held → Fetched p s0 x s (InReg r) (reg80 s.regs r)
  reads_reg loads x s r d h = record { loads = loads; denotes = d; value = d.holds.in_regs r; cell = d.is_state.regs r; sorted = reg_sorted x.held h r }

module _ (keep : MadeTermsKeepValues) (p : Program) (s0 : State80) where
  -- the word in a pair
  pub pair_value : (loads : List Load80) (x : Symbolic80) (s : State80) (pair : Pair) → Denotes p s0 loads x s → HeldIsSorted x.held → Val80 (env80 s0 loads) (pair_term x pair) (Word (high_of s pair) (low_of s pair))
  pair_value loads x s PairB d h = (keep.on_8080 (env80 s0 loads)).join x.held.b x.held.c _ h.b h.c (d.holds.in_regs B, d.holds.in_regs C)
  pair_value loads x s PairD d h = (keep.on_8080 (env80 s0 loads)).join x.held.d x.held.e _ h.d h.e (d.holds.in_regs D, d.holds.in_regs E)
  pair_value loads x s PairH d h = (keep.on_8080 (env80 s0 loads)).join x.held.h x.held.l _ h.h h.l (d.holds.in_regs H, d.holds.in_regs L)
  pair_value loads x s Sp d h = d.sp

  -- the halves of a word into a pair of registers
  pub sets_bc : (loads : List Load80) (x : Symbolic80) (s : State80) (w : Term) (h l : Cell) → Denotes p s0 loads x s → IsMadeAs is_word w → Val80 (env80 s0 loads) w (Word h l) → IsCell p h → IsCell p l → Denotes p s0 loads (with_pair x PairB w) (with_bc s h l)
  sets_bc loads x s w h l d m v ih il =
      let k = keep.on_8080 (env80 s0 loads) in
      sets_reg p s0 loads _ _ C (low w) l (sets_reg p s0 loads x s B (high w) h d (k.high w (Byte h) m (l, v)) ih) (k.low w (Byte l) m (h, v)) il

  pub sets_de : (loads : List Load80) (x : Symbolic80) (s : State80) (w : Term) (h l : Cell) → Denotes p s0 loads x s → IsMadeAs is_word w → Val80 (env80 s0 loads) w (Word h l) → IsCell p h → IsCell p l → Denotes p s0 loads (with_pair x PairD w) (with_de s h l)
  sets_de loads x s w h l d m v ih il =
      let k = keep.on_8080 (env80 s0 loads) in
      sets_reg p s0 loads _ _ E (low w) l (sets_reg p s0 loads x s D (high w) h d (k.high w (Byte h) m (l, v)) ih) (k.low w (Byte l) m (h, v)) il

  pub sets_hl : (loads : List Load80) (x : Symbolic80) (s : State80) (w : Term) (h l : Cell) → Denotes p s0 loads x s → IsMadeAs is_word w → Val80 (env80 s0 loads) w (Word h l) → IsCell p h → IsCell p l → Denotes p s0 loads (with_pair x PairH w) (with_hl s h l)
  sets_hl loads x s w h l d m v ih il =
      let k = keep.on_8080 (env80 s0 loads) in
      sets_reg p s0 loads _ _ L (low w) l (sets_reg p s0 loads x s H (high w) h d (k.high w (Byte h) m (l, v)) ih) (k.low w (Byte l) m (h, v)) il

  -- an address in a pair
  pub pair_address : (loads : List Load80) (x : Symbolic80) (s : State80) (n : ℕ) → Denotes p s0 loads x s → HeldIsSorted x.held → address s.regs.h s.regs.l ≡ Ok n → (n < 0x10000) × Val80 (env80 s0 loads) (pair_term x PairH) (word_of n)
  pair_address loads x s n d h e =
      let a = address_is p s.regs.h s.regs.l n (d.is_state.regs H) (d.is_state.regs L) e in
      (a.0, subst (λ v. Val80 (env80 s0 loads) (pair_term x PairH) v) a.1 (pair_value loads x s PairH d h))

  -- an operand that is read
  pub fetches : (loads : List Load80) (x : Symbolic80) (s : State80) (from : Src) (c : Cell) → Denotes p s0 loads x s → HeldIsSorted x.held → source80 p s from ≡ Ok c → Fetched p s0 x s from c
  fetches loads x s (InReg r) c d h e = subst (λ k. Fetched p s0 x s (InReg r) k) (ok_is (reg80 s.regs r) c e) (reads_reg p s0 loads x s r d h)
  fetches loads x s Mem c d h e =
      let a = then_is (address s.regs.h s.regs.l) _ c e in
      let at = pair_address loads x s a.0 d h a.1 in
      let r = read_is p s a.0 c a.2 in
      let loaded : Fetched p s0 x s Mem (s.mem a.0) = record {
        loads = loads ++ LoadedByte (s.mem a.0) ∷ [];
        denotes = loads_byte p s0 loads x s (pair_term x PairH) a.0 d at.0 at.1 r.0;
        value = byte_loaded p s0 loads x s (s.mem a.0) d;
        cell = d.is_state.mem a.0 r.0;
        sorted = (tt, refl);
      } in
      subst (λ k. Fetched p s0 x s Mem k) r.1 loaded

  -- a byte into an operand
  pub puts : (loads : List Load80) (x : Symbolic80) (s s' : State80) (to : Src) (t : Term) (c : Cell) → Denotes p s0 loads x s → HeldIsSorted x.held → Val80 (env80 s0 loads) t (Byte c) → IsCell p c → into80 p s to c ≡ Ok s' → Denotes p s0 loads (into x to t) s'
  puts loads x s s' (InReg r) t c d h v i e = subst (λ u. Denotes p s0 loads (into x (InReg r) t) u) (ok_is _ s' e) (sets_reg p s0 loads x s r t c d v i)
  puts loads x s s' Mem t c d h v i e =
      let a = then_is (address s.regs.h s.regs.l) _ s' e in
      let at = pair_address loads x s a.0 d h a.1 in
      let w = write_is p s s' a.0 c a.2 in
      subst (λ u. Denotes p s0 loads (into x Mem t) u) w.1 (stores_byte p s0 loads x s (pair_term x PairH) t a.0 c d at.0 at.1 v w.0 i)
