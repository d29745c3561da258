-- A state of the 8086 that holds what the terms of a walk say.
use Rattle.std.proofs.Common.{◌≡◌, ℕ, ◌+◌, ◌/◌, ◌%◌, ◌<◌, ◌==◌, Bool, true, false, cond, List, [], ◌∷◌, ◌++◌, length, refl, sym, ap, subst, ◌∙◌, arith}
use Rattle.std.proofs.lemmas.List.{length-append, append-nil}
use Rattle.i86.specs.declared.Reg8.{Reg8}
use Rattle.i86.specs.declared.Reg8.TheVariants.{Al, Cl, Dl, Bl, Ah, Ch, Dh, Bh}
use Rattle.base.specs.Arithmetic.{as_bit}
use Rattle.dialogue.specs.ByteMemory.{put, word_at}
use Rattle.dialogue.specs.Words.{wrap}
use Rattle.cpu86.specs.State.{State86, Flags86, reg8, put_word}
use Rattle.cpu86.specs.Effect.{set8, with_flags}
use Rattle.sym_terms.specs.Term.{Term, Loaded8, Loaded16}
use Rattle.sym_terms.specs.Values86.{Env86, Load86, LoadedByte, LoadedWord, Number, Val86}
use Rattle.sym_terms.proofs.Places.{get_last_at}
use Rattle.sym_block_def.specs.Outcome.{Load8, Load16, Store8, Store16, Held, Trace}
use Rattle.sym_block_def.specs.Symbolic86.{Symbolic86, reg8_term, with_reg8, with_held, load8, load16, store8, store16}
use Rattle.simulation_def.specs.States.{IsState86}
use Rattle.simulation_def.specs.Runs86.{with_loads, FlagsHold86, Replays86}
use Rattle.sym_sound.proofs.Machine86.Values.{value_grows}
use Rattle.sym_sound.proofs.Machine86.Replaying.{replays_append}
use Rattle.sym_sound.proofs.Machine86.Writing.{each_written}

-- From a state at the start, with what was loaded since: another state holds what the terms say.
pub record Denotes (e : Env86) (s0 : State86) (loads : List Load86) (x : Symbolic86) (s : State86) : Type 0 where
  pub is_state : IsState86 s
  pub in_regs : (r : Reg8) → Val86 (with_loads e loads) (reg8_term x r) (Number (reg8 s.regs r))
  pub in_flags : FlagsHold86 (with_loads e loads) x.held s.flags
  pub si : Val86 (with_loads e loads) x.si (Number s.si)
  pub sp : Val86 (with_loads e loads) x.sp (Number s.sp)
  pub count : length loads ≡ x.trace.loads
  pub memory : Replays86 (with_loads e []) s0.mem x.trace.actions loads s.mem
  pub dma : s.dma ≡ s0.dma
  pub ds : s.ds ≡ s0.ds
  pub ss : s.ss ≡ s0.ss

flags_grow : (e : Env86) (loads more : List Load86) (x : Held) (f : Flags86) → FlagsHold86 (with_loads e loads) x f → FlagsHold86 (with_loads e (loads ++ more)) x f
flags_grow e loads more x f h =
    let d = with_loads e loads in
    (value_grows d more x.s (Number (as_bit f.sf)) h.0, value_grows d more x.z (Number (as_bit f.zf)) h.1, value_grows d more x.ac (Number (as_bit f.af)) h.2, value_grows d more x.p (Number (as_bit f.pf)) h.3, value_grows d more x.cy (Number (as_bit f.cf)) h.4)

-- a byte that is put into memory
byte_put : (m : ℕ → ℕ) (n b : ℕ) → ((a : ℕ) → m a < 256) → b < 256 → (a : ℕ) → put m n b a < 256
byte_put m n b h lt a = by_place (a == n)
  where
    by_place : (c : Bool) → cond c b (m a) < 256
    by_place true = lt
    by_place false = h a

pub word_put : (m : ℕ → ℕ) (n w : ℕ) → ((a : ℕ) → m a < 256) → w < 0x10000 → (a : ℕ) → put_word m n w a < 256
word_put m n w h lt = byte_put (put m n (w % 256)) (wrap (n + 1)) (w / 256) (byte_put m n (w % 256) h (omega arith)) (omega (arith, lt))

module _ (e : Env86) (s0 : State86) where
  -- a load: the state stays, and what is loaded is the value of the next loaded byte or word
  pub loads_byte : (loads : List Load86) (x : Symbolic86) (s : State86) (address : Term) (n : ℕ) → Denotes e s0 loads x s → n < 0x10000 → Val86 (with_loads e loads) address (Number n) → Denotes e s0 (loads ++ LoadedByte (s.mem n) ∷ []) (load8 x address) s
  loads_byte loads x s address n d lt v =
      let more = LoadedByte (s.mem n) ∷ [] in
      let now = with_loads e loads in
      record {
        is_state = d.is_state;
        in_regs = λ r. value_grows now more (reg8_term x r) (Number (reg8 s.regs r)) (d.in_regs r);
        in_flags = flags_grow e loads more x.held s.flags d.in_flags;
        si = value_grows now more x.si (Number s.si) d.si;
        sp = value_grows now more x.sp (Number s.sp) d.sp;
        count = let c = d.count in omega (arith, length-append loads more, c);
        memory = replays_append (with_loads e []) s0.mem s.mem s.mem x.trace.actions (Load8 address ∷ []) loads more d.memory (n, lt, v, refl, refl);
        dma = d.dma;
        ds = d.ds;
        ss = d.ss;
      }

  pub byte_loaded : (loads : List Load86) (x : Symbolic86) (s : State86) (b : ℕ) → Denotes e s0 loads x s → Val86 (with_loads e (loads ++ LoadedByte b ∷ [])) (Loaded8 x.trace.loads) (Number b)
  byte_loaded loads x s b d = get_last_at loads (LoadedByte b) x.trace.loads d.count

  pub loads_word : (loads : List Load86) (x : Symbolic86) (s : State86) (address : Term) (n : ℕ) → Denotes e s0 loads x s → n < 0x10000 → Val86 (with_loads e loads) address (Number n) → Denotes e s0 (loads ++ LoadedWord (word_at s.mem n) ∷ []) (load16 x address) s
  loads_word loads x s address n d lt v =
      let more = LoadedWord (word_at s.mem n) ∷ [] in
      let now = with_loads e loads in
      record {
        is_state = d.is_state;
        in_regs = λ r. value_grows now more (reg8_term x r) (Number (reg8 s.regs r)) (d.in_regs r);
        in_flags = flags_grow e loads more x.held s.flags d.in_flags;
        si = value_grows now more x.si (Number s.si) d.si;
        sp = value_grows now more x.sp (Number s.sp) d.sp;
        count = let c = d.count in omega (arith, length-append loads more, c);
        memory = replays_append (with_loads e []) s0.mem s.mem s.mem x.trace.actions (Load16 address ∷ []) loads more d.memory (n, lt, v, refl, refl);
        dma = d.dma;
        ds = d.ds;
        ss = d.ss;
      }

  pub word_loaded : (loads : List Load86) (x : Symbolic86) (s : State86) (w : ℕ) → Denotes e s0 loads x s → Val86 (with_loads e (loads ++ LoadedWord w ∷ [])) (Loaded16 x.trace.loads) (Number w)
  word_loaded loads x s w d = get_last_at loads (LoadedWord w) x.trace.loads d.count

  -- a store
  pub stores_byte : (loads : List Load86) (x : Symbolic86) (s : State86) (address value : Term) (n b : ℕ) → Denotes e s0 loads x s → n < 0x10000 → b < 256 → Val86 (with_loads e loads) address (Number n) → Val86 (with_loads e loads) value (Number b) → Denotes e s0 loads (store8 x address value) (record s { mem = put s.mem n b })
  stores_byte loads x s address value n b d ln lb v w = record {
    is_state = record { regs = d.is_state.regs; mem = byte_put s.mem n b d.is_state.mem lb; sp = d.is_state.sp; si = d.is_state.si; ds = d.is_state.ds };
    in_regs = d.in_regs;
    in_flags = d.in_flags;
    si = d.si;
    sp = d.sp;
    count = d.count;
    memory = subst (λ ls. Replays86 (with_loads e []) s0.mem (x.trace.actions ++ Store8 address value ∷ []) ls (put s.mem n b)) (append-nil loads)
        (replays_append (with_loads e []) s0.mem s.mem (put s.mem n b) x.trace.actions (Store8 address value ∷ []) loads [] d.memory (n, b, ln, lb, v, w, refl));
    dma = d.dma;
    ds = d.ds;
    ss = d.ss;
  }

  pub stores_word : (loads : List Load86) (x : Symbolic86) (s : State86) (address value : Term) (n w : ℕ) → Denotes e s0 loads x s → n < 0x10000 → w < 0x10000 → Val86 (with_loads e loads) address (Number n) → Val86 (with_loads e loads) value (Number w) → Denotes e s0 loads (store16 x address value) (record s { mem = put_word s.mem n w })
  stores_word loads x s address value n w d ln lw v u = record {
    is_state = record { regs = d.is_state.regs; mem = word_put s.mem n w d.is_state.mem lw; sp = d.is_state.sp; si = d.is_state.si; ds = d.is_state.ds };
    in_regs = d.in_regs;
    in_flags = d.in_flags;
    si = d.si;
    sp = d.sp;
    count = d.count;
    memory = subst (λ ls. Replays86 (with_loads e []) s0.mem (x.trace.actions ++ Store16 address value ∷ []) ls (put_word s.mem n w)) (append-nil loads)
        (replays_append (with_loads e []) s0.mem s.mem (put_word s.mem n w) x.trace.actions (Store16 address value ∷ []) loads [] d.memory (n, w, ln, lw, v, u, refl));
    dma = d.dma;
    ds = d.ds;
    ss = d.ss;
  }

  -- a byte register; the flags stay
  flags_stay : (x : Symbolic86) (f : Flags86) (d : Env86) (r : Reg8) (t : Term) → FlagsHold86 d x.held f → FlagsHold86 d (with_reg8 x r t).held f
  flags_stay x f d Al t h = h
  flags_stay x f d Cl t h = h
  flags_stay x f d Dl t h = h
  flags_stay x f d Bl t h = h
  flags_stay x f d Ah t h = h
  flags_stay x f d Ch t h = h
  flags_stay x f d Dh t h = h
  flags_stay x f d Bh t h = h

  -- so do SI, SP, and the loads and stores so far
  others_stay : (x : Symbolic86) (r : Reg8) (t : Term) → ((with_reg8 x r t).si ≡ x.si) × ((with_reg8 x r t).sp ≡ x.sp) × ((with_reg8 x r t).trace ≡ x.trace)
  others_stay x Al t = (refl, refl, refl)
  others_stay x Cl t = (refl, refl, refl)
  others_stay x Dl t = (refl, refl, refl)
  others_stay x Bl t = (refl, refl, refl)
  others_stay x Ah t = (refl, refl, refl)
  others_stay x Ch t = (refl, refl, refl)
  others_stay x Dh t = (refl, refl, refl)
  others_stay x Bh t = (refl, refl, refl)

  pub sets_byte : (loads : List Load86) (x : Symbolic86) (s : State86) (r : Reg8) (t : Term) (n : ℕ) → Denotes e s0 loads x s → n < 256 → Val86 (with_loads e loads) t (Number n) → Denotes e s0 loads (with_reg8 x r t) (set8 s r n)
  sets_byte loads x s r t n d lt v = record {
    is_state = record { regs = each_written (λ u k. k < 256) x s.regs r t n lt d.is_state.regs; mem = d.is_state.mem; sp = d.is_state.sp; si = d.is_state.si; ds = d.is_state.ds };
    in_regs = each_written (λ u k. Val86 (with_loads e loads) u (Number k)) x s.regs r t n v d.in_regs;
    in_flags = flags_stay x s.flags (with_loads e loads) r t d.in_flags;
    si = subst (λ u. Val86 (with_loads e loads) u (Number s.si)) (sym (others_stay x r t).0) d.si;
    sp = subst (λ u. Val86 (with_loads e loads) u (Number s.sp)) (sym (others_stay x r t).1) d.sp;
    count = d.count ∙ ap (λ (u : Trace). u.loads) (sym (others_stay x r t).2);
    memory = subst (λ (u : Trace). Replays86 (with_loads e []) s0.mem u.actions loads s.mem) (sym (others_stay x r t).2) d.memory;
    dma = d.dma;
    ds = d.ds;
    ss = d.ss;
  }

  -- flags, SI and SP alone
  pub sets_flags : (loads : List Load86) (x : Symbolic86) (s : State86) (y : Held) (f : Flags86) → Denotes e s0 loads x s → ((r : Reg8) → reg8_term (with_held x y) r ≡ reg8_term x r) → FlagsHold86 (with_loads e loads) y f → Denotes e s0 loads (with_held x y) (with_flags s f)
  sets_flags loads x s y f d same v = record {
    is_state = record { regs = d.is_state.regs; mem = d.is_state.mem; sp = d.is_state.sp; si = d.is_state.si; ds = d.is_state.ds };
    in_regs = λ r. subst (λ t. Val86 (with_loads e loads) t (Number (reg8 s.regs r))) (sym (same r)) (d.in_regs r);
    in_flags = v;
    si = d.si;
    sp = d.sp;
    count = d.count;
    memory = d.memory;
    dma = d.dma;
    ds = d.ds;
    ss = d.ss;
  }

  pub sets_si : (loads : List Load86) (x : Symbolic86) (s : State86) (t : Term) (n : ℕ) → Denotes e s0 loads x s → n < 0x10000 → Val86 (with_loads e loads) t (Number n) → Denotes e s0 loads (record x { si = t }) (record s { si = n })
  sets_si loads x s t n d lt v = record {
    is_state = record { regs = d.is_state.regs; mem = d.is_state.mem; sp = d.is_state.sp; si = lt; ds = d.is_state.ds };
    in_regs = d.in_regs;
    in_flags = d.in_flags;
    si = v;
    sp = d.sp;
    count = d.count;
    memory = d.memory;
    dma = d.dma;
    ds = d.ds;
    ss = d.ss;
  }

  pub sets_sp : (loads : List Load86) (x : Symbolic86) (s : State86) (t : Term) (n : ℕ) → Denotes e s0 loads x s → n < 0x10000 → Val86 (with_loads e loads) t (Number n) → Denotes e s0 loads (record x { sp = t }) (record s { sp = n })
  sets_sp loads x s t n d lt v = record {
    is_state = record { regs = d.is_state.regs; mem = d.is_state.mem; sp = lt; si = d.is_state.si; ds = d.is_state.ds };
    in_regs = d.in_regs;
    in_flags = d.in_flags;
    si = d.si;
    sp = v;
    count = d.count;
    memory = d.memory;
    dma = d.dma;
    ds = d.ds;
    ss = d.ss;
  }

  -- where the machine stands changes nothing that is held
  pub stands : (loads : List Load86) (x : Symbolic86) (s : State86) (ip : ℕ) → Denotes e s0 loads x s → Denotes e s0 loads x (record s { ip = ip })
  stands loads x s ip d = record {
    is_state = record { regs = d.is_state.regs; mem = d.is_state.mem; sp = d.is_state.sp; si = d.is_state.si; ds = d.is_state.ds };
    in_regs = d.in_regs;
    in_flags = d.in_flags;
    si = d.si;
    sp = d.sp;
    count = d.count;
    memory = d.memory;
    dma = d.dma;
    ds = d.ds;
    ss = d.ss;
  }
