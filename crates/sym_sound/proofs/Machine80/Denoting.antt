-- A state of the tagged 8080 that holds what the terms of a run say.
use Rattle.std.proofs.Common.{◌≡◌, ℕ, ◌+◌, ◌<◌, ◌==◌, Bool, true, false, cond, List, [], ◌∷◌, ◌++◌, length, refl, subst, arith}
use Rattle.std.proofs.lemmas.List.{length-append, append-nil}
use Rattle.cells.specs.declared.Flags.{Flags}
use Rattle.cells.specs.declared.Cell.{Cell}
use Rattle.asm80_types.specs.Program.{Program}
use Rattle.cpu80_tagged.specs.State.{State80, Regs80, reg80}
use Rattle.cpu80_tagged.specs.Memory.{is_closed, is_write_protected, put}
use Rattle.sym_terms.specs.Term.{Term, Loaded8, Loaded16}
use Rattle.sym_terms.specs.Values80.{Load80, LoadedByte, LoadedWord, Byte, Word, OneBit, word_of, Val80}
use Rattle.sym_terms.proofs.Places.{get_last_at}
use Rattle.sym_block_def.specs.Outcome.{Load8, Load16, Store8, Store16, Held}
use Rattle.sym_block_def.specs.Block80.{Symbolic80, reg_term, load8, load16, store8, store16}
use Rattle.simulation_def.specs.States.{IsCell, IsState80}
use Rattle.simulation_def.specs.Runs80.{env80, Holds80, Replays80}
use Rattle.sym_sound.proofs.Machine80.Values.{value_grows}
use Rattle.sym_sound.proofs.Machine80.Replaying.{replays_append}

-- From a state at the start, with what was loaded since: another state holds what the terms say.
pub record Denotes (p : Program) (s0 : State80) (loads : List Load80) (x : Symbolic80) (s : State80) : Type 0 where
  pub is_state : IsState80 p s
  pub holds : Holds80 (env80 s0 loads) x.held s.regs s.flags
  pub sp : Val80 (env80 s0 loads) x.sp (word_of s.sp)
  pub count : length loads ≡ x.trace.loads
  pub memory : Replays80 p (env80 s0 []) s0.mem x.trace.actions loads s.mem
  pub dma : s.dma ≡ s0.dma

pub holds_grow : (s0 : State80) (loads more : List Load80) (x : Held) (regs : Regs80) (flags : Flags) → Holds80 (env80 s0 loads) x regs flags → Holds80 (env80 s0 (loads ++ more)) x regs flags
holds_grow s0 loads more x regs flags h =
    let e = env80 s0 loads in
    record {
      in_regs = λ r. value_grows e more (reg_term x r) (Byte (reg80 regs r)) (h.in_regs r);
      in_flags = (value_grows e more x.s (OneBit flags.s) h.in_flags.0, value_grows e more x.z (OneBit flags.z) h.in_flags.1, value_grows e more x.ac (OneBit flags.ac) h.in_flags.2, value_grows e more x.p (OneBit flags.p) h.in_flags.3, value_grows e more x.cy (OneBit flags.cy) h.in_flags.4);
    }

-- a cell that is put into memory
pub cell_put : (p : Program) (m : ℕ → Cell) (n : ℕ) (c : Cell) (a : ℕ) → IsCell p (m a) → IsCell p c → IsCell p (put m n c a)
cell_put p m n c a h i = by_place (a == n)
  where
    by_place : (b : Bool) → IsCell p (cond b c (m a))
    by_place true = i
    by_place false = h

module _ (p : Program) (s0 : State80) where
  -- a load: the state stays, and what is loaded is the value of the next loaded byte or word
  pub loads_byte : (loads : List Load80) (x : Symbolic80) (s : State80) (address : Term) (n : ℕ) → Denotes p s0 loads x s → n < 0x10000 → Val80 (env80 s0 loads) address (word_of n) → is_closed p n ≡ false → Denotes p s0 (loads ++ LoadedByte (s.mem n) ∷ []) (load8 x address) s
  loads_byte loads x s address n d lt v open_cell =
      let more = LoadedByte (s.mem n) ∷ [] in
      record {
        is_state = d.is_state;
        holds = holds_grow s0 loads more x.held s.regs s.flags d.holds;
        sp = value_grows (env80 s0 loads) more x.sp _ d.sp;
        count = let c = d.count in omega (arith, length-append loads more, c);
        memory = replays_append p (env80 s0 []) s0.mem s.mem s.mem x.trace.actions (Load8 address ∷ []) loads more d.memory (n, (lt, v), open_cell, refl, refl);
        dma = d.dma;
      }

  pub byte_loaded : (loads : List Load80) (x : Symbolic80) (s : State80) (c : Cell) → Denotes p s0 loads x s → Val80 (env80 s0 (loads ++ LoadedByte c ∷ [])) (Loaded8 x.trace.loads) (Byte c)
  byte_loaded loads x s c d = get_last_at loads (LoadedByte c) x.trace.loads d.count

  pub loads_word : (loads : List Load80) (x : Symbolic80) (s : State80) (address : Term) (n : ℕ) → Denotes p s0 loads x s → n + 1 < 0x10000 → Val80 (env80 s0 loads) address (word_of n) → is_closed p n ≡ false → is_closed p (n + 1) ≡ false → Denotes p s0 (loads ++ LoadedWord (s.mem (n + 1)) (s.mem n) ∷ []) (load16 x address) s
  loads_word loads x s address n d lt v open_low open_high =
      let more = LoadedWord (s.mem (n + 1)) (s.mem n) ∷ [] in
      record {
        is_state = d.is_state;
        holds = holds_grow s0 loads more x.held s.regs s.flags d.holds;
        sp = value_grows (env80 s0 loads) more x.sp _ d.sp;
        count = let c = d.count in omega (arith, length-append loads more, c);
        memory = replays_append p (env80 s0 []) s0.mem s.mem s.mem x.trace.actions (Load16 address ∷ []) loads more d.memory (n, (lt, v), open_low, open_high, refl, refl, refl);
        dma = d.dma;
      }

  pub word_loaded : (loads : List Load80) (x : Symbolic80) (s : State80) (h l : Cell) → Denotes p s0 loads x s → Val80 (env80 s0 (loads ++ LoadedWord h l ∷ [])) (Loaded16 x.trace.loads) (Word h l)
  word_loaded loads x s h l d = get_last_at loads (LoadedWord h l) x.trace.loads d.count

  -- a store
  pub stores_byte : (loads : List Load80) (x : Symbolic80) (s : State80) (address value : Term) (n : ℕ) (c : Cell) → Denotes p s0 loads x s → n < 0x10000 → Val80 (env80 s0 loads) address (word_of n) → Val80 (env80 s0 loads) value (Byte c) → is_write_protected p n ≡ false → IsCell p c → Denotes p s0 loads (store8 x address value) (record s { mem = put s.mem n c })
  stores_byte loads x s address value n c d lt v w may i = record {
    is_state = record { regs = d.is_state.regs; mem = λ a o. cell_put p s.mem n c a (d.is_state.mem a o) i; sp = d.is_state.sp };
    holds = d.holds;
    sp = d.sp;
    count = d.count;
    memory = subst (λ ls. Replays80 p (env80 s0 []) s0.mem (x.trace.actions ++ Store8 address value ∷ []) ls (put s.mem n c)) (append-nil loads)
        (replays_append p (env80 s0 []) s0.mem s.mem (put s.mem n c) x.trace.actions (Store8 address value ∷ []) loads [] d.memory (n, c, (lt, v), w, may, refl));
    dma = d.dma;
  }

  pub stores_word : (loads : List Load80) (x : Symbolic80) (s : State80) (address value : Term) (n : ℕ) (h l : Cell) → Denotes p s0 loads x s → n + 1 < 0x10000 → Val80 (env80 s0 loads) address (word_of n) → Val80 (env80 s0 loads) value (Word h l) → is_write_protected p n ≡ false → is_write_protected p (n + 1) ≡ false → IsCell p h → IsCell p l → Denotes p s0 loads (store16 x address value) (record s { mem = put (put s.mem n l) (n + 1) h })
  stores_word loads x s address value n h l d lt v w may_low may_high i j = record {
    is_state = record { regs = d.is_state.regs; mem = λ a o. cell_put p (put s.mem n l) (n + 1) h a (cell_put p s.mem n l a (d.is_state.mem a o) j) i; sp = d.is_state.sp };
    holds = d.holds;
    sp = d.sp;
    count = d.count;
    memory = subst (λ ls. Replays80 p (env80 s0 []) s0.mem (x.trace.actions ++ Store16 address value ∷ []) ls (put (put s.mem n l) (n + 1) h)) (append-nil loads)
        (replays_append p (env80 s0 []) s0.mem s.mem (put (put s.mem n l) (n + 1) h) x.trace.actions (Store16 address value ∷ []) loads [] d.memory (n, h, l, (lt, v), w, may_low, may_high, refl));
    dma = d.dma;
  }
