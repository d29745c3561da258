-- Each instruction that goes on to the next one: the state holds what the terms say afterwards.
use Rattle.std.proofs.Common.{◌≡◌, ℕ, ◌+◌, ◌<◌, Bool, true, false, List, refl, sym, subst, arith}
use Rattle.std.specs.Int.Bits.{xor_self}
use Rattle.i86.specs.declared.Reg8.TheVariants.{Al}
use Rattle.i86.specs.declared.Reg16.TheVariants.{Ax}
use Rattle.i86.specs.declared.Operand8.{Operand8}
use Rattle.i86.specs.declared.Operand8.TheVariants.{Reg}
use Rattle.i86.specs.declared.Operand16.TheVariants.{Reg as Reg_16, Direct}
use Rattle.i86.specs.declared.AluOp.{AluOp}
use Rattle.i86.specs.declared.AluOp.TheVariants.{Sub as Sub86, Xor}
use Rattle.i86.specs.declared.Instr86.{Instr86}
use Rattle.i86.specs.declared.Instr86.TheVariants.{MovReg8, MovMem8, MovAlDirect, MovDirectAl, MovNum8, MovNum16, MovMemNum, MovReg16, MovDirect16, MovAxDs, MovSsAx, Alu as AluWith, AluNum, OrClCl, Add16, Count8, Count16, Push, Pop, Xchg8, Xchg16, Rotate8, Rotate16, Not8, Daa, Sahf, Lahf, Cmc, Stc, Nop, Jcc, JmpNear, JmpShort, JmpBx, CallNear, Ret, Int224, InAl, OutAl}
use Rattle.i86.specs.Enc86.{reg_of_stack}
use Rattle.base.specs.Arithmetic.{difference8, borrow4, borrow8}
use Rattle.cpu86.specs.State.{State86, reg8, reg16, pointed as pointed86, operand8 as operand86}
use Rattle.cpu86.specs.Flags.{flags_by, alu_result}
use Rattle.cpu86.specs.Effect.{set8, with_flags, effect, alu_al as alu_al86}
use Rattle.sym_terms.specs.Term.{Num, Unknown}
use Rattle.sym_terms.specs.Values86.{Load86, Env86}
use Rattle.sym_terms.specs.Laws.{MadeTermsKeepValues, MadeTermsHaveSorts}
use Rattle.sym_terms.proofs.Sorts.{byte_sorted, word_sorted}
use Rattle.sym_block_def.specs.Block80.{cleared}
use Rattle.sym_block_def.specs.Symbolic86.{Symbolic86, reg8_term, reg16_term, with_held, pointed, operand8, after_operand8, operated, alu_al, effect86}
use Rattle.sym_block_def.specs.Sorts.{IsCoded86}
use Rattle.sym_sound.proofs.Machine86.Words.{lt_false}
use Rattle.sym_sound.proofs.Machine86.Denoting.{Denotes, stores_byte, stores_word, sets_byte}
use Rattle.sym_sound.proofs.Machine86.Words86.{Denoted, HasSorts, reg16_value, reg16_small, sets_word, pointed_value, pointed_small, fetches, loads_into, loads_direct, moves_word, pushes, pops, exchanges_bytes, exchanges_words}
use Rattle.sym_sound.proofs.Machine86.Alu86.{operates}
use Rattle.sym_sound.proofs.Machine86.Counts86.{sets_cf, clears, ors_cl, counts, counts16, adds16, rotates, rotates16, adjusts, inverts, turns_cf, loads_flags, stores_flags}

-- it goes on to the next instruction, and is walked as such
abbrev pub goes_on : Instr86 → Bool
goes_on MovSsAx = false
goes_on (Jcc j d) = false
goes_on (JmpNear d) = false
goes_on (JmpShort d) = false
goes_on JmpBx = false
goes_on (CallNear d) = false
goes_on Ret = false
goes_on Int224 = false
goes_on (InAl port) = false
goes_on (OutAl port) = false
goes_on i = true

nothing_left : (x : ℕ) → difference8 x x 0 ≡ 0
nothing_left x = omega arith

none_borrowed : (x : ℕ) → borrow8 x x 0 ≡ false
none_borrowed x = lt_false x (x + 0) (omega arith)

module _ (keep : MadeTermsKeepValues) (sorts : MadeTermsHaveSorts) (e : Env86) (s0 : State86) where
  within : (loads : List Load86) (x : Symbolic86) (t : State86) → Denotes e s0 loads x t → Denoted e s0 x t
  within loads x t d = record { loads = loads; denotes = d }

  operates_on : (loads : List Load86) (x : Symbolic86) (s : State86) (op : AluOp) (o : Operand8) (choice : ℕ) → Denotes e s0 loads x s → HasSorts x → Denoted e s0 (operated (after_operand8 x o) op (operand8 x o)) (alu_al86 s op (operand86 s o) choice)
  operates_on loads x s op o choice d h =
      let f = fetches keep sorts e s0 loads x s o d h in
      within f.loads _ _ (operates keep sorts e s0 f.loads (after_operand8 x o) s op (operand8 x o) (operand86 s o) choice f.denotes f.has_sorts f.small f.value f.sorted)

  operates_or_clears : (loads : List Load86) (x : Symbolic86) (s : State86) (op : AluOp) (o : Operand8) (choice : ℕ) → Denotes e s0 loads x s → HasSorts x → Denoted e s0 (alu_al x op o) (alu_al86 s op (operand86 s o) choice)
  operates_or_clears loads x s Xor (Reg Al) choice d h = within loads _ _ (clears keep sorts e s0 loads x s (alu_result Xor s.regs.al s.regs.al s.flags.cf) _ d (xor_self s.regs.al))
  operates_or_clears loads x s Sub86 (Reg Al) choice d h =
      let n = s.regs.al in
      within loads _ _ (subst (λ b. Denotes e s0 loads (with_held x (cleared x.held)) (with_flags (set8 s Al (difference8 n n 0)) (flags_by (difference8 n n 0) (borrow4 n n 0) b))) (sym (none_borrowed n)) (clears keep sorts e s0 loads x s (difference8 n n 0) (borrow4 n n 0) d (nothing_left n)))
  operates_or_clears loads x s op o choice d h = operates_on loads x s op o choice d h

  pub row : (loads : List Load86) (x : Symbolic86) (s : State86) (i : Instr86) (choice : ℕ) → Denotes e s0 loads x s → HasSorts x → IsCoded86 i → goes_on i ≡ true → Denoted e s0 (effect86 x i) (effect i s choice)
  row loads x s (MovReg8 r o) choice d h c g = loads_into keep sorts e s0 loads x s r o d h
  row loads x s (MovMem8 p r) choice d h c g = within loads _ _ (stores_byte e s0 loads x s (pointed x p) (reg8_term x r) (pointed86 s p) (reg8 s.regs r) d (pointed_small keep sorts e s0 loads x s p d) (d.is_state.regs r) (pointed_value keep sorts e s0 loads x s p d h) (d.in_regs r))
  row loads x s (MovAlDirect a) choice d h c g = loads_direct keep sorts e s0 loads x s a d c
  row loads x s (MovDirectAl a) choice d h c g = within loads _ _ (stores_byte e s0 loads x s (Num a) x.held.a a s.regs.al d c (d.is_state.regs Al) refl (d.in_regs Al))
  row loads x s (MovNum8 r n) choice d h c g = within loads _ _ (sets_byte e s0 loads x s r (Num n) n d c refl)
  row loads x s (MovNum16 r w) choice d h c g = within loads _ _ (sets_word keep sorts e s0 loads x s r (Num w) w d c (word_sorted w c) refl)
  row loads x s (MovMemNum p n) choice d h c g = within loads _ _ (stores_byte e s0 loads x s (pointed x p) (Num n) (pointed86 s p) n d (pointed_small keep sorts e s0 loads x s p d) c (pointed_value keep sorts e s0 loads x s p d h) refl)
  row loads x s (MovReg16 r (Reg_16 q)) choice d h c g = moves_word keep sorts e s0 loads x s r (Reg_16 q) d h (λ a f. absurd (cc))
  row loads x s (MovReg16 r (Direct b)) choice d h c g = moves_word keep sorts e s0 loads x s r (Direct b) d h (λ a f. let same : b ≡ a = direct_is b a f in subst (λ k. k < 0x10000) same c)
    where
      direct_is : (b a : ℕ) → Direct b ≡ Direct a → b ≡ a
      direct_is b a f = cc
  row loads x s (MovDirect16 a r) choice d h c g = within loads _ _ (stores_word e s0 loads x s (Num a) (reg16_term x r) a (reg16 s r) d c (reg16_small keep sorts e s0 loads x s r d) refl (reg16_value keep sorts e s0 loads x s r d h))
  row loads x s MovAxDs choice d h c g = within loads _ _ (sets_word keep sorts e s0 loads x s Ax Unknown s.ds d d.is_state.ds (tt, refl) tt)
  row loads x s (AluWith op o) choice d h c g = operates_or_clears loads x s op o choice d h
  row loads x s (AluNum op n) choice d h c g = within loads _ _ (operates keep sorts e s0 loads x s op (Num n) n choice d h c refl (byte_sorted n c))
  row loads x s OrClCl choice d h c g = within loads _ _ (ors_cl keep sorts e s0 loads x s choice d h)
  row loads x s (Add16 r q) choice d h c g = within loads _ _ (adds16 keep sorts e s0 loads x s r q d h)
  row loads x s (Count8 k o) choice d h c g = counts keep sorts e s0 loads x s k o d h
  row loads x s (Count16 k r) choice d h c g = within loads _ _ (counts16 keep sorts e s0 loads x s k r d h)
  row loads x s (Push r) choice d h c g = within loads _ _ (pushes keep sorts e s0 loads x s (reg_of_stack r) d h)
  row loads x s (Pop r) choice d h c g = pops keep sorts e s0 loads x s (reg_of_stack r) d h
  row loads x s (Xchg8 r q) choice d h c g = within loads _ _ (exchanges_bytes keep sorts e s0 loads x s r q d)
  row loads x s (Xchg16 r q) choice d h c g = within loads _ _ (exchanges_words keep sorts e s0 loads x s r q d h)
  row loads x s (Rotate8 k r) choice d h c g = within loads _ _ (rotates keep sorts e s0 loads x s k r d h)
  row loads x s (Rotate16 k r) choice d h c g = within loads _ _ (rotates16 keep sorts e s0 loads x s k r d h)
  row loads x s (Not8 r) choice d h c g = within loads _ _ (inverts keep sorts e s0 loads x s r d h)
  row loads x s Daa choice d h c g = within loads _ _ (adjusts keep sorts e s0 loads x s choice d h)
  row loads x s Sahf choice d h c g = within loads _ _ (stores_flags keep sorts e s0 loads x s d h)
  row loads x s Lahf choice d h c g = within loads _ _ (loads_flags keep sorts e s0 loads x s choice d)
  row loads x s Cmc choice d h c g = within loads _ _ (turns_cf keep sorts e s0 loads x s d h)
  row loads x s Stc choice d h c g = within loads _ _ (sets_cf keep sorts e s0 loads x s (Num 1) true d refl)
  row loads x s Nop choice d h c g = within loads x s d
  row loads x s i choice d h c g = absurd (cc)
