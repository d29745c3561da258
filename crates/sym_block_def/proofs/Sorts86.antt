-- The instructions of the 8086 keep their terms made and of their sorts.
use Rattle.std.proofs.Common.{◌≡◌, ◌<◌, Bool, true, false, cond, refl, lit<}
use Rattle.cells.specs.declared.Part.{Part}
use Rattle.cells.specs.declared.Part.TheVariants.{A, B, C, D, E, H, L, S, Z, Ac, P, Cy}
use Rattle.cells.specs.Parts.{Parts, has}
use Rattle.i80.specs.declared.Op.TheVariants.{Xra, Ora}
use Rattle.i86.specs.declared.Reg8.{Reg8}
use Rattle.i86.specs.declared.Reg8.TheVariants.{Al, Cl, Dl, Bl, Ah, Ch, Dh, Bh}
use Rattle.i86.specs.declared.Reg16.{Reg16}
use Rattle.i86.specs.declared.Reg16.TheVariants.{Ax, Cx, Dx, Bx, Sp, Si}
use Rattle.i86.specs.declared.Ptr.{Ptr}
use Rattle.i86.specs.declared.Ptr.TheVariants.{Bx as PtrBx, Si as PtrSi}
use Rattle.i86.specs.declared.Operand8.{Operand8}
use Rattle.i86.specs.declared.Operand8.TheVariants.{Reg, Mem}
use Rattle.i86.specs.declared.Operand16.{Operand16}
use Rattle.i86.specs.declared.Operand16.TheVariants.{Reg as Reg_16, Direct}
use Rattle.i86.specs.declared.AluOp.{AluOp}
use Rattle.i86.specs.declared.Count.{Count}
use Rattle.i86.specs.declared.Count.TheVariants.{Inc, Dec}
use Rattle.i86.specs.declared.Rotate.{Rotate}
use Rattle.i86.specs.declared.Rotate.TheVariants.{Rol, Ror, Rcl, Rcr}
use Rattle.i86.specs.declared.Instr86.{Instr86}
use Rattle.i86.specs.declared.Instr86.TheVariants.{MovReg8, MovMem8, MovAlDirect, MovDirectAl, MovNum8, MovNum16, MovMemNum, MovReg16, MovDirect16, MovAxDs, Alu as AluWith, AluNum, OrClCl, Add16, Count8, Count16, Push, Pop, Xchg8, Xchg16, Rotate8, Rotate16, Not8, Daa, Sahf, Lahf, Cmc, Stc}
use Rattle.i86.specs.Enc86.{reg_of_stack}
use Rattle.asm86_line_types.specs.declared.line.Label.{Label}
use Rattle.asm86_line_types.specs.declared.line.Label.TheVariants.{At, Skip, User, Sys, End}
use Rattle.cells.specs.declared.Place.{Place}
use Rattle.cells.specs.declared.Place.TheVariants.{At as AtPlace, Exit}
use Rattle.sym_terms.specs.Term.{Term, Num, Start, Turned, Code, Unknown, is_bit, is_byte, is_word}
use Rattle.sym_terms.specs.Making.{alu, flag, sum16, high, low, turn, adjust, carry_of}
use Rattle.sym_terms.specs.Laws.{IsMadeAs, MadeTermsHaveSorts}
use Rattle.sym_terms.proofs.Sorts.{byte_sorted, word_sorted}
use Rattle.sym_block_def.specs.Outcome.{Load8, Load16, Store8, Store16, Held, with_flags_of, with_count_flags_of, with_flags_in}
use Rattle.sym_block_def.specs.Block80.{operation, carry_in, with_result, cleared, flag_byte}
use Rattle.sym_block_def.specs.Symbolic86.{Symbolic86, start_if, start86, reg8_term, with_reg8, reg16_term, with_reg16, with_held, with_cf, load8, load16, store8, store16, next_byte, next_word, pointed, operand8, after_operand8, into_operand8, operand16, after_operand16, op_of, operated, clears_al, alu_al, or_cl, count_op, count8, losing_flags, count_step, count16, add16, turn_kind, turn_carry, rotate8, brought_back, rotate16, daa, push, pop, xchg8, xchg16, code_word, offset_term, effect86}
use Rattle.sym_block_def.specs.Sorts.{HeldIsSorted, AreSorted86, IsCoded86}
use Rattle.sym_block_def.proofs.Sorts80.{appended, zero_bit, one_bit, one_byte, IsResult, alu_result, adjust_result, turn_flag, carry_sorted, complement_sorted, flags_sorted, count_flags_sorted, flags_in_sorted, flag_byte_sorted, a_sorted, cy_sorted, bc_sorted, de_sorted, hl_sorted, carry_in_sorted, result_sorted, cleared_sorted}

module _ (m : MadeTermsHaveSorts) where
  held_sorted : (s : Symbolic86) (x : Held) → AreSorted86 s → HeldIsSorted x → AreSorted86 (with_held s x)
  held_sorted s x h k = record { held = k; ah = h.ah; si = h.si; sp = h.sp; actions = h.actions }

  sp_sorted : (s : Symbolic86) (t : Term) → AreSorted86 s → IsMadeAs is_word t → AreSorted86 (record s { sp = t })
  sp_sorted s t h p = record { held = h.held; ah = h.ah; si = h.si; sp = p; actions = h.actions }

  ah_sorted : (s : Symbolic86) (t : Term) → AreSorted86 s → IsMadeAs is_byte t → AreSorted86 (record s { ah = t })
  ah_sorted s t h p = record { held = h.held; ah = p; si = h.si; sp = h.sp; actions = h.actions }

  cf_sorted : (s : Symbolic86) (t : Term) → AreSorted86 s → IsMadeAs is_bit t → AreSorted86 (with_cf s t)
  cf_sorted s t h p = held_sorted s (record (s.held) { cy = t }) h (cy_sorted m s.held t h.held p)

  reg8_sorted : (s : Symbolic86) (r : Reg8) → AreSorted86 s → IsMadeAs is_byte (reg8_term s r)
  reg8_sorted s Al h = h.held.a
  reg8_sorted s Cl h = h.held.c
  reg8_sorted s Dl h = h.held.e
  reg8_sorted s Bl h = h.held.l
  reg8_sorted s Ah h = h.ah
  reg8_sorted s Ch h = h.held.b
  reg8_sorted s Dh h = h.held.d
  reg8_sorted s Bh h = h.held.h

  with_reg8_sorted : (s : Symbolic86) (r : Reg8) (t : Term) → AreSorted86 s → IsMadeAs is_byte t → AreSorted86 (with_reg8 s r t)
  with_reg8_sorted s Al t h p = held_sorted s (record (s.held) { a = t }) h (a_sorted m s.held t h.held p)
  with_reg8_sorted s Cl t h p = held_sorted s (record (s.held) { c = t }) h (bc_sorted m s.held s.held.b t h.held h.held.b p)
  with_reg8_sorted s Dl t h p = held_sorted s (record (s.held) { e = t }) h (de_sorted m s.held s.held.d t h.held h.held.d p)
  with_reg8_sorted s Bl t h p = held_sorted s (record (s.held) { l = t }) h (hl_sorted m s.held s.held.h t h.held h.held.h p)
  with_reg8_sorted s Ah t h p = ah_sorted s t h p
  with_reg8_sorted s Ch t h p = held_sorted s (record (s.held) { b = t }) h (bc_sorted m s.held t s.held.c h.held p h.held.c)
  with_reg8_sorted s Dh t h p = held_sorted s (record (s.held) { d = t }) h (de_sorted m s.held t s.held.e h.held p h.held.e)
  with_reg8_sorted s Bh t h p = held_sorted s (record (s.held) { h = t }) h (hl_sorted m s.held t s.held.l h.held p h.held.l)

  reg16_sorted : (s : Symbolic86) (r : Reg16) → AreSorted86 s → IsMadeAs is_word (reg16_term s r)
  reg16_sorted s Ax h = m.join s.ah s.held.a h.ah h.held.a
  reg16_sorted s Cx h = m.join s.held.b s.held.c h.held.b h.held.c
  reg16_sorted s Dx h = m.join s.held.d s.held.e h.held.d h.held.e
  reg16_sorted s Bx h = m.join s.held.h s.held.l h.held.h h.held.l
  reg16_sorted s Sp h = h.sp
  reg16_sorted s Si h = h.si

  pub with_reg16_sorted : (s : Symbolic86) (r : Reg16) (w : Term) → AreSorted86 s → IsMadeAs is_word w → AreSorted86 (with_reg16 s r w)
  with_reg16_sorted s Ax w h p = ah_sorted (with_held s (record (s.held) { a = low w })) (high w) (held_sorted s (record (s.held) { a = low w }) h (a_sorted m s.held (low w) h.held (m.low w p))) (m.high w p)
  with_reg16_sorted s Cx w h p = held_sorted s (record (s.held) { b = high w; c = low w }) h (bc_sorted m s.held (high w) (low w) h.held (m.high w p) (m.low w p))
  with_reg16_sorted s Dx w h p = held_sorted s (record (s.held) { d = high w; e = low w }) h (de_sorted m s.held (high w) (low w) h.held (m.high w p) (m.low w p))
  with_reg16_sorted s Bx w h p = held_sorted s (record (s.held) { h = high w; l = low w }) h (hl_sorted m s.held (high w) (low w) h.held (m.high w p) (m.low w p))
  with_reg16_sorted s Sp w h p = sp_sorted s w h p
  with_reg16_sorted s Si w h p = record { held = h.held; ah = h.ah; si = p; sp = h.sp; actions = h.actions }

  -- loads and stores

  load8_sorted : (s : Symbolic86) (address : Term) → AreSorted86 s → IsMadeAs is_word address → AreSorted86 (load8 s address)
  load8_sorted s address h p = record { held = h.held; ah = h.ah; si = h.si; sp = h.sp; actions = appended s.trace.actions (Load8 address) h.actions p }

  load16_sorted : (s : Symbolic86) (address : Term) → AreSorted86 s → IsMadeAs is_word address → AreSorted86 (load16 s address)
  load16_sorted s address h p = record { held = h.held; ah = h.ah; si = h.si; sp = h.sp; actions = appended s.trace.actions (Load16 address) h.actions p }

  store8_sorted : (s : Symbolic86) (address value : Term) → AreSorted86 s → IsMadeAs is_word address → IsMadeAs is_byte value → AreSorted86 (store8 s address value)
  store8_sorted s address value h p q = record { held = h.held; ah = h.ah; si = h.si; sp = h.sp; actions = appended s.trace.actions (Store8 address value) h.actions (p, q) }

  store16_sorted : (s : Symbolic86) (address value : Term) → AreSorted86 s → IsMadeAs is_word address → IsMadeAs is_word value → AreSorted86 (store16 s address value)
  store16_sorted s address value h p q = record { held = h.held; ah = h.ah; si = h.si; sp = h.sp; actions = appended s.trace.actions (Store16 address value) h.actions (p, q) }

  pointed_sorted : (s : Symbolic86) (p : Ptr) → AreSorted86 s → IsMadeAs is_word (pointed s p)
  pointed_sorted s PtrBx h = reg16_sorted s Bx h
  pointed_sorted s PtrSi h = h.si

  operand8_sorted : (s : Symbolic86) (o : Operand8) → AreSorted86 s → IsMadeAs is_byte (operand8 s o)
  operand8_sorted s (Reg r) h = reg8_sorted s r h
  operand8_sorted s (Mem p) h = (tt, refl)

  after_operand8_sorted : (s : Symbolic86) (o : Operand8) → AreSorted86 s → AreSorted86 (after_operand8 s o)
  after_operand8_sorted s (Reg r) h = h
  after_operand8_sorted s (Mem p) h = load8_sorted s (pointed s p) h (pointed_sorted s p h)

  into_operand8_sorted : (s : Symbolic86) (o : Operand8) (t : Term) → AreSorted86 s → IsMadeAs is_byte t → AreSorted86 (into_operand8 s o t)
  into_operand8_sorted s (Reg r) t h p = with_reg8_sorted s r t h p
  into_operand8_sorted s (Mem q) t h p = store8_sorted s (pointed s q) t h (pointed_sorted s q h) p

  mov16_sorted : (s : Symbolic86) (r : Reg16) (o : Operand16) → IsCoded86 (MovReg16 r o) → AreSorted86 s → AreSorted86 (with_reg16 (after_operand16 s o) r (operand16 s o))
  mov16_sorted s r (Reg_16 q) k h = with_reg16_sorted s r (reg16_term s q) h (reg16_sorted s q h)
  mov16_sorted s r (Direct a) k h = with_reg16_sorted (load16 s (Num a)) r (next_word s) (load16_sorted s (Num a) h (word_sorted a k)) (tt, refl)

  -- arithmetic

  operated_sorted : (s : Symbolic86) (op : AluOp) (b : Term) → AreSorted86 s → IsMadeAs is_byte b → AreSorted86 (operated s op b)
  operated_sorted s op b h p =
      let x = s.held in
      held_sorted s (with_result (op_of op) (alu (operation (op_of op)) x.a b (carry_in (op_of op) x.cy)) x) h
      (result_sorted m (op_of op) (alu (operation (op_of op)) x.a b (carry_in (op_of op) x.cy)) x
      (alu_result m (operation (op_of op)) x.a b (carry_in (op_of op) x.cy) h.held.a p (carry_in_sorted m (op_of op) x.cy h.held.cy))
      h.held)

  alu_sorted : (s : Symbolic86) (op : AluOp) (o : Operand8) → AreSorted86 s → AreSorted86 (alu_al s op o)
  alu_sorted s op o h = by_test (clears_al op o)
    where
      by_test : (x : Bool) → AreSorted86 (cond x (with_held s (cleared s.held)) (operated (after_operand8 s o) op (operand8 s o)))
      by_test true = held_sorted s (cleared s.held) h (cleared_sorted m s.held h.held)
      by_test false = operated_sorted (after_operand8 s o) op (operand8 s o) (after_operand8_sorted s o h) (operand8_sorted s o h)

  or_cl_sorted : (s : Symbolic86) → AreSorted86 s → AreSorted86 (or_cl s)
  or_cl_sorted s h =
      let r = alu Ora s.held.c s.held.c (Num 0) in
      let f : IsResult (alu Ora s.held.c s.held.c (Num 0)) = alu_result m Ora s.held.c s.held.c (Num 0) h.held.c h.held.c zero_bit in
      held_sorted s (with_flags_of r (record (s.held) { c = r })) h (flags_sorted m r (record (s.held) { c = r }) f (bc_sorted m s.held s.held.b r h.held h.held.b f.byte))

  count8_sorted : (s : Symbolic86) (c : Count) (o : Operand8) → AreSorted86 s → AreSorted86 (count8 s c o)
  count8_sorted s c o h =
      let r = alu (count_op c) (operand8 s o) (Num 1) (Num 0) in
      let f : IsResult (alu (count_op c) (operand8 s o) (Num 1) (Num 0)) = alu_result m (count_op c) (operand8 s o) (Num 1) (Num 0) (operand8_sorted s o h) one_byte zero_bit in
      let t : AreSorted86 (into_operand8 (after_operand8 s o) o r) = into_operand8_sorted (after_operand8 s o) o r (after_operand8_sorted s o h) f.byte in
      held_sorted (into_operand8 (after_operand8 s o) o r) (with_count_flags_of r (into_operand8 (after_operand8 s o) o r).held) t (count_flags_sorted m r (into_operand8 (after_operand8 s o) o r).held f t.held)

  losing_sorted : (s : Symbolic86) → AreSorted86 s → AreSorted86 (losing_flags s)
  losing_sorted s h = held_sorted s (record (s.held) { s = Unknown; z = Unknown; ac = Unknown; p = Unknown }) h
      (record { a = h.held.a; b = h.held.b; c = h.held.c; d = h.held.d; e = h.held.e; h = h.held.h; l = h.held.l; s = (tt, refl); z = (tt, refl); ac = (tt, refl); p = (tt, refl); cy = h.held.cy })

  step_below : (c : Count) → count_step c < 0x10000
  step_below Inc = lit< tt
  step_below Dec = lit< tt

  count16_sorted : (s : Symbolic86) (c : Count) (r : Reg16) → AreSorted86 s → AreSorted86 (count16 s c r)
  count16_sorted s c r h =
      let w = sum16 (reg16_term s r) (Num (count_step c)) in
      losing_sorted (with_reg16 s r w) (with_reg16_sorted s r w h (m.sum16 (reg16_term s r) (Num (count_step c)) (reg16_sorted s r h) (word_sorted (count_step c) (step_below c))))

  add16_sorted : (s : Symbolic86) (r q : Reg16) → AreSorted86 s → AreSorted86 (add16 s r q)
  add16_sorted s r q h =
      let w = sum16 (reg16_term s r) (reg16_term s q) in
      cf_sorted (losing_flags (with_reg16 s r w)) (carry_of (reg16_term s r) (reg16_term s q))
      (losing_sorted (with_reg16 s r w) (with_reg16_sorted s r w h (m.sum16 (reg16_term s r) (reg16_term s q) (reg16_sorted s r h) (reg16_sorted s q h))))
      (carry_sorted m (reg16_term s r) (reg16_term s q) (reg16_sorted s r h) (reg16_sorted s q h))

  -- rotations

  kind_below : (k : Rotate) → turn_kind k < 4
  kind_below Rol = lit< tt
  kind_below Ror = lit< tt
  kind_below Rcl = lit< tt
  kind_below Rcr = lit< tt

  turn_carry_sorted : (k : Rotate) (cf : Term) → IsMadeAs is_bit cf → IsMadeAs is_bit (turn_carry k cf)
  turn_carry_sorted Rol cf h = zero_bit
  turn_carry_sorted Ror cf h = zero_bit
  turn_carry_sorted Rcl cf h = h
  turn_carry_sorted Rcr cf h = h

  rotate8_sorted : (s : Symbolic86) (k : Rotate) (r : Reg8) → AreSorted86 s → AreSorted86 (rotate8 s k r)
  rotate8_sorted s k r h =
      let c : IsMadeAs is_bit (turn_carry k s.held.cy) = turn_carry_sorted k s.held.cy h.held.cy in
      let t = turn (turn_kind k) (reg8_term s r) (turn_carry k s.held.cy) in
      cf_sorted (with_reg8 s r t) (flag Cy t)
      (with_reg8_sorted s r t h (m.turn (turn_kind k) (reg8_term s r) (turn_carry k s.held.cy) (kind_below k) (reg8_sorted s r h) c))
      (turn_flag m (turn_kind k) (reg8_term s r) (turn_carry k s.held.cy) (kind_below k) (reg8_sorted s r h) c)

  brought_back_sorted : (w : Term) → IsMadeAs is_word w → IsMadeAs is_bit (brought_back w)
  brought_back_sorted (Turned c) h = h.0
  brought_back_sorted w h = (tt, refl)

  rotate16_sorted : (s : Symbolic86) (k : Rotate) (r : Reg16) → AreSorted86 s → AreSorted86 (rotate16 s k r)
  rotate16_sorted s Rol r h = cf_sorted (with_reg16 s r Unknown) Unknown (with_reg16_sorted s r Unknown h (tt, refl)) (tt, refl)
  rotate16_sorted s Ror r h = cf_sorted (with_reg16 s r Unknown) Unknown (with_reg16_sorted s r Unknown h (tt, refl)) (tt, refl)
  rotate16_sorted s Rcl r h = cf_sorted (with_reg16 s r Unknown) (brought_back (reg16_term s r)) (with_reg16_sorted s r Unknown h (tt, refl)) (brought_back_sorted (reg16_term s r) (reg16_sorted s r h))
  rotate16_sorted s Rcr r h = cf_sorted (with_reg16 s r (Turned s.held.cy)) Unknown (with_reg16_sorted s r (Turned s.held.cy) h (m.turned s.held.cy h.held.cy)) (tt, refl)

  daa_sorted : (s : Symbolic86) → AreSorted86 s → AreSorted86 (daa s)
  daa_sorted s h =
      let r = adjust s.held.a s.held.ac s.held.cy in
      let f : IsResult (adjust s.held.a s.held.ac s.held.cy) = adjust_result m s.held.a s.held.ac s.held.cy h.held.a h.held.ac h.held.cy in
      held_sorted s (with_flags_of r (record (s.held) { a = r })) h (flags_sorted m r (record (s.held) { a = r }) f (a_sorted m s.held r h.held f.byte))

  -- the stack, and exchanges

  push_sorted : (s : Symbolic86) (r : Reg16) → AreSorted86 s → AreSorted86 (push s r)
  push_sorted s r h =
      let q : IsMadeAs is_word (sum16 s.sp (Num 0xFFFE)) = m.sum16 s.sp (Num 0xFFFE) h.sp (word_sorted 0xFFFE (lit< tt)) in
      sp_sorted (store16 s (sum16 s.sp (Num 0xFFFE)) (reg16_term s r)) (sum16 s.sp (Num 0xFFFE)) (store16_sorted s (sum16 s.sp (Num 0xFFFE)) (reg16_term s r) h q (reg16_sorted s r h)) q

  pop_sorted : (s : Symbolic86) (r : Reg16) → AreSorted86 s → AreSorted86 (pop s r)
  pop_sorted s r h =
      with_reg16_sorted (record (load16 s s.sp) { sp = sum16 s.sp (Num 2) }) r (next_word s)
      (sp_sorted (load16 s s.sp) (sum16 s.sp (Num 2)) (load16_sorted s s.sp h h.sp) (m.sum16 s.sp (Num 2) h.sp (word_sorted 2 (lit< tt))))
      (tt, refl)

  xchg8_sorted : (s : Symbolic86) (r q : Reg8) → AreSorted86 s → AreSorted86 (xchg8 s r q)
  xchg8_sorted s r q h = with_reg8_sorted (with_reg8 s r (reg8_term s q)) q (reg8_term s r) (with_reg8_sorted s r (reg8_term s q) h (reg8_sorted s q h)) (reg8_sorted s r h)

  xchg16_sorted : (s : Symbolic86) (r q : Reg16) → AreSorted86 s → AreSorted86 (xchg16 s r q)
  xchg16_sorted s r q h = with_reg16_sorted (with_reg16 s r (reg16_term s q)) q (reg16_term s r) (with_reg16_sorted s r (reg16_term s q) h (reg16_sorted s q h)) (reg16_sorted s r h)

  code_word_sorted : (q : Place) → IsMadeAs is_word (code_word q)
  code_word_sorted q = m.join (Code q true) (Code q false) (tt, refl) (tt, refl)

  pub offset_sorted : (l : Label) → IsMadeAs is_word (offset_term l)
  offset_sorted (At a) = code_word_sorted (AtPlace a)
  offset_sorted (Skip a) = (tt, refl)
  offset_sorted (User a) = (tt, refl)
  offset_sorted Sys = (tt, refl)
  offset_sorted End = code_word_sorted Exit

  -- the table
  pub effect86_sorted : (s : Symbolic86) (i : Instr86) → IsCoded86 i → AreSorted86 s → AreSorted86 (effect86 s i)
  effect86_sorted s (MovReg8 r o) k h = with_reg8_sorted (after_operand8 s o) r (operand8 s o) (after_operand8_sorted s o h) (operand8_sorted s o h)
  effect86_sorted s (MovMem8 p r) k h = store8_sorted s (pointed s p) (reg8_term s r) h (pointed_sorted s p h) (reg8_sorted s r h)
  effect86_sorted s (MovAlDirect a) k h = with_reg8_sorted (load8 s (Num a)) Al (next_byte s) (load8_sorted s (Num a) h (word_sorted a k)) (tt, refl)
  effect86_sorted s (MovDirectAl a) k h = store8_sorted s (Num a) s.held.a h (word_sorted a k) h.held.a
  effect86_sorted s (MovNum8 r n) k h = with_reg8_sorted s r (Num n) h (byte_sorted n k)
  effect86_sorted s (MovNum16 r w) k h = with_reg16_sorted s r (Num w) h (word_sorted w k)
  effect86_sorted s (MovMemNum p n) k h = store8_sorted s (pointed s p) (Num n) h (pointed_sorted s p h) (byte_sorted n k)
  effect86_sorted s (MovReg16 r o) k h = mov16_sorted s r o k h
  effect86_sorted s (MovDirect16 a r) k h = store16_sorted s (Num a) (reg16_term s r) h (word_sorted a k) (reg16_sorted s r h)
  effect86_sorted s MovAxDs k h = with_reg16_sorted s Ax Unknown h (tt, refl)
  effect86_sorted s (AluWith op o) k h = alu_sorted s op o h
  effect86_sorted s (AluNum op n) k h = operated_sorted s op (Num n) h (byte_sorted n k)
  effect86_sorted s OrClCl k h = or_cl_sorted s h
  effect86_sorted s (Add16 r q) k h = add16_sorted s r q h
  effect86_sorted s (Count8 c o) k h = count8_sorted s c o h
  effect86_sorted s (Count16 c r) k h = count16_sorted s c r h
  effect86_sorted s (Push r) k h = push_sorted s (reg_of_stack r) h
  effect86_sorted s (Pop r) k h = pop_sorted s (reg_of_stack r) h
  effect86_sorted s (Xchg8 r q) k h = xchg8_sorted s r q h
  effect86_sorted s (Xchg16 r q) k h = xchg16_sorted s r q h
  effect86_sorted s (Rotate8 kind r) k h = rotate8_sorted s kind r h
  effect86_sorted s (Rotate16 kind r) k h = rotate16_sorted s kind r h
  effect86_sorted s (Not8 r) k h = with_reg8_sorted s r (alu Xra (reg8_term s r) (Num 0xFF) (Num 0)) h (m.alu Xra (reg8_term s r) (Num 0xFF) (Num 0) (reg8_sorted s r h) (byte_sorted 0xFF (lit< tt)) zero_bit)
  effect86_sorted s Daa k h = daa_sorted s h
  effect86_sorted s Sahf k h = held_sorted s (with_flags_in s.ah s.held) h (flags_in_sorted m s.ah s.held h.ah h.held)
  effect86_sorted s Lahf k h = ah_sorted s (flag_byte s.held) h (flag_byte_sorted m s.held h.held)
  effect86_sorted s Cmc k h = cf_sorted s (alu Xra s.held.cy (Num 1) (Num 0)) h (complement_sorted m s.held.cy h.held.cy)
  effect86_sorted s Stc k h = cf_sorted s (Num 1) h one_bit
  effect86_sorted s i k h = h

  -- the start

  start_byte : (keep : Parts) (part : Part) → IsMadeAs is_byte (start_if keep part)
  start_byte keep part = by_test (has keep part)
    where
      by_test : (x : Bool) → IsMadeAs is_byte (cond x (Start part) Unknown)
      by_test true = (tt, refl)
      by_test false = (tt, refl)

  start_bit : (keep : Parts) (part : Part) → is_bit (Start part) ≡ true → IsMadeAs is_bit (start_if keep part)
  start_bit keep part h = by_test (has keep part)
    where
      by_test : (x : Bool) → IsMadeAs is_bit (cond x (Start part) Unknown)
      by_test true = (tt, h)
      by_test false = (tt, refl)

  pub start86_sorted : (keep : Parts) → AreSorted86 (start86 keep)
  start86_sorted keep = record {
    held = record { a = start_byte keep A; b = start_byte keep B; c = start_byte keep C; d = start_byte keep D; e = start_byte keep E; h = start_byte keep H; l = start_byte keep L; s = start_bit keep S refl; z = start_bit keep Z refl; ac = start_bit keep Ac refl; p = start_bit keep P refl; cy = start_bit keep Cy refl };
    ah = (tt, refl);
    si = (tt, refl);
    sp = (tt, refl);
    actions = tt;
  }
