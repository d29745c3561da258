-- Each instruction that ends no block: where its effect is not refused, the state holds what the terms say afterwards.
use Rattle.std.proofs.Common.{◌≡◌, ℕ, ◌<◌, Bool, true, false, cond, List, Result, Ok, refl, sym, ap, subst, ◌∙◌, arith}
use Rattle.cells.specs.declared.Cell.{Cell}
use Rattle.cells.specs.declared.Cell.TheVariants.{Num as NumCell}
use Rattle.cells.specs.declared.Place.TheVariants.{At}
use Rattle.cells.specs.declared.Rule.{Rule}
use Rattle.i80.specs.declared.Reg.TheVariants.{B, C, D, E}
use Rattle.i80.specs.declared.Src.{Src}
use Rattle.i80.specs.declared.Src.TheVariants.{Reg as InReg, Mem}
use Rattle.i80.specs.declared.Pair.TheVariants.{B as PairB, D as PairD, H as PairH, Sp}
use Rattle.i80.specs.declared.Op.{Op}
use Rattle.i80.specs.declared.Word.TheVariants.{Num as Number, Code as CodeAt}
use Rattle.i80.specs.declared.Instr80.{Instr80}
use Rattle.i80.specs.declared.Instr80.TheVariants.{Nop, Mov, Mvi, Lxi, Lda, Sta, Lhld, Shld, Ldax, Stax, Xchg, Xthl, Sphl, Alu as AluWith, AluI, Inr, Dcr, Inx, Dcx, Dad, Daa, Cma, Stc, Cmc, Rlc, Rrc, Ral, Rar, Push, Pop}
use Rattle.i80.specs.Columns.{is_well_formed, gives_zero}
use Rattle.asm80_types.specs.Program.{Program, IsCoded}
use Rattle.cpu80_tagged.specs.State.{State80}
use Rattle.cpu80_tagged.specs.Memory.{address}
use Rattle.cpu80_tagged.specs.Effect.{source as source80, into as into80, lda as lda80, sta as sta80, cleared as cleared80, alu as alu80, alu_with, effect}
use Rattle.sym_terms.specs.Term.{Num}
use Rattle.sym_terms.specs.Values80.{Load80, word_of, Val80}
use Rattle.sym_terms.specs.Laws.{MadeTermsKeepValues, MadeTermsHaveSorts}
use Rattle.sym_terms.proofs.Sorts.{byte_sorted, word_sorted}
use Rattle.sym_block_def.specs.Block80.{Symbolic80, with_held, pair_term, source, after_source, cleared, operated, alu_by, effect80}
use Rattle.sym_block_def.specs.Sorts.{HeldIsSorted, AreSorted80}
use Rattle.simulation_def.specs.States.{IsHeldPlace}
use Rattle.simulation_def.specs.Runs80.{env80}
use Rattle.sym_sound.proofs.Machine80.Denoting.{Denotes}
use Rattle.sym_sound.proofs.Machine80.Holding.{pair_value, pair_address, fetches, puts}
use Rattle.dialogue.proofs.Tried.{ok_is, then_is}
use Rattle.sym_sound.proofs.Machine80.Answering.{address_is}
use Rattle.sym_sound.proofs.Machine80.Computing.{byte_number, operates}
use Rattle.sym_sound.proofs.Machine80.Moves.{Denoted, word_number, sets_sp, loads_a, stores_a, exchanges, moves, sets_number, loads_code_bc, loads_code_de, loads_code_hl, loads_hl, stores_pair, exchanges_top, pushes_pair, pops}
use Rattle.sym_sound.proofs.Machine80.Sums.{counts_up, counts_down, adds_to_pair, adds_pair, sets_cy, adjusts, inverts, turns_cy, turns_left, turns_right, turns_left_through, turns_right_through, clears_a}

-- a code address that an instruction loads may be held
abbrev pub LoadsHeld : Program → Instr80 → Type 0
LoadsHeld p (Lxi pair (CodeAt a)) = IsHeldPlace p (At a)
LoadsHeld p i = Unit {0}

module _ (keep : MadeTermsKeepValues) (sorts : MadeTermsHaveSorts) (p : Program) (s0 : State80) where
  done : (loads : List Load80) (x : Symbolic80) (s t : State80) → Denotes p s0 loads x s → ◌≡◌ {A = Result State80 Rule} (Ok s) (Ok t) → Denoted p s0 x t
  done loads x s t d e = record { loads = loads; denotes = subst (λ (u : State80). Denotes p s0 loads x u) (ok_is s t e) d }

  within : (loads : List Load80) (x : Symbolic80) (t : State80) → Denotes p s0 loads x t → Denoted p s0 x t
  within loads x t d = record { loads = loads; denotes = d }

  -- an operation on A and an operand
  operates_on : (loads : List Load80) (x : Symbolic80) (s t : State80) (op : Op) (from : Src) → Denotes p s0 loads x s → HeldIsSorted x.held → (c : Cell) × (source80 p s from ≡ Ok c) × (alu_with s op c ≡ Ok t) → Denoted p s0 (with_held (after_source x from) (operated op (source x from) x.held)) t
  operates_on loads x s t op (InReg r) d h m =
      let f = fetches keep p s0 loads x s (InReg r) m.0 d h m.1 in
      within f.loads _ t (operates keep sorts p s0 f.loads x s t op (source x (InReg r)) m.0 f.denotes h f.value f.sorted f.cell m.2)
  operates_on loads x s t op Mem d h m =
      let f = fetches keep p s0 loads x s Mem m.0 d h m.1 in
      within f.loads _ t (operates keep sorts p s0 f.loads (after_source x Mem) s t op (source x Mem) m.0 f.denotes h f.value f.sorted f.cell m.2)

  operates_or_clears : (loads : List Load80) (x : Symbolic80) (s t : State80) (op : Op) (from : Src) (b : Bool) → Denotes p s0 loads x s → HeldIsSorted x.held → gives_zero op from ≡ b → alu80 p s op from ≡ Ok t → Denoted p s0 (alu_by x op from) t
  operates_or_clears loads x s t op from true d h is e =
      let symbolic : with_held x (cleared x.held) ≡ alu_by x op from = ap (λ b. cond b (with_held x (cleared x.held)) (with_held (after_source x from) (operated op (source x from) x.held))) (sym is) in
      let answer : Ok (cleared80 s) ≡ Ok t = ap (λ b. cond b (Ok (cleared80 s)) (by_source op from)) (sym is) ∙ e in
      subst (λ (y : Symbolic80). Denoted p s0 y t) symbolic (done loads _ (cleared80 s) t (clears_a keep sorts p s0 loads x s d) answer)
    where
      by_source : Op → Src → Result State80 Rule
      by_source op from = Rattle.dialogue.specs.Tried.try_then (source80 p s from) (alu_with s op)
  operates_or_clears loads x s t op from false d h is e =
      let symbolic : with_held (after_source x from) (operated op (source x from) x.held) ≡ alu_by x op from = ap (λ b. cond b (with_held x (cleared x.held)) (with_held (after_source x from) (operated op (source x from) x.held))) (sym is) in
      let answer : by_source op from ≡ Ok t = ap (λ b. cond b (Ok (cleared80 s)) (by_source op from)) (sym is) ∙ e in
      subst (λ (y : Symbolic80). Denoted p s0 y t) symbolic (operates_on loads x s t op from d h (then_is (source80 p s from) (alu_with s op) t answer))
    where
      by_source : Op → Src → Result State80 Rule
      by_source op from = Rattle.dialogue.specs.Tried.try_then (source80 p s from) (alu_with s op)

  -- an address in BC or DE
  bc_address : (loads : List Load80) (x : Symbolic80) (s : State80) (n : ℕ) → Denotes p s0 loads x s → HeldIsSorted x.held → address s.regs.b s.regs.c ≡ Ok n → (n < 0x10000) × Val80 (env80 s0 loads) (pair_term x PairB) (word_of n)
  bc_address loads x s n d h e =
      let a = address_is p s.regs.b s.regs.c n (d.is_state.regs B) (d.is_state.regs C) e in
      (a.0, subst (λ v. Val80 (env80 s0 loads) (pair_term x PairB) v) a.1 (pair_value keep p s0 loads x s PairB d h))

  de_address : (loads : List Load80) (x : Symbolic80) (s : State80) (n : ℕ) → Denotes p s0 loads x s → HeldIsSorted x.held → address s.regs.d s.regs.e ≡ Ok n → (n < 0x10000) × Val80 (env80 s0 loads) (pair_term x PairD) (word_of n)
  de_address loads x s n d h e =
      let a = address_is p s.regs.d s.regs.e n (d.is_state.regs D) (d.is_state.regs E) e in
      (a.0, subst (λ v. Val80 (env80 s0 loads) (pair_term x PairD) v) a.1 (pair_value keep p s0 loads x s PairD d h))

  pub row : (loads : List Load80) (x : Symbolic80) (s t : State80) (i : Instr80) → Denotes p s0 loads x s → AreSorted80 x → IsCoded i → is_well_formed i ≡ true → LoadsHeld p i → effect p s i ≡ Ok t → Denoted p s0 (effect80 x i) t
  row loads x s t Nop d o c w l e = done loads x s t d e
  row loads x s t (Mov to from) d o c w l e = moves keep sorts p s0 loads x s t to from d o.held (then_is (source80 p s from) (into80 p s to) t e)
  row loads x s t (Mvi to n) d o c w l e = within loads _ t (puts keep p s0 loads x s t to (Num n) (NumCell n) d o.held (byte_number (env80 s0 loads) n c) c e)
  row loads x s t (Lxi pair (Number n)) d o c w l e = done loads _ _ t (sets_number keep sorts p s0 loads x s pair (Num n) n d c (word_sorted n c) (word_number (env80 s0 loads) n c)) e
  row loads x s t (Lxi PairB (CodeAt a)) d o c w l e = done loads _ _ t (loads_code_bc keep sorts p s0 loads x s a d l) e
  row loads x s t (Lxi PairD (CodeAt a)) d o c w l e = done loads _ _ t (loads_code_de keep sorts p s0 loads x s a d l) e
  row loads x s t (Lxi PairH (CodeAt a)) d o c w l e = done loads _ _ t (loads_code_hl keep sorts p s0 loads x s a d l) e
  row loads x s t (Lxi Sp (CodeAt a)) d o c w l e = absurd (cc)
  row loads x s t (Lda a) d o c w l e = loads_a p s0 loads x s t (Num a) a d c (word_number (env80 s0 loads) a c) e
  row loads x s t (Sta a) d o c w l e = stores_a p s0 loads x s t (Num a) a d c (word_number (env80 s0 loads) a c) e
  row loads x s t (Lhld a) d o c w l e = loads_hl keep sorts p s0 loads x s t (Num a) a d c (word_number (env80 s0 loads) a c) e
  row loads x s t (Shld a) d o c w l e = within loads _ t (stores_pair keep sorts p s0 loads x s t (Num a) a d o.held c (word_number (env80 s0 loads) a c) e)
  row loads x s t (Ldax PairB) d o c w l e =
      let a = then_is (address s.regs.b s.regs.c) (lda80 p s) t e in
      let n = bc_address loads x s a.0 d o.held a.1 in
      loads_a p s0 loads x s t (pair_term x PairB) a.0 d n.0 n.1 a.2
  row loads x s t (Ldax PairD) d o c w l e =
      let a = then_is (address s.regs.d s.regs.e) (lda80 p s) t e in
      let n = de_address loads x s a.0 d o.held a.1 in
      loads_a p s0 loads x s t (pair_term x PairD) a.0 d n.0 n.1 a.2
  row loads x s t (Ldax PairH) d o c w l e = absurd (cc)
  row loads x s t (Ldax Sp) d o c w l e = absurd (cc)
  row loads x s t (Stax PairB) d o c w l e =
      let a = then_is (address s.regs.b s.regs.c) (sta80 p s) t e in
      let n = bc_address loads x s a.0 d o.held a.1 in
      stores_a p s0 loads x s t (pair_term x PairB) a.0 d n.0 n.1 a.2
  row loads x s t (Stax PairD) d o c w l e =
      let a = then_is (address s.regs.d s.regs.e) (sta80 p s) t e in
      let n = de_address loads x s a.0 d o.held a.1 in
      stores_a p s0 loads x s t (pair_term x PairD) a.0 d n.0 n.1 a.2
  row loads x s t (Stax PairH) d o c w l e = absurd (cc)
  row loads x s t (Stax Sp) d o c w l e = absurd (cc)
  row loads x s t Xchg d o c w l e = done loads _ _ t (exchanges p s0 loads x s d) e
  row loads x s t Xthl d o c w l e = exchanges_top keep sorts p s0 loads x s t d o e
  row loads x s t Sphl d o c w l e =
      let a = then_is (address s.regs.h s.regs.l) _ t e in
      let n = pair_address keep p s0 loads x s a.0 d o.held a.1 in
      done loads _ _ t (sets_sp p s0 loads x s (pair_term x PairH) a.0 d n.0 n.1) a.2
  row loads x s t (AluWith op from) d o c w l e = operates_or_clears loads x s t op from (gives_zero op from) d o.held refl e
  row loads x s t (AluI op n) d o c w l e = within loads _ t (operates keep sorts p s0 loads x s t op (Num n) (NumCell n) d o.held (byte_number (env80 s0 loads) n c) (byte_sorted n c) c e)
  row loads x s t (Inr on) d o c w l e = counts_up keep sorts p s0 loads x s t on d o.held e
  row loads x s t (Dcr on) d o c w l e = counts_down keep sorts p s0 loads x s t on d o.held e
  row loads x s t (Inx pair) d o c w l e = within loads _ t (adds_to_pair keep sorts p s0 loads x s t pair 1 d o (omega arith) e)
  row loads x s t (Dcx pair) d o c w l e = within loads _ t (adds_to_pair keep sorts p s0 loads x s t pair 0xFFFF d o (omega arith) e)
  row loads x s t (Dad pair) d o c w l e = within loads _ t (adds_pair keep sorts p s0 loads x s t pair d o e)
  row loads x s t Daa d o c w l e = within loads _ t (adjusts keep sorts p s0 loads x s t d o.held e)
  row loads x s t Cma d o c w l e = within loads _ t (inverts keep sorts p s0 loads x s t d o.held e)
  row loads x s t Stc d o c w l e = done loads _ _ t (sets_cy keep sorts p s0 loads x s (Num 1) true d (true, refl, refl)) e
  row loads x s t Cmc d o c w l e = within loads _ t (turns_cy keep sorts p s0 loads x s t d o.held e)
  row loads x s t Rlc d o c w l e = within loads _ t (turns_left keep sorts p s0 loads x s t d o.held e)
  row loads x s t Rrc d o c w l e = within loads _ t (turns_right keep sorts p s0 loads x s t d o.held e)
  row loads x s t Ral d o c w l e = within loads _ t (turns_left_through keep sorts p s0 loads x s t d o.held e)
  row loads x s t Rar d o c w l e = within loads _ t (turns_right_through keep sorts p s0 loads x s t d o.held e)
  row loads x s t (Push pair) d o c w l e = pushes_pair keep sorts p s0 loads x s t pair d o e
  row loads x s t (Pop pair) d o c w l e = pops keep sorts p s0 loads x s t pair d o e
  row loads x s t i d o c w l e = done loads x s t d e
