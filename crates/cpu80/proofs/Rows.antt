-- The effect of each instruction of a program on the bytes.
use Rattle.std.proofs.Common.{◌≡◌, ℕ, true, Ok, subst}
use Rattle.cells.specs.declared.Cell.TheVariants.{Num}
use Rattle.cells.specs.declared.Place.TheVariants.{At}
use Rattle.cells.specs.declared.Cell.TheVariants.{Hi, Lo}
use Rattle.i80.specs.declared.Pair.{Pair}
use Rattle.i80.specs.declared.Pair.TheVariants.{B as PairB, D as PairD, H as PairH, Sp}
use Rattle.i80.specs.declared.Word.{Word}
use Rattle.i80.specs.declared.Word.TheVariants.{Num as Number, Code}
use Rattle.i80.specs.declared.Instr80.{Instr80}
use Rattle.i80.specs.declared.Instr80.TheVariants.{Nop, Mov, Mvi, Lxi, Lda, Sta, Lhld, Shld, Ldax, Stax, Xchg, Xthl, Sphl, Pchl, Alu, AluI, Inr, Dcr, Inx, Dcx, Dad, Daa, Cma, Stc, Cmc, Rlc, Rrc, Ral, Rar, Push, Pop, Jmp, Jif, Call, Cif, Ret, Rif, Rst0, In, Out}
use Rattle.i80.specs.Columns.{is_well_formed}
use Rattle.asm80_types.specs.Program.{Program, IsProgram}
use Rattle.asm80_types.proofs.Standing.{IsPlaced, start_range}
use Rattle.cpu80_tagged.specs.State.{State80}
use Rattle.cpu80_tagged.specs.Effect.{effect as effect80, lxi as lxi80}
use Rattle.cpu80.specs.State.{UntaggedState, with_word}
use Rattle.cpu80.specs.Effect.{effect, word_of}
use Rattle.dialogue.proofs.Tried.{ok_is}
use Rattle.cpu80.proofs.Stands.{StatesStand, number}
use Rattle.cpu80.proofs.MovesStand.{sets_bc, sets_de, sets_hl, sets_word, into_stands, mov, high_of_place, low_of_place, lda_stands, ldax_stands, sta_stands, stax_stands, lhld_stands, shld_stands, xchg_stands, xthl_stands, sphl_stands, push_pair_stands, pop_pair_stands}
use Rattle.cpu80.proofs.Sums.{sets_cy, alu_with_stands, alu_stands, inr_stands, dcr_stands, add_to_pair_stands, dad_stands, daa_stands, cma_stands, cmc_stands, rlc_stands, rrc_stands, ral_stands, rar_stands}

module _ {held : ℕ → ℕ} where
  -- LXI
  lxi_stands : (p : Program) (s : State80) (u : UntaggedState) (pair : Pair) (w : Word) (a : ℕ) → IsProgram p → IsPlaced p a (Lxi pair w) → StatesStand p held s u → StatesStand p held (lxi80 s pair w) (with_word u pair (word_of w))
  lxi_stands p s u pair (Number w) a g i d = sets_word s u pair w d i.coded
  lxi_stands p s u PairB (Code b) a g i d = sets_bc s u (Hi (At b)) (Lo (At b)) _ _ d (high_of_place b (start_range p b g i.named).1) (low_of_place b)
  lxi_stands p s u PairD (Code b) a g i d = sets_de s u (Hi (At b)) (Lo (At b)) _ _ d (high_of_place b (start_range p b g i.named).1) (low_of_place b)
  lxi_stands p s u PairH (Code b) a g i d = sets_hl s u (Hi (At b)) (Lo (At b)) _ _ d (high_of_place b (start_range p b g i.named).1) (low_of_place b)
  lxi_stands p s u Sp (Code b) a g i d = absurd (not_formed i.well_formed)
    where
      not_formed : is_well_formed (Lxi Sp (Code b)) ≡ true → ⊥
      not_formed e = cc

  -- the table
  pub effects_stand : (p : Program) (s t : State80) (u : UntaggedState) (a : ℕ) (i : Instr80) (choice : ℕ) → IsProgram p → IsPlaced p a i → StatesStand p held s u → effect80 p s i ≡ Ok t → StatesStand p held t (effect u i choice)
  effects_stand p s t u a Nop choice g i d e = subst (λ k. StatesStand p held k u) (ok_is s t e) d
  effects_stand p s t u a (Mov to from) choice g i d e = mov p s t u to from d e
  effects_stand p s t u a (Mvi to n) choice g i d e = into_stands p s t u to (Num n) n d (number n i.coded) e
  effects_stand p s t u a (Lxi pair w) choice g i d e = subst (λ k. StatesStand p held k (with_word u pair (word_of w))) (ok_is _ t e) (lxi_stands p s u pair w a g i d)
  effects_stand p s t u a (Lda n) choice g i d e = lda_stands p s t u n d e
  effects_stand p s t u a (Sta n) choice g i d e = sta_stands p s t u n d e
  effects_stand p s t u a (Lhld n) choice g i d e = lhld_stands p s t u n d i.coded e
  effects_stand p s t u a (Shld n) choice g i d e = shld_stands p s t u n d i.coded e
  effects_stand p s t u a (Ldax pair) choice g i d e = ldax_stands p s t u pair d e
  effects_stand p s t u a (Stax pair) choice g i d e = stax_stands p s t u pair d e
  effects_stand p s t u a Xchg choice g i d e = subst (λ k. StatesStand p held k (effect u Xchg choice)) (ok_is _ t e) (xchg_stands p s u d)
  effects_stand p s t u a Xthl choice g i d e = xthl_stands p s t u d e
  effects_stand p s t u a Sphl choice g i d e = sphl_stands p s t u d e
  effects_stand p s t u a (Alu op from) choice g i d e = alu_stands s t u op from choice d e
  effects_stand p s t u a (AluI op n) choice g i d e = alu_with_stands s t u op (Num n) n choice d (number n i.coded) e
  effects_stand p s t u a (Inr on) choice g i d e = inr_stands s t u on choice d e
  effects_stand p s t u a (Dcr on) choice g i d e = dcr_stands s t u on choice d e
  effects_stand p s t u a (Inx pair) choice g i d e = add_to_pair_stands s t u pair 1 d e
  effects_stand p s t u a (Dcx pair) choice g i d e = add_to_pair_stands s t u pair 0xFFFF d e
  effects_stand p s t u a (Dad pair) choice g i d e = dad_stands s t u pair d e
  effects_stand p s t u a Daa choice g i d e = daa_stands s t u choice d e
  effects_stand p s t u a Cma choice g i d e = cma_stands s t u d e
  effects_stand p s t u a Stc choice g i d e = subst (λ k. StatesStand p held k (effect u Stc choice)) (ok_is _ t e) (sets_cy s u true d)
  effects_stand p s t u a Cmc choice g i d e = cmc_stands s t u d e
  effects_stand p s t u a Rlc choice g i d e = rlc_stands s t u d e
  effects_stand p s t u a Rrc choice g i d e = rrc_stands s t u d e
  effects_stand p s t u a Ral choice g i d e = ral_stands s t u d e
  effects_stand p s t u a Rar choice g i d e = rar_stands s t u d e
  effects_stand p s t u a (Push pair) choice g i d e = push_pair_stands p s t u pair choice d e
  effects_stand p s t u a (Pop pair) choice g i d e = pop_pair_stands p s t u pair d e
  effects_stand p s t u a Pchl choice g i d e = subst (λ k. StatesStand p held k u) (ok_is s t e) d
  effects_stand p s t u a (Jmp to) choice g i d e = subst (λ k. StatesStand p held k u) (ok_is s t e) d
  effects_stand p s t u a (Jif c to) choice g i d e = subst (λ k. StatesStand p held k u) (ok_is s t e) d
  effects_stand p s t u a (Call to) choice g i d e = subst (λ k. StatesStand p held k u) (ok_is s t e) d
  effects_stand p s t u a (Cif c to) choice g i d e = subst (λ k. StatesStand p held k u) (ok_is s t e) d
  effects_stand p s t u a Ret choice g i d e = subst (λ k. StatesStand p held k u) (ok_is s t e) d
  effects_stand p s t u a (Rif c) choice g i d e = subst (λ k. StatesStand p held k u) (ok_is s t e) d
  effects_stand p s t u a Rst0 choice g i d e = subst (λ k. StatesStand p held k u) (ok_is s t e) d
  effects_stand p s t u a (In n) choice g i d e = subst (λ k. StatesStand p held k u) (ok_is s t e) d
  effects_stand p s t u a (Out n) choice g i d e = subst (λ k. StatesStand p held k u) (ok_is s t e) d
