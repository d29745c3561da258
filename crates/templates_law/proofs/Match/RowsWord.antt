-- The rows of arithmetic on words. With a save the flags go through AH; without one S, Z, AC and P are lost.
use Rattle.std.proofs.Common.{◌≡◌, true, false}
use Rattle.std.proofs.lemmas.Bool.{false≢true}
use Rattle.cells.specs.declared.Part.{Part}
use Rattle.cells.specs.declared.Part.TheVariants.{Cy}
use Rattle.cells.specs.Parts.{has, only}
use Rattle.i80.specs.declared.Pair.{Pair}
use Rattle.i80.specs.declared.Pair.TheVariants.{B as PairB, D as PairD, H as PairH, Sp as PairSp}
use Rattle.i80.specs.declared.Instr80.TheVariants.{Inx, Dcx, Dad}
use Rattle.i80.specs.Columns.{pair, defs80}
use Rattle.i86.specs.declared.Reg16.TheVariants.{Bx}
use Rattle.i86.specs.declared.Count.{Count}
use Rattle.i86.specs.declared.Count.TheVariants.{Inc, Dec}
use Rattle.i86.specs.declared.Instr86.TheVariants.{Count16}
use Rattle.asm86_line_types.specs.declared.line.Stmt86.TheVariants.{Run}
use Rattle.templates.specs.Template.{word_register, saved, template}
use Rattle.sym_terms.specs.Term.{Num, Unknown}
use Rattle.sym_terms.specs.Making.{sum16, carry_of}
use Rattle.sym_block_def.specs.Block80.{pair_term, add_to_pair, dad, effect80, flag_byte}
use Rattle.sym_block_def.specs.Symbolic86.{reg16_term, with_reg16, with_cf, count_step}
use Rattle.templates_law.specs.Match.Meeting.{WordsMeet, Among, Agree}
use Rattle.templates_law.specs.Match.Rows.{unsaved, all_passed, PairsMayGo}
use Rattle.templates_law.proofs.Match.Words.{sums_meet, carries_meet, number_words_meet}
use Rattle.templates_law.proofs.Match.Moves.{Adding, agree_both, agree_pair, pair_meets, agree_beside, agree_cy, agree_losing}
use Rattle.templates_law.proofs.Match.Row.{Given, Agreeing, Row, in_first, in_second}

module _ (now : Agreeing) where
  open now use {before, s, t, x, y, a, at}

  -- INX and DCX

  added : (c : Count) (p : Pair) → ((q : Part) → Among (pair p) q → Among before q) → Agree (Adding (Among before) (pair p)) (add_to_pair s p (count_step c)) (with_reg16 t (word_register p) (sum16 (reg16_term t (word_register p)) (Num (count_step c))))
  added c p k = agree_pair p s t _ _ (sums_meet _ _ _ _ (pair_meets p s t x y a k) (number_words_meet (count_step c))) a

  counted : (c : Count) (p : Pair) → ((q : Part) → Among (pair p) q → Among before q) → Agree (Adding (Among before) (pair p)) (add_to_pair s p (count_step c)) (all_passed t (saved true (Run (Count16 c (word_register p)))))
  counted c PairB k = agree_beside _ _ (flag_byte t.held) t.si (added c PairB k)
  counted c PairD k = agree_beside _ _ (flag_byte t.held) t.si (added c PairD k)
  counted c PairH k = agree_beside _ _ (flag_byte t.held) t.si (added c PairH k)
  counted c PairSp k = agree_beside _ _ (flag_byte t.held) t.si (added c PairSp k)

  counted_unsaved : (c : Count) (p : Pair) → ((q : Part) → Among (pair p) q → Among before q) → Agree (λ q. Adding (Among before) (pair p) q × (has unsaved q ≡ false)) (add_to_pair s p (count_step c)) (all_passed t (saved false (Run (Count16 c (word_register p)))))
  counted_unsaved c p k = agree_losing _ _ (added c p k)

  -- DAD

  summed : (p : Pair) → Given before (Dad p) → Agree (Adding (Among before) (defs80 (Dad p))) (dad s p) (with_cf (with_reg16 t Bx (sum16 (reg16_term t Bx) (reg16_term t (word_register p)))) (carry_of (reg16_term t Bx) (reg16_term t (word_register p))))
  summed p k = agree_both (pair PairH) (only Cy) _ _ (agree_cy _ _ _ _ (carries_meet _ _ _ _ m n) (agree_pair PairH s t _ _ (sums_meet _ _ _ _ m n) a))
    where
      m : WordsMeet (pair_term s PairH) (reg16_term t Bx)
      m = pair_meets PairH s t x y a (λ q c. k q (in_first (pair PairH) (pair p) q c))

      n : WordsMeet (pair_term s p) (reg16_term t (word_register p))
      n = pair_meets p s t x y a (λ q c. k q (in_second (pair PairH) (pair p) q c))

  pub row_dad : (p : Pair) → Given before (Dad p) → Row now (Dad p) true
  row_dad PairB k = agree_beside _ _ (flag_byte t.held) Unknown (summed PairB k)
  row_dad PairD k = agree_beside _ _ (flag_byte t.held) Unknown (summed PairD k)
  row_dad PairH k = agree_beside _ _ (flag_byte t.held) Unknown (summed PairH k)
  row_dad PairSp k = agree_beside _ _ (flag_byte t.held) Unknown (summed PairSp k)

  pub dad_unsaved : (p : Pair) → Given before (Dad p) → Agree (λ q. Adding (Among before) (defs80 (Dad p)) q × (has unsaved q ≡ false)) (effect80 s (Dad p)) (all_passed t (template (Dad p) at false))
  dad_unsaved p k = agree_losing _ _ (summed p k)

  pub row_inx : (p : Pair) → Given before (Inx p) → Row now (Inx p) true
  row_inx p k = counted Inc p k

  pub row_dcx : (p : Pair) → Given before (Dcx p) → Row now (Dcx p) true
  row_dcx p k = counted Dec p k

  pub inx_unsaved : (p : Pair) → Given before (Inx p) → Agree (λ q. Adding (Among before) (defs80 (Inx p)) q × (has unsaved q ≡ false)) (effect80 s (Inx p)) (all_passed t (template (Inx p) at false))
  inx_unsaved p k = counted_unsaved Inc p k

  pub dcx_unsaved : (p : Pair) → Given before (Dcx p) → Agree (λ q. Adding (Among before) (defs80 (Dcx p)) q × (has unsaved q ≡ false)) (effect80 s (Dcx p)) (all_passed t (template (Dcx p) at false))
  dcx_unsaved p k = counted_unsaved Dec p k

-- a SAHF and a LAHF that both go: the state differs by AH alone
pub pairs_go : PairsMayGo
pairs_go kept (Inx PairB) at s t h a = agree_beside s _ t.ah t.si a
pairs_go kept (Inx PairD) at s t h a = agree_beside s _ t.ah t.si a
pairs_go kept (Inx PairH) at s t h a = agree_beside s _ t.ah t.si a
pairs_go kept (Inx PairSp) at s t h a = agree_beside s _ t.ah t.si a
pairs_go kept (Dcx PairB) at s t h a = agree_beside s _ t.ah t.si a
pairs_go kept (Dcx PairD) at s t h a = agree_beside s _ t.ah t.si a
pairs_go kept (Dcx PairH) at s t h a = agree_beside s _ t.ah t.si a
pairs_go kept (Dcx PairSp) at s t h a = agree_beside s _ t.ah t.si a
pairs_go kept (Dad PairB) at s t h a = agree_beside s _ t.ah Unknown a
pairs_go kept (Dad PairD) at s t h a = agree_beside s _ t.ah Unknown a
pairs_go kept (Dad PairH) at s t h a = agree_beside s _ t.ah Unknown a
pairs_go kept (Dad PairSp) at s t h a = agree_beside s _ t.ah Unknown a
pairs_go kept i at s t h a = absurd (false≢true h)
