-- The law of one instruction, of its rows.
use Rattle.std.proofs.Common.{◌≡◌, Bool, true, false}
use Rattle.std.proofs.lemmas.Bool.{true≢false}
use Rattle.i80.specs.declared.Instr80.{Instr80}
use Rattle.i80.specs.declared.Instr80.TheVariants.{Nop, Mov, Mvi, Lxi, Lda, Sta, Lhld, Shld, Ldax, Stax, Xchg, Xthl, Sphl, Alu, AluI, Inr, Dcr, Inx, Dcx, Dad, Daa, Cma, Stc, Cmc, Rlc, Rrc, Ral, Rar, Push, Pop}
use Rattle.i80.specs.Columns.{is_well_formed, ends80}
use Rattle.templates.specs.Template.{template}
use Rattle.sym_block_def.specs.Block80.{effect80}
use Rattle.templates_law.specs.Match.Meeting.{Agree}
use Rattle.templates_law.specs.Match.Rows.{all_passed, Behind, RowsAgree}
use Rattle.templates_law.proofs.Match.Moves.{agree_on}
use Rattle.templates_law.proofs.Match.Row.{Given, Agreeing, Row}
use Rattle.templates_law.proofs.Match.RowsMove.{row_nop, row_mov, row_mvi, row_lxi, row_lda, row_sta, row_lhld, row_shld, row_ldax, row_stax, row_xchg, row_sphl}
use Rattle.templates_law.proofs.Match.RowsAlu.{row_alu, row_alui, row_inr, row_dcr, row_daa, row_cma, row_stc, row_cmc, row_rlc, row_rrc, row_ral, row_rar}
use Rattle.templates_law.proofs.Match.RowsWord.{row_inx, row_dcx, row_dad, inx_unsaved, dcx_unsaved, dad_unsaved}
use Rattle.templates_law.proofs.Match.RowsStack.{row_xthl, row_push, row_pop}

module _ (now : Agreeing) where
  open now use {before, s, t, at}

  -- on each part behind the instruction
  known : (i : Instr80) (save : Bool) → Row now i save → Agree (Behind before i save) (effect80 s i) (all_passed t (template i at save))
  known i save r = agree_on _ _ (λ q c. c.known) r

  row : (i : Instr80) (save : Bool) → ends80 i ≡ false → is_well_formed i ≡ true → Given before i → Agree (Behind before i save) (effect80 s i) (all_passed t (template i at save))
  row Nop save e w k = known Nop save (row_nop now save)
  row (Mov to from) save e w k = known (Mov to from) save (row_mov now save to from w k)
  row (Mvi to m) save e w k = known (Mvi to m) save (row_mvi now save to m k)
  row (Lxi p v) save e w k = known (Lxi p v) save (row_lxi now save p v)
  row (Lda m) save e w k = known (Lda m) save (row_lda now save m)
  row (Sta m) save e w k = known (Sta m) save (row_sta now save m k)
  row (Lhld m) save e w k = known (Lhld m) save (row_lhld now save m)
  row (Shld m) save e w k = known (Shld m) save (row_shld now save m k)
  row (Ldax p) save e w k = known (Ldax p) save (row_ldax now save p k)
  row (Stax p) save e w k = known (Stax p) save (row_stax now save p k)
  row Xchg save e w k = known Xchg save (row_xchg now save k)
  row Xthl save e w k = known Xthl save (row_xthl now save k)
  row Sphl save e w k = known Sphl save (row_sphl now save k)
  row (Alu op from) save e w k = known (Alu op from) save (row_alu now save op from k)
  row (AluI op m) save e w k = known (AluI op m) save (row_alui now save op m k)
  row (Inr on) save e w k = known (Inr on) save (row_inr now save on k)
  row (Dcr on) save e w k = known (Dcr on) save (row_dcr now save on k)
  row (Inx p) true e w k = known (Inx p) true (row_inx now p k)
  row (Inx p) false e w k = agree_on _ _ (λ q c. (c.known, c.stays)) (inx_unsaved now p k)
  row (Dcx p) true e w k = known (Dcx p) true (row_dcx now p k)
  row (Dcx p) false e w k = agree_on _ _ (λ q c. (c.known, c.stays)) (dcx_unsaved now p k)
  row (Dad p) true e w k = known (Dad p) true (row_dad now p k)
  row (Dad p) false e w k = agree_on _ _ (λ q c. (c.known, c.stays)) (dad_unsaved now p k)
  row Daa save e w k = known Daa save (row_daa now save k)
  row Cma save e w k = known Cma save (row_cma now save k)
  row Stc save e w k = known Stc save (row_stc now save)
  row Cmc save e w k = known Cmc save (row_cmc now save k)
  row Rlc save e w k = known Rlc save (row_rlc now save k)
  row Rrc save e w k = known Rrc save (row_rrc now save k)
  row Ral save e w k = known Ral save (row_ral now save k)
  row Rar save e w k = known Rar save (row_rar now save k)
  row (Push p) save e w k = known (Push p) save (row_push now save p k)
  row (Pop p) save e w k = known (Pop p) save (row_pop now save p)
  row i save e w k = absurd (true≢false e)

pub rows : RowsAgree
rows before after i at save s t e w x y k f a = agree_on _ _ f (row (record { before = before; s = s; t = t; x = x; y = y; a = a; at = at }) i save e w k)
