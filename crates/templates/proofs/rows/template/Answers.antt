-- What an arm calls ensures it of the arm's instruction.
use Rattle.std.proofs.Common.{◌≡◌, ◌∙◌, ℕ, Bool, List, [], ◌∷◌, ap, subst, sym}
use Rattle.i80.specs.declared.Instr80.{Instr80}
use Rattle.i86.specs.declared.Count.TheVariants.{Inc, Dec}
use Rattle.i86.specs.declared.Instr86.TheVariants.{Alu, AluNum, Count8, Count16}
use Rattle.asm86_line_types.specs.declared.line.Stmt86.{Stmt86}
use Rattle.asm86_line_types.specs.declared.line.Stmt86.TheVariants.{Run, Jmp}
use Rattle.templates.specs.Template.{template, saved, where_holds}
use Rattle.templates.proofs.rows.template.Goals as goal

of_arm : {i arm : Instr80} {made : List Stmt86} (at : ℕ) (save : Bool) → i ≡ arm → made ≡ template arm at save → made ≡ template i at save
of_arm {made = made} at save is e = subst (λ (i : Instr80). made ≡ template i at save) (sym is) e

pub returns-in-Nop : goal.returns-in-Nop
returns-in-Nop c = of_arm c.args.at c.args.save c.in-Nop.is c.run.ensures

pub returns-in-Mov : goal.returns-in-Mov
returns-in-Mov c = of_arm c.args.at c.args.save c.in-Mov.is c.mov.ensures

pub returns-in-Mvi : goal.returns-in-Mvi
returns-in-Mvi c = of_arm c.args.at c.args.save c.in-Mvi.is c.mvi.ensures

pub returns-in-Lxi : goal.returns-in-Lxi
returns-in-Lxi c = of_arm c.args.at c.args.save c.in-Lxi.is c.lxi.ensures

pub returns-in-Lda : goal.returns-in-Lda
returns-in-Lda c = of_arm c.args.at c.args.save c.in-Lda.is c.run-in-Lda.ensures

pub returns-in-Sta : goal.returns-in-Sta
returns-in-Sta c = of_arm c.args.at c.args.save c.in-Sta.is c.run-in-Sta.ensures

pub returns-in-Lhld : goal.returns-in-Lhld
returns-in-Lhld c = of_arm c.args.at c.args.save c.in-Lhld.is c.run-in-Lhld.ensures

pub returns-in-Shld : goal.returns-in-Shld
returns-in-Shld c = of_arm c.args.at c.args.save c.in-Shld.is c.run-in-Shld.ensures

pub returns-in-Ldax : goal.returns-in-Ldax
returns-in-Ldax c = of_arm c.args.at c.args.save c.in-Ldax.is c.through_si.ensures

pub returns-in-Stax : goal.returns-in-Stax
returns-in-Stax c = of_arm c.args.at c.args.save c.in-Stax.is c.through_si-in-Stax.ensures

pub returns-in-Xchg : goal.returns-in-Xchg
returns-in-Xchg c = of_arm c.args.at c.args.save c.in-Xchg.is c.run-in-Xchg.ensures

pub returns-in-Xthl : goal.returns-in-Xthl
returns-in-Xthl c = of_arm c.args.at c.args.save c.in-Xthl.is c.xthl.ensures

pub returns-in-Sphl : goal.returns-in-Sphl
returns-in-Sphl c = of_arm c.args.at c.args.save c.in-Sphl.is c.run-in-Sphl.ensures

pub returns-in-Pchl : goal.returns-in-Pchl
returns-in-Pchl c = of_arm c.args.at c.args.save c.in-Pchl.is c.run-in-Pchl.ensures

pub returns-in-Dad : goal.returns-in-Dad
returns-in-Dad c = of_arm c.args.at c.args.save c.in-Dad.is c.dad.ensures

pub returns-in-Daa : goal.returns-in-Daa
returns-in-Daa c = of_arm c.args.at c.args.save c.in-Daa.is c.run-in-Daa.ensures

pub returns-in-Cma : goal.returns-in-Cma
returns-in-Cma c = of_arm c.args.at c.args.save c.in-Cma.is c.run-in-Cma.ensures

pub returns-in-Stc : goal.returns-in-Stc
returns-in-Stc c = of_arm c.args.at c.args.save c.in-Stc.is c.run-in-Stc.ensures

pub returns-in-Cmc : goal.returns-in-Cmc
returns-in-Cmc c = of_arm c.args.at c.args.save c.in-Cmc.is c.run-in-Cmc.ensures

pub returns-in-Rlc : goal.returns-in-Rlc
returns-in-Rlc c = of_arm c.args.at c.args.save c.in-Rlc.is c.run-in-Rlc.ensures

pub returns-in-Rrc : goal.returns-in-Rrc
returns-in-Rrc c = of_arm c.args.at c.args.save c.in-Rrc.is c.run-in-Rrc.ensures

pub returns-in-Ral : goal.returns-in-Ral
returns-in-Ral c = of_arm c.args.at c.args.save c.in-Ral.is c.run-in-Ral.ensures

pub returns-in-Rar : goal.returns-in-Rar
returns-in-Rar c = of_arm c.args.at c.args.save c.in-Rar.is c.run-in-Rar.ensures

pub returns-in-Push : goal.returns-in-Push
returns-in-Push c = of_arm c.args.at c.args.save c.in-Push.is c.push.ensures

pub returns-in-Pop : goal.returns-in-Pop
returns-in-Pop c = of_arm c.args.at c.args.save c.in-Pop.is c.pop.ensures

pub returns-in-Ret : goal.returns-in-Ret
returns-in-Ret c = of_arm c.args.at c.args.save c.in-Ret.is c.run-in-Ret.ensures

pub returns-in-Rst0 : goal.returns-in-Rst0
returns-in-Rst0 c = of_arm c.args.at c.args.save c.in-Rst0.is c.one-in-Rst0.ensures

pub returns-in-In : goal.returns-in-In
returns-in-In c = of_arm c.args.at c.args.save c.in-In.is c.run-in-In.ensures

pub returns-in-Out : goal.returns-in-Out
returns-in-Out c = of_arm c.args.at c.args.save c.in-Out.is c.run-in-Out.ensures

pub returns-in-Alu : goal.returns-in-Alu
returns-in-Alu c = of_arm c.args.at c.args.save c.in-Alu.is (c.run-in-Alu.ensures ∙ (λ i. Run (Alu (c.op_of.ensures i) (c.operand_of.ensures i)) ∷ []))

pub returns-in-AluI : goal.returns-in-AluI
returns-in-AluI c = of_arm c.args.at c.args.save c.in-AluI.is (c.run-in-AluI.ensures ∙ ap (λ op. Run (AluNum op c.in-AluI.n) ∷ []) c.op_of-in-AluI.ensures)

pub returns-in-Inr : goal.returns-in-Inr
returns-in-Inr c = of_arm c.args.at c.args.save c.in-Inr.is (c.run-in-Inr.ensures ∙ ap (λ o. Run (Count8 Inc o) ∷ []) c.operand_of-in-Inr.ensures)

pub returns-in-Dcr : goal.returns-in-Dcr
returns-in-Dcr c = of_arm c.args.at c.args.save c.in-Dcr.is (c.run-in-Dcr.ensures ∙ ap (λ o. Run (Count8 Dec o) ∷ []) c.operand_of-in-Dcr.ensures)

pub returns-in-Inx : goal.returns-in-Inx
returns-in-Inx c = of_arm c.args.at c.args.save c.in-Inx.is (c.saved.ensures ∙ ap (λ r. saved c.args.save (Run (Count16 Inc r))) c.pair_of.ensures)

pub returns-in-Dcx : goal.returns-in-Dcx
returns-in-Dcx c = of_arm c.args.at c.args.save c.in-Dcx.is (c.saved-in-Dcx.ensures ∙ ap (λ r. saved c.args.save (Run (Count16 Dec r))) c.pair_of-in-Dcx.ensures)

pub returns-in-Jmp : goal.returns-in-Jmp
returns-in-Jmp c = of_arm c.args.at c.args.save c.in-Jmp.is (c.one.ensures ∙ ap (λ l. Jmp l ∷ []) c.label_of.ensures)

pub returns-in-Jif : goal.returns-in-Jif
returns-in-Jif c = of_arm c.args.at c.args.save c.in-Jif.is (c.where_holds.ensures ∙ ap (λ l. where_holds c.in-Jif.cond c.args.at (Jmp l ∷ [])) c.label_of-in-Jif.ensures)

pub returns-in-Call : goal.returns-in-Call
returns-in-Call c = of_arm c.args.at c.args.save c.in-Call.is (c.one-in-Call.ensures ∙ c.call_of.ensures)

pub returns-in-Cif : goal.returns-in-Cif
returns-in-Cif c = of_arm c.args.at c.args.save c.in-Cif.is (c.where_holds-in-Cif.ensures ∙ ap (where_holds c.in-Cif.cond c.args.at) c.call_of-in-Cif.ensures)

pub returns-in-Rif : goal.returns-in-Rif
returns-in-Rif c = of_arm c.args.at c.args.save c.in-Rif.is c.where_holds-in-Rif.ensures
