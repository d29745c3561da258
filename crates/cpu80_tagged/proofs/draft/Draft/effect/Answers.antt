use Rattle.std.proofs.Common.{◌≡◌, ◌⊎◌, inl, inr, Result, Ok, refl, sym, subst}
use Rattle.cells.specs.declared.Cond.{Cond}
use Rattle.cells.specs.declared.Rule.{Rule}
use Rattle.i80.specs.declared.Goal.{Goal}
use Rattle.i80.specs.declared.Instr80.{Instr80}
use Rattle.i80.specs.declared.Instr80.TheVariants.{Nop, Lxi, Xchg, Pchl, Jmp, Jif, Call}
use Rattle.asm80_types.specs.Program.{Program}
use Rattle.cpu80_tagged.specs.State.{State80}
use Rattle.cpu80_tagged.specs.Effect.{effect}
use Rattle.cpu80_tagged.specs.Draft.{state_of_draft}
use Rattle.cpu80_tagged.specs.Row.{IsRow}
use Rattle.cpu80_tagged.proofs.draft.Draft.effect.Goals as goal

-- the row of an instruction is that of its variant
of_variant : (p : Program) (s : State80) (i j : Instr80) (r : Result (Unit {0}) Rule) (t : State80) → i ≡ j → IsRow (effect p s j) r s t → IsRow (effect p s i) r s t
of_variant p s i j r t e h = subst (λ k. IsRow (effect p s k) r s t) (sym e) h

-- a jump or a call has no effect but where it goes
goes_only : (p : Program) (s : State80) (i : Instr80) → (i ≡ Pchl) ⊎ (((x : Goal) × (i ≡ Jmp x)) ⊎ (((x : Cond) × (y : Goal) × (i ≡ Jif x y)) ⊎ ((x : Goal) × (i ≡ Call x)))) → IsRow {X = Unit {0}} (effect p s i) (Ok tt) s s
goes_only p s i (inl e) = of_variant p s i Pchl (Ok tt) s e refl
goes_only p s i (inr (inl h)) = of_variant p s i (Jmp h.0) (Ok tt) s h.1 refl
goes_only p s i (inr (inr (inl h))) = of_variant p s i (Jif h.0 h.1) (Ok tt) s h.2 refl
goes_only p s i (inr (inr (inr h))) = of_variant p s i (Call h.0) (Ok tt) s h.1 refl

pub returns-in-Pchl : goal.returns-in-Pchl
returns-in-Pchl c = record {
  row = goes_only c.args.area.now.program.now (state_of_draft c.args.self.now) c.args.instr c.in-Pchl.is;
  memory = refl;
}

pub returns-in-Mov : goal.returns-in-Mov
returns-in-Mov c = record {
  row = of_variant c.args.area.now.program.now (state_of_draft c.args.self.now) _ _ c.transfer.result (state_of_draft c.transfer.new.self) c.in-Mov.is c.transfer.ensures.row;
  memory = c.transfer.ensures.memory;
}

pub returns-in-Mvi : goal.returns-in-Mvi
returns-in-Mvi c = record {
  row = of_variant c.args.area.now.program.now (state_of_draft c.args.self.now) _ _ c.put_into.result (state_of_draft c.put_into.new.self) c.in-Mvi.is c.put_into.ensures.row;
  memory = c.put_into.ensures.memory;
}

pub returns-in-Lda : goal.returns-in-Lda
returns-in-Lda c = record {
  row = of_variant c.args.area.now.program.now (state_of_draft c.args.self.now) _ _ c.load.result (state_of_draft c.load.new.self) c.in-Lda.is c.load.ensures.row;
  memory = c.load.ensures.memory;
}

pub returns-in-Sta : goal.returns-in-Sta
returns-in-Sta c = record {
  row = of_variant c.args.area.now.program.now (state_of_draft c.args.self.now) _ _ c.write_cell.result (state_of_draft c.write_cell.new.self) c.in-Sta.is c.write_cell.ensures.row;
  memory = c.write_cell.ensures.memory;
}

pub returns-in-Lhld : goal.returns-in-Lhld
returns-in-Lhld c = record {
  row = of_variant c.args.area.now.program.now (state_of_draft c.args.self.now) _ _ c.load_pair.result (state_of_draft c.load_pair.new.self) c.in-Lhld.is c.load_pair.ensures.row;
  memory = c.load_pair.ensures.memory;
}

pub returns-in-Ldax : goal.returns-in-Ldax
returns-in-Ldax c = record {
  row = of_variant c.args.area.now.program.now (state_of_draft c.args.self.now) _ _ c.load_at.result (state_of_draft c.load_at.new.self) c.in-Ldax.is c.load_at.ensures.row;
  memory = c.load_at.ensures.memory;
}

pub returns-in-Stax : goal.returns-in-Stax
returns-in-Stax c = record {
  row = of_variant c.args.area.now.program.now (state_of_draft c.args.self.now) _ _ c.store_at.result (state_of_draft c.store_at.new.self) c.in-Stax.is c.store_at.ensures.row;
  memory = c.store_at.ensures.memory;
}

pub returns-in-Xthl : goal.returns-in-Xthl
returns-in-Xthl c = record {
  row = of_variant c.args.area.now.program.now (state_of_draft c.args.self.now) _ _ c.exchange_top.result (state_of_draft c.exchange_top.new.self) c.in-Xthl.is c.exchange_top.ensures.row;
  memory = c.exchange_top.ensures.memory;
}

pub returns-in-Sphl : goal.returns-in-Sphl
returns-in-Sphl c = record {
  row = of_variant c.args.area.now.program.now (state_of_draft c.args.self.now) _ _ c.set_sp.result (state_of_draft c.set_sp.new.self) c.in-Sphl.is c.set_sp.ensures.row;
  memory = c.set_sp.ensures.memory;
}

pub returns-in-Alu : goal.returns-in-Alu
returns-in-Alu c = record {
  row = of_variant c.args.area.now.program.now (state_of_draft c.args.self.now) _ _ c.operate.result (state_of_draft c.operate.new.self) c.in-Alu.is c.operate.ensures.row;
  memory = c.operate.ensures.memory;
}

pub returns-in-AluI : goal.returns-in-AluI
returns-in-AluI c = record {
  row = of_variant c.args.area.now.program.now (state_of_draft c.args.self.now) _ _ c.operate_on.result (state_of_draft c.operate_on.new.self) c.in-AluI.is c.operate_on.ensures.row;
  memory = c.operate_on.ensures.memory;
}

pub returns-in-Inr : goal.returns-in-Inr
returns-in-Inr c = record {
  row = of_variant c.args.area.now.program.now (state_of_draft c.args.self.now) _ _ c.count.result (state_of_draft c.count.new.self) c.in-Inr.is c.count.ensures.row;
  memory = c.count.ensures.memory;
}

pub returns-in-Dcr : goal.returns-in-Dcr
returns-in-Dcr c = record {
  row = of_variant c.args.area.now.program.now (state_of_draft c.args.self.now) _ _ c.count-in-Dcr.result (state_of_draft c.count-in-Dcr.new.self) c.in-Dcr.is c.count-in-Dcr.ensures.row;
  memory = c.count-in-Dcr.ensures.memory;
}

pub returns-in-Inx : goal.returns-in-Inx
returns-in-Inx c = record {
  row = of_variant c.args.area.now.program.now (state_of_draft c.args.self.now) _ _ c.add_to_pair.result (state_of_draft c.add_to_pair.new.self) c.in-Inx.is c.add_to_pair.ensures.row;
  memory = c.add_to_pair.ensures.memory;
}

pub returns-in-Dcx : goal.returns-in-Dcx
returns-in-Dcx c = record {
  row = of_variant c.args.area.now.program.now (state_of_draft c.args.self.now) _ _ c.add_to_pair-in-Dcx.result (state_of_draft c.add_to_pair-in-Dcx.new.self) c.in-Dcx.is c.add_to_pair-in-Dcx.ensures.row;
  memory = c.add_to_pair-in-Dcx.ensures.memory;
}

pub returns-in-Dad : goal.returns-in-Dad
returns-in-Dad c = record {
  row = of_variant c.args.area.now.program.now (state_of_draft c.args.self.now) _ _ c.add_pair.result (state_of_draft c.add_pair.new.self) c.in-Dad.is c.add_pair.ensures.row;
  memory = c.add_pair.ensures.memory;
}

pub returns-in-Daa : goal.returns-in-Daa
returns-in-Daa c = record {
  row = of_variant c.args.area.now.program.now (state_of_draft c.args.self.now) _ _ c.adjust.result (state_of_draft c.adjust.new.self) c.in-Daa.is c.adjust.ensures.row;
  memory = c.adjust.ensures.memory;
}

pub returns-in-Cma : goal.returns-in-Cma
returns-in-Cma c = record {
  row = of_variant c.args.area.now.program.now (state_of_draft c.args.self.now) _ _ c.invert.result (state_of_draft c.invert.new.self) c.in-Cma.is c.invert.ensures.row;
  memory = c.invert.ensures.memory;
}

pub returns-in-Cmc : goal.returns-in-Cmc
returns-in-Cmc c = record {
  row = of_variant c.args.area.now.program.now (state_of_draft c.args.self.now) _ _ c.invert_cy.result (state_of_draft c.invert_cy.new.self) c.in-Cmc.is c.invert_cy.ensures.row;
  memory = c.invert_cy.ensures.memory;
}

pub returns-in-Rlc : goal.returns-in-Rlc
returns-in-Rlc c = record {
  row = of_variant c.args.area.now.program.now (state_of_draft c.args.self.now) _ _ c.rotate_left.result (state_of_draft c.rotate_left.new.self) c.in-Rlc.is c.rotate_left.ensures.row;
  memory = c.rotate_left.ensures.memory;
}

pub returns-in-Rrc : goal.returns-in-Rrc
returns-in-Rrc c = record {
  row = of_variant c.args.area.now.program.now (state_of_draft c.args.self.now) _ _ c.rotate_right.result (state_of_draft c.rotate_right.new.self) c.in-Rrc.is c.rotate_right.ensures.row;
  memory = c.rotate_right.ensures.memory;
}

pub returns-in-Ral : goal.returns-in-Ral
returns-in-Ral c = record {
  row = of_variant c.args.area.now.program.now (state_of_draft c.args.self.now) _ _ c.rotate_left_through_cy.result (state_of_draft c.rotate_left_through_cy.new.self) c.in-Ral.is c.rotate_left_through_cy.ensures.row;
  memory = c.rotate_left_through_cy.ensures.memory;
}

pub returns-in-Rar : goal.returns-in-Rar
returns-in-Rar c = record {
  row = of_variant c.args.area.now.program.now (state_of_draft c.args.self.now) _ _ c.rotate_right_through_cy.result (state_of_draft c.rotate_right_through_cy.new.self) c.in-Rar.is c.rotate_right_through_cy.ensures.row;
  memory = c.rotate_right_through_cy.ensures.memory;
}

pub returns-in-Push : goal.returns-in-Push
returns-in-Push c = record {
  row = of_variant c.args.area.now.program.now (state_of_draft c.args.self.now) _ _ c.push_pair.result (state_of_draft c.push_pair.new.self) c.in-Push.is c.push_pair.ensures.row;
  memory = c.push_pair.ensures.memory;
}

pub returns-in-Pop : goal.returns-in-Pop
returns-in-Pop c = record {
  row = of_variant c.args.area.now.program.now (state_of_draft c.args.self.now) _ _ c.pop_pair.result (state_of_draft c.pop_pair.new.self) c.in-Pop.is c.pop_pair.ensures.row;
  memory = c.pop_pair.ensures.memory;
}

pub returns-in-Nop : goal.returns-in-Nop
returns-in-Nop c = record {
  row = of_variant c.args.area.now.program.now (state_of_draft c.args.self.now) _ Nop (Ok tt) (state_of_draft c.args.self.now) c.in-Nop.is refl;
  memory = refl;
}

pub returns-in-Lxi : goal.returns-in-Lxi
returns-in-Lxi c = record {
  row = of_variant c.args.area.now.program.now (state_of_draft c.args.self.now) _ (Lxi c.in-Lxi.pair c.in-Lxi.word) (Ok tt) (state_of_draft c.load_immediate.new.self) c.in-Lxi.is c.load_immediate.ensures.state;
  memory = c.load_immediate.ensures.memory;
}

pub returns-in-Xchg : goal.returns-in-Xchg
returns-in-Xchg c = record {
  row = of_variant c.args.area.now.program.now (state_of_draft c.args.self.now) _ Xchg (Ok tt) (state_of_draft c.exchange.new.self) c.in-Xchg.is c.exchange.ensures.state;
  memory = c.exchange.ensures.memory;
}
