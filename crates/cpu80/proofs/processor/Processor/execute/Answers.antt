-- What each arm calls ensures it of the arm's instruction, which saves a long search.
use Rattle.std.proofs.Common.{◌≡◌, ◌∙◌, ℕ, ap, sym}
use Rattle.i80.specs.declared.Instr80.{Instr80}
use Rattle.dialogue.specs.ByteMemory.{put}
use Rattle.cpu80.specs.State.{UntaggedState, with_a}
use Rattle.cpu80.specs.Effect.{alu, effect, into}
use Rattle.cpu80.specs.ProcessorState.{untagged_state}
use Rattle.cpu80.proofs.processor.Processor.execute.Goals as goal

at : {instr arm : Instr80} (u : UntaggedState) (choice : ℕ) → instr ≡ arm → effect u arm choice ≡ effect u instr choice
at u choice is = ap (λ i. effect u i choice) (sym is)

pub returns-in-Mov : goal.returns-in-Mov
returns-in-Mov c =
    let u = untagged_state c.args.self.now in
    c.put_into.ensures ∙ ap (into u c.in-Mov.to) c.source.ensures ∙ at u c.args.choice c.in-Mov.is

pub returns-in-Mvi : goal.returns-in-Mvi
returns-in-Mvi c = c.put_into-in-Mvi.ensures ∙ at (untagged_state c.args.self.now) c.args.choice c.in-Mvi.is

pub returns-in-Lda : goal.returns-in-Lda
returns-in-Lda c =
    let u = untagged_state c.args.self.now in
    ap (with_a u) c.get-self.ensures ∙ at u c.args.choice c.in-Lda.is

pub returns-in-Sta : goal.returns-in-Sta
returns-in-Sta c =
    let u = untagged_state c.args.self.now in
    ap (λ (m : ℕ → ℕ). record u { mem = m }) c.set.ensures ∙ at u c.args.choice c.in-Sta.is

pub returns-in-Lhld : goal.returns-in-Lhld
returns-in-Lhld c = c.load_hl.ensures ∙ at (untagged_state c.args.self.now) c.args.choice c.in-Lhld.is

pub returns-in-Shld : goal.returns-in-Shld
returns-in-Shld c =
    let u = untagged_state c.args.self.now in
    ap (λ (m : ℕ → ℕ). record u { mem = m }) c.set_word.ensures ∙ at u c.args.choice c.in-Shld.is

pub returns-in-Ldax : goal.returns-in-Ldax
returns-in-Ldax c =
    let u = untagged_state c.args.self.now in
    ap (with_a u) (c.get-self-in-Ldax.ensures ∙ ap u.mem c.pair-at.ensures) ∙ at u c.args.choice c.in-Ldax.is

pub returns-in-Stax : goal.returns-in-Stax
returns-in-Stax c =
    let u = untagged_state c.args.self.now in
    ap (λ (m : ℕ → ℕ). record u { mem = m }) (c.set-in-Stax.ensures ∙ ap (λ p. put u.mem p u.regs.a) c.pair-at-in-Stax.ensures) ∙ at u c.args.choice c.in-Stax.is

pub returns-in-Xchg : goal.returns-in-Xchg
returns-in-Xchg c = c.exchange.ensures ∙ at (untagged_state c.args.self.now) c.args.choice c.in-Xchg.is

pub returns-in-Xthl : goal.returns-in-Xthl
returns-in-Xthl c = c.exchange_top.ensures ∙ at (untagged_state c.args.self.now) c.args.choice c.in-Xthl.is

pub returns-in-Sphl : goal.returns-in-Sphl
returns-in-Sphl c =
    let u = untagged_state c.args.self.now in
    ap (λ (n : ℕ). record u { sp = n }) c.pair-self.ensures ∙ at u c.args.choice c.in-Sphl.is

pub returns-in-Alu : goal.returns-in-Alu
returns-in-Alu c =
    let u = untagged_state c.args.self.now in
    c.operate.ensures ∙ ap (λ b. alu u c.in-Alu.op b c.args.choice) c.source-in-Alu.ensures ∙ at u c.args.choice c.in-Alu.is

pub returns-in-AluI : goal.returns-in-AluI
returns-in-AluI c = c.operate-in-AluI.ensures ∙ at (untagged_state c.args.self.now) c.args.choice c.in-AluI.is

pub returns-in-Inr : goal.returns-in-Inr
returns-in-Inr c = c.count.ensures ∙ at (untagged_state c.args.self.now) c.args.choice c.in-Inr.is

pub returns-in-Dcr : goal.returns-in-Dcr
returns-in-Dcr c = c.count-in-Dcr.ensures ∙ at (untagged_state c.args.self.now) c.args.choice c.in-Dcr.is

pub returns-in-Inx : goal.returns-in-Inx
returns-in-Inx c = c.add_to_pair.ensures ∙ at (untagged_state c.args.self.now) c.args.choice c.in-Inx.is

pub returns-in-Dcx : goal.returns-in-Dcx
returns-in-Dcx c = c.add_to_pair-in-Dcx.ensures ∙ at (untagged_state c.args.self.now) c.args.choice c.in-Dcx.is

pub returns-in-Dad : goal.returns-in-Dad
returns-in-Dad c = c.add_pair.ensures ∙ at (untagged_state c.args.self.now) c.args.choice c.in-Dad.is

pub returns-in-Daa : goal.returns-in-Daa
returns-in-Daa c = c.adjust.ensures ∙ at (untagged_state c.args.self.now) c.args.choice c.in-Daa.is

pub returns-in-Push : goal.returns-in-Push
returns-in-Push c = c.push_pair.ensures ∙ at (untagged_state c.args.self.now) c.args.choice c.in-Push.is

pub returns-in-Pop : goal.returns-in-Pop
returns-in-Pop c = c.pop_pair.ensures ∙ at (untagged_state c.args.self.now) c.args.choice c.in-Pop.is
