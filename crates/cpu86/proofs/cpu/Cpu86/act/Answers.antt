use Rattle.std.proofs.Common.{refl, sym, ap, ◌∙◌}
use Rattle.i86.specs.declared.Instr86.TheVariants.{Int224, InAl, OutAl}
use Rattle.cpu86.specs.Call.{StackSegment}
use Rattle.cpu86.specs.Effect.{effect}
use Rattle.cpu86.specs.ProcessorState.{state_of_86}
use Rattle.cpu86.specs.State.{State86}
use Rattle.cpu86.specs.Standing.{said_by}
use Rattle.cpu86.specs.declared.cpu.Pending.{Pending}
use Rattle.dialogue.specs.Run.{Going, Stopped}
use Rattle.dialogue.specs.Calls.{Standing, settled}
use Rattle.cpu86.proofs.Steps.{stands_off, acts_as, runs_by}
use Rattle.cpu86.proofs.cpu.Cpu86.act.Goals as goal

-- a state of which this was said last
abbrev said_of : State86 → Pending → Standing State86
said_of s p = record { state = s; said = said_by p s.mem }

pub returns-then-lacks_stack-clause-act : goal.returns-then-lacks_stack-clause-act
returns-then-lacks_stack-clause-act c =
    let s = state_of_86 c.args.self.now.processor in
    let ip = c.args.self.now.processor.ip in
    let next = record s { ip = c.args.next } in
    ap (λ p. (Stopped (StackSegment ip), said_of s p)) c.requires
    ∙ sym (ap (settled s) (stands_off ip c.args.instr next c.args.choice (sym c.lacks_stack.ensures ∙ c.if-lacks_stack.true)))

pub returns-in-Int224-clause-act : goal.returns-in-Int224-clause-act
returns-in-Int224-clause-act c =
    let s = state_of_86 c.args.self.now.processor in
    let ip = c.args.self.now.processor.ip in
    let next = record s { ip = c.args.next } in
    c.call_system.ensures.call
    ∙ sym (ap (settled s) (acts_as ip c.args.instr Int224 next c.args.choice c.in-Int224.is (sym c.lacks_stack.ensures ∙ c.if-lacks_stack.false)))

pub returns-in-InAl-clause-act : goal.returns-in-InAl-clause-act
returns-in-InAl-clause-act c =
    let s = state_of_86 c.args.self.now.processor in
    let ip = c.args.self.now.processor.ip in
    let next = record s { ip = c.args.next } in
    sym (ap (settled s) (acts_as ip c.args.instr (InAl c.in-InAl.port) next c.args.choice c.in-InAl.is (sym c.lacks_stack.ensures ∙ c.if-lacks_stack.false)))

pub returns-in-OutAl-clause-act : goal.returns-in-OutAl-clause-act
returns-in-OutAl-clause-act c =
    let s = state_of_86 c.args.self.now.processor in
    let ip = c.args.self.now.processor.ip in
    let next = record s { ip = c.args.next } in
    sym (ap (settled s) (acts_as ip c.args.instr (OutAl c.in-OutAl.port) next c.args.choice c.in-OutAl.is (sym c.lacks_stack.ensures ∙ c.if-lacks_stack.false)))

pub returns-in_default-clause-act : goal.returns-in_default-clause-act
returns-in_default-clause-act c =
    let s = state_of_86 c.args.self.now.processor in
    let ip = c.args.self.now.processor.ip in
    let next = record s { ip = c.args.next } in
    let d = c.in_default in
    ap (λ t. (Going, said_of t c.args.self.now.pending)) c.execute.ensures
    ∙ ap (λ p. (Going, said_of (effect c.args.instr next c.args.choice) p)) c.requires
    ∙ sym (ap (settled s) (acts_as ip c.args.instr c.args.instr next c.args.choice refl (sym c.lacks_stack.ensures ∙ c.if-lacks_stack.false) ∙ runs_by c.args.instr next c.args.choice d.not-Int224 d.not-InAl d.not-OutAl))
