use Rattle.std.proofs.Common.{◌≡◌, ◌∙◌, ℕ, cond, refl, sym, ap, subst}
use Rattle.cells.specs.declared.Cond.{Cond}
use Rattle.i80.specs.declared.Goal.{Goal}
use Rattle.i80.specs.declared.Instr80.{Instr80}
use Rattle.i80.specs.declared.Instr80.TheVariants.{Pchl, Jmp, Jif, Call, Cif, Ret, Rif, Rst0, In, Out}
use Rattle.dialogue.specs.Calls.{settled}
use Rattle.cpu80.specs.State.{UntaggedState}
use Rattle.cpu80.specs.Effect.{effect}
use Rattle.cpu80.specs.Step.{act, call, go_to, jump, leave_to, ret}
use Rattle.cpu80.specs.ProcessorState.{untagged_state}
use Rattle.cpu80.specs.Standing.{Keeps, goes_on_at}
use Rattle.cpu80.proofs.machine.Untagged80.act.Goals as goal

runs_on : (u : UntaggedState) (a : ℕ) (i : Instr80) (choice : ℕ) → (i ≡ Pchl → ⊥) → ((x : Goal) → i ≡ Jmp x → ⊥) → ((x : Cond) (y : Goal) → i ≡ Jif x y → ⊥) → ((x : Goal) → i ≡ Call x → ⊥) → ((x : Cond) (y : Goal) → i ≡ Cif x y → ⊥) → (i ≡ Ret → ⊥) → ((x : Cond) → i ≡ Rif x → ⊥) → (i ≡ Rst0 → ⊥) → ((x : ℕ) → i ≡ In x → ⊥) → ((x : ℕ) → i ≡ Out x → ⊥) → go_to (effect u i choice) a ≡ act u a i choice
runs_on u a Pchl choice n1 n2 n3 n4 n5 n6 n7 n8 n9 n10 = absurd (n1 refl)
runs_on u a (Jmp x) choice n1 n2 n3 n4 n5 n6 n7 n8 n9 n10 = absurd (n2 x refl)
runs_on u a (Jif x y) choice n1 n2 n3 n4 n5 n6 n7 n8 n9 n10 = absurd (n3 x y refl)
runs_on u a (Call x) choice n1 n2 n3 n4 n5 n6 n7 n8 n9 n10 = absurd (n4 x refl)
runs_on u a (Cif x y) choice n1 n2 n3 n4 n5 n6 n7 n8 n9 n10 = absurd (n5 x y refl)
runs_on u a Ret choice n1 n2 n3 n4 n5 n6 n7 n8 n9 n10 = absurd (n6 refl)
runs_on u a (Rif x) choice n1 n2 n3 n4 n5 n6 n7 n8 n9 n10 = absurd (n7 x refl)
runs_on u a Rst0 choice n1 n2 n3 n4 n5 n6 n7 n8 n9 n10 = absurd (n8 refl)
runs_on u a (In x) choice n1 n2 n3 n4 n5 n6 n7 n8 n9 n10 = absurd (n9 x refl)
runs_on u a (Out x) choice n1 n2 n3 n4 n5 n6 n7 n8 n9 n10 = absurd (n10 x refl)
runs_on u a i choice n1 n2 n3 n4 n5 n6 n7 n8 n9 n10 = refl

pub returns-in_default : goal.returns-in_default
returns-in_default c =
    let u = untagged_state c.args.self.now.processor in
    let n = c.in_default in
    record {
      step = c.run_on.ensures.step ∙ ap (settled u) (runs_on u c.args.next c.args.instr c.args.choice n.not-Pchl n.not-Jmp n.not-Jif n.not-Call n.not-Cif n.not-Ret n.not-Rif n.not-Rst0 n.not-In n.not-Out);
      said = c.run_on.ensures.said;
      kept = c.run_on.ensures.kept _;
    }

pub returns-in-Pchl : goal.returns-in-Pchl
returns-in-Pchl c =
    let u = untagged_state c.args.self.now.processor in
    record {
      step = c.leave_to.ensures.step ∙ ap (λ at. settled u (leave_to u u.sp at)) c.pair-at.ensures ∙ sym (ap (λ i. settled u (act u c.args.next i c.args.choice)) c.in-Pchl.is);
      said = c.leave_to.ensures.said;
      kept = c.leave_to.ensures.kept _;
    }

pub returns-in-Jmp : goal.returns-in-Jmp
returns-in-Jmp c =
    let u = untagged_state c.args.self.now.processor in
    record {
      step = c.jump.ensures.step ∙ sym (ap (λ i. settled u (act u c.args.next i c.args.choice)) c.in-Jmp.is);
      said = c.jump.ensures.said;
      kept = subst (λ i. Keeps (goes_on_at u c.args.next i) u (untagged_state c.jump.new.self.processor) c.jump.new.self.pending) (sym c.in-Jmp.is) c.jump.ensures.kept;
    }

pub returns-in-Call : goal.returns-in-Call
returns-in-Call c =
    let u = untagged_state c.args.self.now.processor in
    record {
      step = c.call.ensures.step ∙ sym (ap (λ i. settled u (act u c.args.next i c.args.choice)) c.in-Call.is);
      said = c.call.ensures.said;
      kept = subst (λ i. Keeps (goes_on_at u c.args.next i) u (untagged_state c.call.new.self.processor) c.call.new.self.pending) (sym c.in-Call.is) c.call.ensures.kept;
    }

pub returns-in-Ret : goal.returns-in-Ret
returns-in-Ret c =
    let u = untagged_state c.args.self.now.processor in
    record {
      step = c.ret.ensures.step ∙ sym (ap (λ i. settled u (act u c.args.next i c.args.choice)) c.in-Ret.is);
      said = c.ret.ensures.said;
      kept = c.ret.ensures.kept _;
    }

pub returns-in-Rst0 : goal.returns-in-Rst0
returns-in-Rst0 c =
    let u = untagged_state c.args.self.now.processor in
    record {
      step = c.end.ensures.step ∙ sym (ap (λ i. settled u (act u c.args.next i c.args.choice)) c.in-Rst0.is);
      said = c.end.ensures.said;
      kept = c.end.ensures.kept _;
    }

pub returns-then-holds : goal.returns-then-holds
returns-then-holds c =
    let u = untagged_state c.args.self.now.processor in
    record {
      step =
          c.jump-then-holds.ensures.step
          ∙ sym (ap (λ b. settled u (cond b (jump u c.in-Jif.goal) (go_to u c.args.next))) (sym c.holds.ensures ∙ c.if-holds.true))
          ∙ sym (ap (λ i. settled u (act u c.args.next i c.args.choice)) c.in-Jif.is);
      said = c.jump-then-holds.ensures.said;
      kept = subst (λ i. Keeps (goes_on_at u c.args.next i) u (untagged_state c.jump-then-holds.new.self.processor) c.jump-then-holds.new.self.pending) (sym c.in-Jif.is) c.jump-then-holds.ensures.kept;
    }

pub returns-else-holds : goal.returns-else-holds
returns-else-holds c =
    let u = untagged_state c.args.self.now.processor in
    record {
      step =
          c.go_to.ensures.step
          ∙ sym (ap (λ b. settled u (cond b (jump u c.in-Jif.goal) (go_to u c.args.next))) (sym c.holds.ensures ∙ c.if-holds.false))
          ∙ sym (ap (λ i. settled u (act u c.args.next i c.args.choice)) c.in-Jif.is);
      said = c.go_to.ensures.said;
      kept = c.go_to.ensures.kept _;
    }

pub returns-then-holds-2 : goal.returns-then-holds-2
returns-then-holds-2 c =
    let u = untagged_state c.args.self.now.processor in
    record {
      step =
          c.call-then-holds-2.ensures.step
          ∙ sym (ap (λ b. settled u (cond b (call u c.args.next c.in-Cif.goal) (go_to u c.args.next))) (sym c.holds-in-Cif.ensures ∙ c.if-holds-2.true))
          ∙ sym (ap (λ i. settled u (act u c.args.next i c.args.choice)) c.in-Cif.is);
      said = c.call-then-holds-2.ensures.said;
      kept = subst (λ i. Keeps (goes_on_at u c.args.next i) u (untagged_state c.call-then-holds-2.new.self.processor) c.call-then-holds-2.new.self.pending) (sym c.in-Cif.is) c.call-then-holds-2.ensures.kept;
    }

pub returns-else-holds-2 : goal.returns-else-holds-2
returns-else-holds-2 c =
    let u = untagged_state c.args.self.now.processor in
    record {
      step =
          c.go_to-else-holds-2.ensures.step
          ∙ sym (ap (λ b. settled u (cond b (call u c.args.next c.in-Cif.goal) (go_to u c.args.next))) (sym c.holds-in-Cif.ensures ∙ c.if-holds-2.false))
          ∙ sym (ap (λ i. settled u (act u c.args.next i c.args.choice)) c.in-Cif.is);
      said = c.go_to-else-holds-2.ensures.said;
      kept = c.go_to-else-holds-2.ensures.kept _;
    }

pub returns-then-holds-3 : goal.returns-then-holds-3
returns-then-holds-3 c =
    let u = untagged_state c.args.self.now.processor in
    record {
      step =
          c.ret-then-holds-3.ensures.step
          ∙ sym (ap (λ b. settled u (cond b (ret u) (go_to u c.args.next))) (sym c.holds-in-Rif.ensures ∙ c.if-holds-3.true))
          ∙ sym (ap (λ i. settled u (act u c.args.next i c.args.choice)) c.in-Rif.is);
      said = c.ret-then-holds-3.ensures.said;
      kept = c.ret-then-holds-3.ensures.kept _;
    }

pub returns-else-holds-3 : goal.returns-else-holds-3
returns-else-holds-3 c =
    let u = untagged_state c.args.self.now.processor in
    record {
      step =
          c.go_to-else-holds-3.ensures.step
          ∙ sym (ap (λ b. settled u (cond b (ret u) (go_to u c.args.next))) (sym c.holds-in-Rif.ensures ∙ c.if-holds-3.false))
          ∙ sym (ap (λ i. settled u (act u c.args.next i c.args.choice)) c.in-Rif.is);
      said = c.go_to-else-holds-3.ensures.said;
      kept = c.go_to-else-holds-3.ensures.kept _;
    }
