use Rattle.std.proofs.Common.{◌≡◌, ◌∙◌, ◌⊎◌, inl, inr, ℕ, Ok, refl, sym, ap, subst}
use Rattle.std.proofs.lemmas.Result.{err_from_is_err_and}
use Rattle.cells.specs.declared.Cond.{Cond}
use Rattle.i80.specs.declared.Goal.{Goal}
use Rattle.i80.specs.declared.Instr80.{Instr80}
use Rattle.i80.specs.declared.Instr80.TheVariants.{Pchl, Jmp, Jif, Call, Cif, Ret, Rif, Rst0, In, Out}
use Rattle.asm80_types.specs.Program.{Program}
use Rattle.cpu80_tagged.specs.State.{State80}
use Rattle.cpu80_tagged.specs.Call.{popped_return, return_after}
use Rattle.cpu80_tagged.specs.Effect.{effect}
use Rattle.cpu80_tagged.specs.Step.{act, go_by, go_on}
use Rattle.cpu80_tagged.specs.Conditional.{unconditional, return_by}
use Rattle.cpu80_tagged.specs.Draft.{state_of_draft}
use Rattle.cpu80_tagged.specs.Turn.{IsAsking}
use Rattle.cpu80_tagged.proofs.Turns.{no_asking}
use Rattle.cpu80_tagged.proofs.draft.Draft.go.Goals as goal

goes_on : (p : Program) (s : State80) (a : ℕ) (i : Instr80) → (i ≡ Pchl → ⊥) → ((x : Goal) → i ≡ Jmp x → ⊥) → ((x : Cond) (y : Goal) → i ≡ Jif x y → ⊥) → ((x : Goal) → i ≡ Call x → ⊥) → ((x : Cond) (y : Goal) → i ≡ Cif x y → ⊥) → (i ≡ Ret → ⊥) → ((x : Cond) → i ≡ Rif x → ⊥) → (i ≡ Rst0 → ⊥) → ((x : ℕ) → i ≡ In x → ⊥) → ((x : ℕ) → i ≡ Out x → ⊥) → go_on p a (effect p s i) ≡ act p s a (unconditional i)
goes_on p s a Pchl n1 n2 n3 n4 n5 n6 n7 n8 n9 n10 = absurd (n1 refl)
goes_on p s a (Jmp x) n1 n2 n3 n4 n5 n6 n7 n8 n9 n10 = absurd (n2 x refl)
goes_on p s a (Jif x y) n1 n2 n3 n4 n5 n6 n7 n8 n9 n10 = absurd (n3 x y refl)
goes_on p s a (Call x) n1 n2 n3 n4 n5 n6 n7 n8 n9 n10 = absurd (n4 x refl)
goes_on p s a (Cif x y) n1 n2 n3 n4 n5 n6 n7 n8 n9 n10 = absurd (n5 x y refl)
goes_on p s a Ret n1 n2 n3 n4 n5 n6 n7 n8 n9 n10 = absurd (n6 refl)
goes_on p s a (Rif x) n1 n2 n3 n4 n5 n6 n7 n8 n9 n10 = absurd (n7 x refl)
goes_on p s a Rst0 n1 n2 n3 n4 n5 n6 n7 n8 n9 n10 = absurd (n8 refl)
goes_on p s a (In x) n1 n2 n3 n4 n5 n6 n7 n8 n9 n10 = absurd (n9 x refl)
goes_on p s a (Out x) n1 n2 n3 n4 n5 n6 n7 n8 n9 n10 = absurd (n10 x refl)
goes_on p s a i n1 n2 n3 n4 n5 n6 n7 n8 n9 n10 = refl

-- a conditional jump, call or return is one without its condition
as_jump : (i : Instr80) (t : Goal) → (i ≡ Jmp t) ⊎ ((x : Cond) × (i ≡ Jif x t)) → unconditional i ≡ Jmp t
as_jump i t (inl e) = ap unconditional e
as_jump i t (inr h) = ap unconditional h.1

as_call : (i : Instr80) (t : Goal) → (i ≡ Call t) ⊎ ((x : Cond) × (i ≡ Cif x t)) → unconditional i ≡ Call t
as_call i t (inl e) = ap unconditional e
as_call i t (inr h) = ap unconditional h.1

as_return : (i : Instr80) → (i ≡ Ret) ⊎ ((x : Cond) × (i ≡ Rif x)) → unconditional i ≡ Ret
as_return i (inl e) = ap unconditional e
as_return i (inr h) = ap unconditional h.1

return_of_jump : (p : Program) (s : State80) (a : ℕ) (i : Instr80) (t : Goal) → (i ≡ Jmp t) ⊎ ((x : Cond) × (i ≡ Jif x t)) → popped_return p s ≡ return_by p s a i
return_of_jump p s a i t (inl e) = sym (ap (return_by p s a) e)
return_of_jump p s a i t (inr h) = sym (ap (return_by p s a) h.1)

return_of_call : (p : Program) (s : State80) (a : ℕ) (i : Instr80) (t : Goal) → (i ≡ Call t) ⊎ ((x : Cond) × (i ≡ Cif x t)) → return_after p s a ≡ return_by p s a i
return_of_call p s a i t (inl e) = sym (ap (return_by p s a) e)
return_of_call p s a i t (inr h) = sym (ap (return_by p s a) h.1)

pub returns-in_err-place-in-Pchl : goal.returns-in_err-place-in-Pchl
returns-in_err-place-in-Pchl c =
    let p = c.args.area.now.program.now in
    let s = state_of_draft c.args.self.now in
    let e = err_from_is_err_and c.from_residual.result c.from_residual.ensures.1 in
    record {
      answer = rw (e.1, e.2) (ap (go_by s s.sp) c.in_err-place-in-Pchl.ensures ∙ sym (ap (λ i. act p s c.args.after (unconditional i)) c.in-Pchl.is));
      asking = rw e.1 tt;
      memory = refl;
    }

pub returns-in_ok-place-in-Pchl : goal.returns-in_ok-place-in-Pchl
returns-in_ok-place-in-Pchl c =
    let p = c.args.area.now.program.now in
    let s = state_of_draft c.args.self.now in
    record {
      answer = c.leave_to.ensures.answer
          ∙ (ap (go_by s s.sp) c.in_ok-place-in-Pchl.ensures ∙ sym (ap (λ i. act p s c.args.after (unconditional i)) c.in-Pchl.is));
      asking = no_asking p s _ (Ok c.leave_to.result) c.leave_to.ensures.nothing_asked;
      memory = c.leave_to.ensures.memory;
    }

pub returns-in_default : goal.returns-in_default
returns-in_default c =
    let p = c.args.area.now.program.now in
    let s = state_of_draft c.args.self.now in
    let n = c.in_default in
    record {
      answer = c.go_on.ensures.answer ∙ goes_on p s _ c.args.instr n.not-Pchl n.not-Jmp n.not-Jif n.not-Call n.not-Cif n.not-Ret n.not-Rif n.not-Rst0 n.not-In n.not-Out;
      asking = no_asking p s _ c.go_on.result c.go_on.ensures.nothing_asked;
      memory = c.go_on.ensures.memory;
    }

pub returns-in-Jmp : goal.returns-in-Jmp
returns-in-Jmp c =
    let p = c.args.area.now.program.now in
    let s = state_of_draft c.args.self.now in
    record {
      answer = c.jump.ensures.answer ∙ sym (ap (act p s c.args.after) (as_jump c.args.instr c.in-Jmp.goal c.in-Jmp.is));
      asking = subst (λ back. IsAsking p s back c.jump.result) (return_of_jump p s c.args.after c.args.instr c.in-Jmp.goal c.in-Jmp.is) c.jump.ensures.asking;
      memory = c.jump.ensures.memory;
    }

pub returns-in-Call : goal.returns-in-Call
returns-in-Call c =
    let p = c.args.area.now.program.now in
    let s = state_of_draft c.args.self.now in
    record {
      answer = c.call.ensures.answer ∙ sym (ap (act p s c.args.after) (as_call c.args.instr c.in-Call.goal c.in-Call.is));
      asking = subst (λ back. IsAsking p s back c.call.result) (return_of_call p s c.args.after c.args.instr c.in-Call.goal c.in-Call.is) c.call.ensures.asking;
      memory = c.call.ensures.memory;
    }

pub returns-in-Ret : goal.returns-in-Ret
returns-in-Ret c =
    let p = c.args.area.now.program.now in
    let s = state_of_draft c.args.self.now in
    record {
      answer = c.go_back.ensures.answer ∙ sym (ap (act p s c.args.after) (as_return c.args.instr c.in-Ret.is));
      asking = no_asking p s _ c.go_back.result c.go_back.ensures.nothing_asked;
      memory = c.go_back.ensures.memory;
    }

pub returns-in-In : goal.returns-in-In
returns-in-In c =
    let p = c.args.area.now.program.now in
    let s = state_of_draft c.args.self.now in
    record {
      answer = c.read_port.ensures.answer ∙ sym (ap (λ i. act p s c.args.after (unconditional i)) c.in-In.is);
      asking = subst (λ back. IsAsking p s back c.read_port.result) (sym (ap (return_by p s c.args.after) c.in-In.is)) c.read_port.ensures.asking;
      memory = refl;
    }

pub returns-in-Out : goal.returns-in-Out
returns-in-Out c =
    let p = c.args.area.now.program.now in
    let s = state_of_draft c.args.self.now in
    record {
      answer = c.write_port.ensures.answer ∙ sym (ap (λ i. act p s c.args.after (unconditional i)) c.in-Out.is);
      asking = subst (λ back. IsAsking p s back c.write_port.result) (sym (ap (return_by p s c.args.after) c.in-Out.is)) c.write_port.ensures.asking;
      memory = refl;
    }

pub returns-in-Rst0 : goal.returns-in-Rst0
returns-in-Rst0 c =
    let p = c.args.area.now.program.now in
    let s = state_of_draft c.args.self.now in
    record {
      answer = sym (ap (λ i. act p s c.args.after (unconditional i)) c.in-Rst0.is);
      asking = tt;
      memory = refl;
    }
