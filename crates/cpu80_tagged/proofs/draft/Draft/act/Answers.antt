use Rattle.std.proofs.Common.{◌≡◌, ◌∙◌, ℕ, ◌+◌, Some, refl, sym, ap, subst}
use Rattle.i80.specs.declared.Instr80.{Instr80}
use Rattle.i80.specs.declared.Instr80.TheVariants.{Jmp, Jif, Cif, Rif}
use Rattle.i80.specs.Columns.{length80}
use Rattle.asm80_types.specs.Program.{Program}
use Rattle.cpu80_tagged.specs.State.{State80}
use Rattle.cpu80_tagged.specs.Step.{act, go_to, where_holds, return_of}
use Rattle.cpu80_tagged.specs.Conditional.{condition_of, unconditional, return_by}
use Rattle.cpu80_tagged.specs.Draft.{state_of_draft}
use Rattle.cpu80_tagged.specs.Turn.{IsAsking}
use Rattle.cpu80_tagged.proofs.Turns.{no_asking}
use Rattle.cpu80_tagged.proofs.draft.Draft.act.Goals as goal

-- an instruction is its condition and the instruction without it
by_condition : (p : Program) (s : State80) (a : ℕ) (i : Instr80) → act p s a i ≡ where_holds p s a (condition_of s.flags i) (act p s a (unconditional i))
by_condition p s a (Jif c t) = refl
by_condition p s a (Cif c t) = refl
by_condition p s a (Rif c) = refl
by_condition p s a i = refl

return_is : (p : Program) (s : State80) (at : ℕ) (i : Instr80) → return_by p s (at + length80 i) i ≡ return_of p s at (Some i)
return_is p s at (Jmp t) = refl
return_is p s at (Jif c t) = refl
return_is p s at i = refl

pub returns-in-Some-true : goal.returns-in-Some-true
returns-in-Some-true c =
    let p = c.args.area.now.program.now in
    let s = state_of_draft c.args.self.now in
    let i = c.args.instr in
    let a = c.args.at + length80 i in
    let d = c.in-Some-true in
    record {
      answer = c.go.ensures.answer
          ∙ ap (λ k. act p s (c.args.at + k) (unconditional i)) c.length.ensures
          ∙ sym (by_condition p s a i ∙ ap (λ h. where_holds p s a h (act p s a (unconditional i))) (sym c.condition.ensures ∙ d.is ∙ ap Some d.field-0-test));
      asking = subst (λ back. IsAsking p s back c.go.result) (ap (λ k. return_by p s (c.args.at + k) c.args.instr) c.length.ensures ∙ return_is p s c.args.at c.args.instr) c.go.ensures.asking;
      memory = c.go.ensures.memory;
    }

pub returns-in-Some-false : goal.returns-in-Some-false
returns-in-Some-false c =
    let p = c.args.area.now.program.now in
    let s = state_of_draft c.args.self.now in
    let i = c.args.instr in
    let a = c.args.at + length80 i in
    let d = c.in-Some-false in
    record {
      answer = c.go_to.ensures.answer s
          ∙ ap (λ k. go_to p s (c.args.at + k)) c.length.ensures
          ∙ sym (by_condition p s a i ∙ ap (λ h. where_holds p s a h (act p s a (unconditional i))) (sym c.condition.ensures ∙ d.is ∙ ap Some d.field-0-test));
      asking = no_asking c.args.area.now.program.now (state_of_draft c.args.self.now) _ c.go_to.result c.go_to.ensures.nothing_asked;
      memory = c.go_to.ensures.memory;
    }

pub returns-in-None : goal.returns-in-None
returns-in-None c =
    let p = c.args.area.now.program.now in
    let s = state_of_draft c.args.self.now in
    let i = c.args.instr in
    let a = c.args.at + length80 i in
    record {
      answer = sym (by_condition p s a i ∙ ap (λ h. where_holds p s a h (act p s a (unconditional i))) (sym c.condition.ensures ∙ c.in-None.is));
      asking = tt;
      memory = refl;
    }
