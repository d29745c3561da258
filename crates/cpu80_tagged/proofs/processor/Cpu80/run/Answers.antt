use Rattle.std.proofs.Common.{◌≡◌, List, length, Result, Ok, refl, sym, ap, subst, ◌∙◌}
use Rattle.std.specs.Vec.{with_items}
use Rattle.std.proofs.lemmas.List.{with_items_is}
use Rattle.cells.specs.declared.Cell.{Cell}
use Rattle.cells.specs.declared.Rule.{Rule}
use Rattle.dialogue.specs.Run.{Ran, Ends}
use Rattle.cpu80_tagged.specs.Area.{HasUses}
use Rattle.cpu80_tagged.specs.State.{State80}
use Rattle.cpu80_tagged.specs.Step.{step80}
use Rattle.cpu80_tagged.specs.Draft.{memory_of, memory_written, state_of_draft as draft_state}
use Rattle.cpu80_tagged.specs.declared.turn.Turn.{Turn}
use Rattle.cpu80_tagged.specs.Turn.{answer_of_turn}
use Rattle.cpu80_tagged.specs.declared.processor.Step80.TheVariants.{Ran as DidRun, Ended as DidEnd, Left}
use Rattle.cpu80_tagged.specs.ProcessorState.{tagged_state, waits}
use Rattle.cpu80_tagged.specs.Machine.{IsTaggedStep}
use Rattle.cpu80_tagged.proofs.Steps.{ran_answer, ran_place, asked_waits, runs_on, waiting_step}
use Rattle.cpu80_tagged.proofs.processor.Cpu80.run.Goals as goal

pub returns-in-Ran : goal.returns-in-Ran
returns-in-Ran c =
    let p = c.args.program.now in
    let before = tagged_state c.args.self.now in
    let start : State80 = record before { mem = memory_of c.as_slice-2.result.now } in
    let same : start ≡ before = ap (λ (m : List Cell). record before { mem = memory_of m }) c.as_slice-2.ensures.value in
    let after = draft_state c.step.new.self in
    let ran : Ran after ≡ step80 p start = ran_answer p start after c.step.result c.in-Ok.turn c.in-Ok.is c.in-Ran.is c.step.ensures.answer in
    let memory = with_items c.args.self.now.memory c.make.new.memory in
    let made = ap memory_of (with_items_is c.args.self.now.memory c.make.new.memory (c.make.auto.memory ∙ c.as_mut_slice.ensures.len)) ∙ c.make.ensures ∙ ap (λ (m : List Cell). memory_written c.step.new.self.write (memory_of m)) (c.as_mut_slice.ensures.value ∙ sym (c.step.ensures.memory ∙ c.as_slice-2.ensures.value)) in
    record {
      step = subst (λ a. IsTaggedStep a DidRun before (record after { mem = memory_of memory.items })) (ran ∙ ap (step80 p) same) (refl, ap (λ m. record after { mem = m }) made);
      asked = ap waits c.requires.runs;
      machine = runs_on p c.args.self.now.uses.items _ c.requires.machine.uses refl c.requires.runs (ran_place p start after ran);
    }

pub returns-in-Asked : goal.returns-in-Asked
returns-in-Asked c =
    let p = c.args.program.now in
    let before = tagged_state c.args.self.now in
    let start : State80 = record before { mem = memory_of c.as_slice-2.result.now } in
    let same : start ≡ before = ap (λ (m : List Cell). record before { mem = memory_of m }) c.as_slice-2.ensures.value in
    let kept = asked_waits p before start (draft_state c.step.new.self) c.step.result c.in-Ok.turn c.in-Asked.question c.in-Asked.back same c.in-Ok.is c.in-Asked.is c.step.ensures.answer c.step.ensures.asking in
    record {
      step = waiting_step p before c.in-Asked.question c.in-Asked.back kept;
      asked = refl;
      machine = record { uses = c.requires.machine.uses; place = c.requires.machine.place; phase = kept };
    }

pub returns-in-Ended : goal.returns-in-Ended
returns-in-Ended c =
    let p = c.args.program.now in
    let before = tagged_state c.args.self.now in
    let start : State80 = record before { mem = memory_of c.as_slice-2.result.now } in
    let same : start ≡ before = ap (λ (m : List Cell). record before { mem = memory_of m }) c.as_slice-2.ensures.value in
    let after = draft_state c.step.new.self in
    let ends : Ends ≡ step80 p before =
    subst (λ (r : Result Turn Rule). answer_of_turn p start r after ≡ step80 p start) (c.in-Ok.is ∙ ap Ok c.in-Ended.is) c.step.ensures.answer ∙ ap (step80 p) same in
    record {
      step = subst (λ a. IsTaggedStep a DidEnd before before) ends (refl, refl);
      asked = refl;
      machine = record { uses = c.requires.machine.uses; place = c.requires.machine.place; phase = sym ends };
    }

pub returns-in-Err : goal.returns-in-Err
returns-in-Err c =
    let p = c.args.program.now in
    let before = tagged_state c.args.self.now in
    let start : State80 = record before { mem = memory_of c.as_slice-2.result.now } in
    let same : start ≡ before = ap (λ (m : List Cell). record before { mem = memory_of m }) c.as_slice-2.ensures.value in
    record {
      step = subst (λ a. IsTaggedStep a (Left c.in-Err.rule) before before) (c.in-Err.ensures.answer ∙ ap (step80 p) same) (refl, refl);
      asked = ap waits c.requires.runs;
      machine = record { uses = c.requires.machine.uses; place = c.requires.machine.place; phase = c.requires.machine.phase };
    }

pub invariant_of-draft : goal.invariant_of-draft
invariant_of-draft c = record { full = ap length c.as_slice-2.ensures.value ∙ c.args.self.now.full; fits = refl }

pub invariant_of-area : goal.invariant_of-area
invariant_of-area c = record { agrees = subst (HasUses c.args.program.now) (sym c.as_slice.ensures.value) c.requires.machine.uses }

pub make-requires-clause-full : goal.make-requires-clause-full
make-requires-clause-full c = ap length c.as_mut_slice.ensures.value ∙ c.args.self.now.full

pub invariant_of-self : goal.invariant_of-self
invariant_of-self c =
    let memory = c.args.self.now.memory in
    let same : length c.make.new.memory ≡ length c.as_mut_slice.result.now = c.make.auto.memory in
    record {
      full = ap length (with_items_is memory c.make.new.memory (same ∙ c.as_mut_slice.ensures.len)) ∙ same ∙ ap length c.as_mut_slice.ensures.value ∙ c.args.self.now.full;
      all_used = c.args.self.now.all_used;
    }
