use Rattle.std.proofs.Common.{◌≡◌, ℕ, List, [], ◌∷◌, ◌++◌, length, map, All, refl, sym, ap, subst, ◌∙◌, append-nil}
use Rattle.std.proofs.lemmas.List.Elements.{All-head, All-tail}
use Rattle.std.proofs.lemmas.Result.{on_ok_weaker}
use Rattle.asm80_types.specs.declared.program.Placed.{Placed}
use Rattle.asm80_types.specs.Program.{Program}
use Rattle.flow.specs.Cut.{EndsInMemory, extents}
use Rattle.flow.proofs.Passes.{pass_all}
use Rattle.flow.proofs.cut.Cut.add_all.Goals as goal

pub returns-in-Some-clause-leaders : goal.returns-in-Some-clause-leaders
returns-in-Some-clause-leaders c = λ p marks. on_ok_weaker c.add_from.result
    (λ added. rw c.in-Some.ensures.cases.0 (added ∙ ap (λ bs. c.args.self.now.leaders.items ++ map (λ (b : ℕ × ℕ). b.0) bs) (pass_all p c.in-Some.first.now c.in-Some.rest.now)))
    (c.add_from.ensures.leaders p marks)

pub returns-in-Some-clause-counts : goal.returns-in-Some-clause-counts
returns-in-Some-clause-counts c = λ p marks. on_ok_weaker c.add_from.result
    (λ added. rw c.in-Some.ensures.cases.0 (added ∙ ap (λ bs. c.args.self.now.counts.items ++ map (λ (b : ℕ × ℕ). b.1) bs) (pass_all p c.in-Some.first.now c.in-Some.rest.now)))
    (c.add_from.ensures.counts p marks)

pub add_from-requires-clause-first : goal.add_from-requires-clause-first
add_from-requires-clause-first c = All-head EndsInMemory c.in-Some.first.now c.in-Some.rest.now (subst (All EndsInMemory) c.in-Some.ensures.cases.0 c.requires)

pub add_from-requires-clause-rest : goal.add_from-requires-clause-rest
add_from-requires-clause-rest c = All-tail EndsInMemory c.in-Some.first.now c.in-Some.rest.now (subst (All EndsInMemory) c.in-Some.ensures.cases.0 c.requires)

no_blocks : (p : Program) (xs : List Placed) → length xs ≡ 0 → [] ≡ extents p xs
no_blocks p [] none = refl
no_blocks p (x ∷ xs) none = absurd cc

pub returns-in-None-clause-leaders : goal.returns-in-None-clause-leaders
returns-in-None-clause-leaders c = λ p marks. sym (append-nil c.args.self.now.leaders.items) ∙ ap (λ bs. c.args.self.now.leaders.items ++ map (λ (b : ℕ × ℕ). b.0) bs) (no_blocks p c.args.instrs.now c.in-None.ensures.cases)

pub returns-in-None-clause-counts : goal.returns-in-None-clause-counts
returns-in-None-clause-counts c = λ p marks. sym (append-nil c.args.self.now.counts.items) ∙ ap (λ bs. c.args.self.now.counts.items ++ map (λ (b : ℕ × ℕ). b.1) bs) (no_blocks p c.args.instrs.now c.in-None.ensures.cases)
