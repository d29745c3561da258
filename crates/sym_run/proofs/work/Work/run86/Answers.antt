-- What the run of the text ensures, said of the pool that the work holds. Of some clauses a search finds it too, but takes long.
use Rattle.std.proofs.Common.{◌≡◌, ◌+◌, ◌*◌, ◌≤◌, length, Result, Ok, Err, ap, ◌∙◌, refl, sym, subst}
use Rattle.cells.specs.Parts.{Parts}
use Rattle.xlt_pool.specs.Contents.{Contents}
use Rattle.sym_terms.specs.Trees.{PoolGrows}
use Rattle.sym_block_def.specs.declared.reason.Reason.{Reason}
use Rattle.sym_block_def.specs.Outcome.{Outcome}
use Rattle.sym_block_def.specs.Walk86.{walk86}
use Rattle.sym_run.specs.Ends.{EndStands}
use Rattle.sym_run.specs.Outcomes.{OutcomeStands}
use Rattle.sym_run.proofs.Still.{stands_still, whole_still}
use Rattle.sym_run.proofs.Coming.{ids_of, comes_to_end, comes_to_reason}
use Rattle.sym_run.proofs.work.Work.run86.Goals as goal

pub returns-in_err-end : goal.returns-in_err-end
returns-in_err-end c =
    let terms : c.self-inside.inside.0.0 ≡ c.args.self.now.terms = ap (λ w. w.terms) c.self-inside.view_is ∙ ap (λ w. w.terms) c.self.view_is in
    let new = c.run_text.new.terms in
    let n = 240 * c.args.count + 32 in
    let first : c.args.self.now.first ≡ c.self-inside.inside.0.1.0 = sym (ap (λ w. w.first) c.self-inside.view_is ∙ ap (λ w. w.first) c.self.view_is) in
    let grows : PoolGrows c.args.self.now.terms new n = subst (λ t. PoolGrows t new n) terms c.run_text.ensures.grows in
    record {
      grows = grows;
      stands = rw c.from_residual.ensures c.in_err-end.ensures.gives;
      room = λ h. rw c.from_residual.ensures (c.in_err-end.ensures.enough (subst (λ (t : Contents). 240 * c.args.count + 32 ≤ t.spare) (sym terms) h));
      first = sym first;
      still = λ x h. subst (λ ids. OutcomeStands new ids x) first (stands_still c.args.self.now.terms new n grows c.args.self.now.first x h);
      keep = ap (λ w. w.keep) c.self-inside.view_is ∙ ap (λ w. w.keep) c.self.view_is;
    }

pub returns-in-Ok : goal.returns-in-Ok
returns-in-Ok c =
    let terms : c.self-inside.inside.0.0 ≡ c.args.self.now.terms = ap (λ w. w.terms) c.self-inside.view_is ∙ ap (λ w. w.terms) c.self.view_is in
    let new = c.run_text.new.terms in
    let r = c.run_text.new.run in
    let tree : Parts → Result Outcome Reason = λ keep. walk86 c.args.program.now c.args.text.now keep c.args.leader c.args.count in
    let keep : c.self-inside.inside.0.1.1.1.0 ≡ c.args.self.now.keep = ap (λ w. w.keep) c.self-inside.view_is ∙ ap (λ w. w.keep) c.self.view_is in
    let end = subst (λ e. EndStands new r (tree c.self-inside.inside.0.1.1.1.0) e) c.in-Ok.is c.in_ok-end.ensures.gives in
    let n = 240 * c.args.count + 32 in
    let first : c.args.self.now.first ≡ c.self-inside.inside.0.1.0 = sym (ap (λ w. w.first) c.self-inside.view_is ∙ ap (λ w. w.first) c.self.view_is) in
    let grows : PoolGrows c.args.self.now.terms new n = subst (λ t. PoolGrows t new n) terms c.run_text.ensures.grows in
    record {
      grows = grows;
      stands = comes_to_end new r (tree c.args.self.now.keep) c.in-Ok.end (subst (λ k. EndStands new r (tree k) (Ok c.in-Ok.end)) keep end);
      room = λ _. refl;
      first = sym first;
      still = λ x h. subst (λ ids. OutcomeStands new ids x) first (stands_still c.args.self.now.terms new n grows c.args.self.now.first x h);
      keep = ap (λ w. w.keep) c.self-inside.view_is ∙ ap (λ w. w.keep) c.self.view_is;
    }

pub returns-in-Err : goal.returns-in-Err
returns-in-Err c =
    let terms : c.self-inside.inside.0.0 ≡ c.args.self.now.terms = ap (λ w. w.terms) c.self-inside.view_is ∙ ap (λ w. w.terms) c.self.view_is in
    let new = c.run_text.new.terms in
    let r = c.run_text.new.run in
    let old = c.self-inside.inside.0.1.1.0 in
    let tree : Parts → Result Outcome Reason = λ keep. walk86 c.args.program.now c.args.text.now keep c.args.leader c.args.count in
    let keep : c.self-inside.inside.0.1.1.1.0 ≡ c.args.self.now.keep = ap (λ w. w.keep) c.self-inside.view_is ∙ ap (λ w. w.keep) c.self.view_is in
    let end = subst (λ e. EndStands new r (tree c.self-inside.inside.0.1.1.1.0) e) c.in-Err.is c.in_ok-end.ensures.gives in
    let n = 240 * c.args.count + 32 in
    let first : c.args.self.now.first ≡ c.self-inside.inside.0.1.0 = sym (ap (λ w. w.first) c.self-inside.view_is ∙ ap (λ w. w.first) c.self.view_is) in
    let grows : PoolGrows c.args.self.now.terms new n = subst (λ t. PoolGrows t new n) terms c.run_text.ensures.grows in
    record {
      grows = grows;
      stands = comes_to_reason new r (ids_of r (record { exit = old.exit; direct = old.direct })) (tree c.args.self.now.keep) c.in-Err.reason (subst (λ k. EndStands new r (tree k) (Err c.in-Err.reason)) keep end);
      room = λ _. refl;
      first = sym first;
      still = λ x h. subst (λ ids. OutcomeStands new ids x) first (stands_still c.args.self.now.terms new n grows c.args.self.now.first x h);
      keep = ap (λ w. w.keep) c.self-inside.view_is ∙ ap (λ w. w.keep) c.self.view_is;
    }

pub invariant_of-self-inside : goal.invariant_of-self-inside
invariant_of-self-inside c = c.run_text.ensures.capacity

pub invariant_of-self-inside-in-Ok : goal.invariant_of-self-inside-in-Ok
invariant_of-self-inside-in-Ok c = c.run_text.ensures.capacity

pub invariant_of-self : goal.invariant_of-self
invariant_of-self c =
    let terms : c.self.inside.terms ≡ c.self-inside.inside.0.0 = sym (ap (λ w. w.terms) c.self-inside.view_is) in
    whole_still c.self-inside.inside.0.0 c.run_text.new.terms (240 * c.args.count + 32) c.run_text.ensures.grows (subst (λ (t : Contents). t.spare + length t.nodes ≡ 8192) terms c.self.invariant)

pub invariant_of-self-in-Ok : goal.invariant_of-self-in-Ok
invariant_of-self-in-Ok c =
    let terms : c.self.inside.terms ≡ c.self-inside.inside.0.0 = sym (ap (λ w. w.terms) c.self-inside.view_is) in
    whole_still c.self-inside.inside.0.0 c.run_text.new.terms (240 * c.args.count + 32) c.run_text.ensures.grows (subst (λ (t : Contents). t.spare + length t.nodes ≡ 8192) terms c.self.invariant)

pub run_text-requires-clause-capacity : goal.run_text-requires-clause-capacity
run_text-requires-clause-capacity c = c.self-inside.invariant

pub run_text-requires-clause-block : goal.run_text-requires-clause-block
run_text-requires-clause-block c = c.requires
