-- What the run of the block ensures, said of the pool that the work holds. Of most clauses a search finds it too, but takes long.
use Rattle.std.proofs.Common.{◌≡◌, ℕ, ◌+◌, ◌*◌, ◌≤◌, length, false, Ok, ap, ◌∙◌, refl, sym, subst, arith}
use Rattle.xlt_pool.specs.Contents.{Contents}
use Rattle.sym_terms.specs.Trees.{PoolGrows}
use Rattle.sym_block_def.specs.Block80.{block80}
use Rattle.sym_run.specs.Outcomes.{OutcomeStands}
use Rattle.sym_run.proofs.Still.{stands_still, whole_still}
use Rattle.sym_run.proofs.Coming.{comes_to_end}
use Rattle.sym_run.proofs.work.Work.run80.Goals as goal

-- what a block leaves of a whole pool
leaves : (old new : Contents) (count : ℕ) → PoolGrows old new (24 * count + 32) → count ≤ 16 → old.spare ≡ 8192 → 240 * 16 + 32 ≤ new.spare
leaves old new count g few whole =
    let added : length g.added ≤ 24 * count + 32 = g.few in
    let spare : new.spare + length g.added ≡ old.spare = g.spare in
    omega arith

pub returns-in_err-exit : goal.returns-in_err-exit
returns-in_err-exit c =
    let terms : c.self-inside.inside.0.0 ≡ c.args.self.now.terms = ap (λ w. w.terms) c.self-inside.view_is ∙ ap (λ w. w.terms) c.self.view_is in
    let new = c.run_block.new.terms in
    let n = 24 * c.args.count + 32 in
    let second : c.args.self.now.second ≡ c.self-inside.inside.0.1.1.0 = sym (ap (λ w. w.second) c.self-inside.view_is ∙ ap (λ w. w.second) c.self.view_is) in
    let grows : PoolGrows c.args.self.now.terms new n = subst (λ t. PoolGrows t new n) terms c.run_block.ensures.grows in
    record {
      grows = grows;
      stands = rw c.from_residual.ensures c.in_err-exit.ensures.gives;
      room = λ h. rw c.from_residual.ensures (c.in_err-exit.ensures.enough (subst (λ (t : Contents). 24 * c.args.count + 32 ≤ t.spare) (sym terms) h));
      second = sym second;
      still = λ x h. subst (λ ids. OutcomeStands new ids x) second (stands_still c.args.self.now.terms new n grows c.args.self.now.second x h);
      keep = ap (λ w. w.keep) c.self-inside.view_is ∙ ap (λ w. w.keep) c.self.view_is;
      leaves = leaves c.args.self.now.terms c.run_block.new.terms c.args.count grows c.requires.few;
    }

pub returns : goal.returns
returns c =
    let terms : c.self-inside.inside.0.0 ≡ c.args.self.now.terms = ap (λ w. w.terms) c.self-inside.view_is ∙ ap (λ w. w.terms) c.self.view_is in
    let new = c.run_block.new.terms in
    let n = 24 * c.args.count + 32 in
    let second : c.args.self.now.second ≡ c.self-inside.inside.0.1.1.0 = sym (ap (λ w. w.second) c.self-inside.view_is ∙ ap (λ w. w.second) c.self.view_is) in
    let grows : PoolGrows c.args.self.now.terms new n = subst (λ t. PoolGrows t new n) terms c.run_block.ensures.grows in
    record {
      grows = grows;
      stands = comes_to_end c.run_block.new.terms c.run_block.new.run (Ok (block80 c.args.program.now c.args.leader c.args.count)) (record { exit = c.in_ok-exit.exit; direct = false }) c.in_ok-exit.ensures.gives;
      room = λ _. refl;
      second = sym second;
      still = λ x h. subst (λ ids. OutcomeStands new ids x) second (stands_still c.args.self.now.terms new n grows c.args.self.now.second x h);
      keep = ap (λ w. w.keep) c.self-inside.view_is ∙ ap (λ w. w.keep) c.self.view_is;
      leaves = leaves c.args.self.now.terms c.run_block.new.terms c.args.count grows c.requires.few;
    }

pub invariant_of-self-inside : goal.invariant_of-self-inside
invariant_of-self-inside c = c.run_block.ensures.capacity

pub invariant_of-self-inside-2 : goal.invariant_of-self-inside-2
invariant_of-self-inside-2 c = c.run_block.ensures.capacity

pub invariant_of-self : goal.invariant_of-self
invariant_of-self c =
    let terms : c.self.inside.terms ≡ c.self-inside.inside.0.0 = sym (ap (λ w. w.terms) c.self-inside.view_is) in
    whole_still c.self-inside.inside.0.0 c.run_block.new.terms (24 * c.args.count + 32) c.run_block.ensures.grows (subst (λ (t : Contents). t.spare + length t.nodes ≡ 8192) terms c.self.invariant)

pub invariant_of-self-2 : goal.invariant_of-self-2
invariant_of-self-2 c =
    let terms : c.self.inside.terms ≡ c.self-inside.inside.0.0 = sym (ap (λ w. w.terms) c.self-inside.view_is) in
    whole_still c.self-inside.inside.0.0 c.run_block.new.terms (24 * c.args.count + 32) c.run_block.ensures.grows (subst (λ (t : Contents). t.spare + length t.nodes ≡ 8192) terms c.self.invariant)
