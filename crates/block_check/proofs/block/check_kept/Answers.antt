use Rattle.std.proofs.Common.{◌≡◌, ◌∙◌, Result, Ok, Err, ap, subst}
use Rattle.cells.specs.Parts.{Parts}
use Rattle.sym_block_def.specs.declared.reason.Reason.{Reason}
use Rattle.sym_block_def.specs.Outcome.{Outcome}
use Rattle.sym_block_def.specs.Block80.{block80}
use Rattle.sym_block_def.specs.Walk86.{walk86}
use Rattle.sym_block_def.specs.BlockMatch.{Keeps, kept_by_exit}
use Rattle.sym_micro.specs.Exits.{tree_of_exit}
use Rattle.sym_run.specs.Outcomes.{OutcomeStands, WalkComesTo}
use Rattle.block_check.specs.Kept.{KeepsAre, wanted_parts, lost_of, kept_behind}
use Rattle.block_check.specs.Comparing.{HoldsOutcomes, first_outcome, second_of, reason_by, verdict_of}
use Rattle.block_check.proofs.Found.{are_ready, found, compared, not_refused, ready_after, ready_refused, after_shown, reason_found}
use Rattle.block_check.proofs.block.check_kept.Goals as goal

pub reason_of-requires : goal.reason_of-requires
reason_of-requires c =
    let w = c.run86.new.self in
    let x : Outcome = block80 c.args.program.now c.args.leader c.args.count in
    let walk : Parts → Result Outcome Reason = λ keep. walk86 c.args.program.now c.args.text.now keep c.args.leader c.args.count in
    let first : OutcomeStands w.terms w.first x = c.run86.ensures.still x c.in-Some.ensures.stands in
    let came = rw c.in-Some-Ok.field-0-is at c.in-Some-Ok.ensures.stands in
    are_ready w x (walk c.run80.new.self.keep) first came

pub returns-in-Some-Ok : goal.returns-in-Some-Ok
returns-in-Some-Ok c =
    let w = c.run86.new.self in
    let x : Outcome = block80 c.args.program.now c.args.leader c.args.count in
    let walk : Parts → Result Outcome Reason = λ keep. walk86 c.args.program.now c.args.text.now keep c.args.leader c.args.count in
    let first : OutcomeStands w.terms w.first x = c.run86.ensures.still x c.in-Some.ensures.stands in
    let came = rw c.in-Some-Ok.field-0-is at c.in-Some-Ok.ensures.stands in
    let kept_at : c.run80.new.self.keep ≡ c.kept_from.result = cc in
    let exit : c.exit-exit.result ≡ w.first.exit = cc in
    let came_at = λ (k : Keeps) (h : KeepsAre c.args.kept.now k). subst (λ held. WalkComesTo w.terms w.second (walk held) (Ok tt)) (kept_at ∙ c.kept_from.ensures k h) came in
    record {
      verdict = λ k h.
          let kept : wanted_parts c.kept_by_exit-wanted.result ≡ kept_by_exit k (tree_of_exit w.terms w.first.exit) = rw (← exit) (c.kept_by_exit-wanted.ensures w.terms k h) in
          let back : c.kept_behind-back.result ≡ kept_behind k (tree_of_exit w.terms w.first.exit) = rw (← exit) (c.kept_behind-back.ensures w.terms k h) in
          let same : reason_by (wanted_parts c.kept_by_exit-wanted.result) (lost_of c.kept_behind-back.result) (first_outcome w) (second_of w) ≡ reason_by (kept_by_exit k (tree_of_exit w.terms w.first.exit)) (lost_of (kept_behind k (tree_of_exit w.terms w.first.exit))) (first_outcome w) (second_of w) = λ i. reason_by (kept i) (lost_of (back i)) (first_outcome w) (second_of w) in
          c.verdict_of.ensures ∙ ap verdict_of (c.reason_of.ensures ∙ (same ∙ found w k x (walk (k.at c.args.leader)) first (came_at k h)));
      outcomes = λ k h. after_shown c.verdict_of.result (HoldsOutcomes w x (walk (k.at c.args.leader))) (record { first = first; second = came_at k h });
      ready = ready_after c.verdict_of.result w (are_ready w x (walk c.run80.new.self.keep) first came);
      compared = λ k y h e. compared w x y (walk (k.at c.args.leader)) first (came_at k h) e;
    }

pub returns-in-Some-Err : goal.returns-in-Some-Err
returns-in-Some-Err c =
    let w = c.run86.new.self in
    let x : Outcome = block80 c.args.program.now c.args.leader c.args.count in
    let reason = c.in-Some-Err.reason in
    let walk : Parts → Result Outcome Reason = λ keep. walk86 c.args.program.now c.args.text.now keep c.args.leader c.args.count in
    let came = rw c.in-Some-Err.field-0-is at c.in-Some-Err.ensures.stands in
    let kept_at : c.run80.new.self.keep ≡ c.kept_from.result = cc in
    let came_at = λ (k : Keeps) (h : KeepsAre c.args.kept.now k). subst (λ held. WalkComesTo w.terms w.second (walk held) (Err reason)) (kept_at ∙ c.kept_from.ensures k h) came in
    record {
      verdict = λ k h. reason_found w.terms w.second k x (walk (k.at c.args.leader)) reason (came_at k h);
      outcomes = λ k h. tt;
      ready = ready_refused c.args.program.now c.args.text.now c.run80.new.self.keep c.args.leader c.args.count w reason c.ends_say_why.ensures came;
      compared = λ k y h e. absurd (not_refused w.terms w.second y (walk (k.at c.args.leader)) reason (came_at k h) e);
    }
