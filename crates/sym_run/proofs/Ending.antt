-- Ends of a walk for which no term is made.
use Rattle.std.proofs.Common.{ℕ, Bool, false, Option, Some, None, Result, Ok, Err, refl, ap}
use Rattle.xlt_pool.specs.Contents.{Contents}
use Rattle.dialogue.specs.Tried.{try_then}
use Rattle.sym_terms.specs.Trees.{PoolGrows}
use Rattle.sym_terms.proofs.Interning.{still}
use Rattle.sym_block_def.specs.declared.reason.Reason.{Reason}
use Rattle.sym_block_def.specs.Outcome.{Way, Exit, One, Outcome}
use Rattle.sym_block_def.specs.Symbolic86.{Symbolic86}
use Rattle.sym_block_def.specs.Walk86.{walk_jump, one_way, outcome86}
use Rattle.sym_micro.specs.declared.outcome.Way.{Way as WayIds}
use Rattle.sym_micro.specs.declared.outcome.Exit.{Exit as ExitIds}
use Rattle.sym_micro.specs.declared.outcome.Exit.TheVariants.{One as OneIds}
use Rattle.sym_micro.specs.declared.run.Run.{Run}
use Rattle.sym_micro.specs.Machine.{Machine, as86}
use Rattle.sym_micro.specs.Stands.{machine_of, IsReady}
use Rattle.sym_micro.specs.Exits.{WayIs, ExitIs, OutcomeIs}
use Rattle.sym_micro.proofs.Ready.{run_given, same_machine}
use Rattle.sym_run.specs.Around.{WayMayBe}
use Rattle.sym_run.specs.Ends.{WayStands, EndsWithoutTerm}

-- a run that is ready, and an exit, stand for the outcome of its terms
pub outcome_is : (old new : Contents) (n : ℕ) (r : Run) (exit : Exit) (ids : ExitIds) (direct : Bool) → PoolGrows old new n → IsReady old r → ExitIs new exit ids → OutcomeIs new r ids direct (outcome86 (as86 (machine_of old r)) direct exit)
outcome_is old new n r exit ids direct g h e =
    let given = run_given old new n g r h.given in
    let same = same_machine old new n g r h.given in
    record {
      held_given = given.held;
      held = ap (λ (m : Machine). m.held) same;
      sp_given = given.sp;
      sp = ap (λ (m : Machine). m.sp) same;
      actions_given = given.actions;
      actions = ap (λ (m : Machine). m.trace.actions) same;
      exit = e;
      direct = refl;
    }

pub one_ends : (tree : Way) (way : WayIds) (direct : Bool) → ((pool : Contents) → WayIs pool tree way) → EndsWithoutTerm (λ s. Ok (outcome86 s direct (One tree))) (Ok (record { exit = OneIds way; direct = direct }))
one_ends tree way direct w = λ pool r ready. outcome_is pool pool 0 r (One tree) (OneIds way) direct (still pool) ready (record { given = (w pool).given; is = ap One (w pool).is })

-- a jump by a label that is a way
pub way_ends : (o : Option Way) (on : Symbolic86 → Result Outcome Reason) (way : WayIds) → WayMayBe o (Some way) → EndsWithoutTerm (λ s. walk_jump (one_way s) (on s) o) (Ok (record { exit = OneIds way; direct = false }))
way_ends None on way h = absurd h
way_ends (Some tree) on way h = one_ends tree way false h

-- a call
pub call_ends : (t : Result Way Reason) (way : WayIds) → WayStands t (Ok way) → EndsWithoutTerm (λ s. try_then t (one_way s)) (Ok (record { exit = OneIds way; direct = false }))
call_ends (Ok tree) way h = one_ends tree way false h
call_ends (Err r) way h = absurd h

pub call_refused : (t : Result Way Reason) (q : Reason) → WayStands t (Err q) → EndsWithoutTerm (λ s. try_then t (one_way s)) (Err q)
call_refused (Ok tree) q h = absurd h
call_refused (Err r) q h = λ pool run ready. h
