-- What is found of two outcomes is what is found of those that they stand for.
use Rattle.std.proofs.Common.{◌≡◌, ◌∙◌, ℕ, zero, suc, List, [], ◌∷◌, Result, Ok, Err, Option, Some, None, is_some, true, sym, ap, subst, refl, arith}
use Rattle.cells.specs.Parts.{Parts}
use Rattle.asm86_line_types.specs.declared.line.Stmt86.{Stmt86}
use Rattle.asm86_line_types.specs.declared.line.Stmt86.TheVariants.{Mark}
use Rattle.sym_block_def.specs.declared.reason.Reason.TheVariants.{Missing, Length, Form}
use Rattle.sym_block_def.specs.Walk86.{walk86}
use Rattle.sym_run.specs.Stop.{Stop, reason_at, reason_by as reason_of_end, stop_in, EndsSayWhy}
use Rattle.asm80_types.specs.declared.program.Placed.{Placed}
use Rattle.sym_block_def.specs.Block80.{MayRun}
use Rattle.xlt_pool.specs.Contents.{Contents}
use Rattle.sym_block_def.specs.declared.reason.Reason.{Reason}
use Rattle.asm80_types.specs.Program.{Program, placed_in, is_start}
use Rattle.sym_block_def.specs.Outcome.{Goto, ByTerms, Call, Sys, SysReturn, Boot, Leave, In, Out, Exit, One, Two, Outcome}
use Rattle.sym_block_def.specs.BlockMatch.{Keeps, kept_by_exit, lost_by, outcome_reason, walked_reason}
use Rattle.sym_run.specs.Outcomes.{OutcomeIds, OutcomeStands, WalkComesTo, WorkState}
use Rattle.block_check.specs.Kept.{kept_behind, lost_of}
use Rattle.block_check.specs.Comparing.{outcome_of, OutcomeIsGiven, AreReady, AreReadyFor, AreReadyAfter, AreCompared, first_outcome, second_of, reason_by, verdict_of, AfterShown}
use Rattle.block_check.specs.declared.block.Verdict.{Verdict}
use Rattle.block_check.specs.declared.block.Verdict.TheVariants.{Shown, NotShown}

stands_given : (pool : Contents) (ids : OutcomeIds) (x : Outcome) → OutcomeStands pool ids x → OutcomeIsGiven pool ids
stands_given pool ids x h = record { actions = h.actions_given; held = h.held_given; sp = h.sp_given; exit = h.exit.given }

stands_is : (pool : Contents) (ids : OutcomeIds) (x : Outcome) → OutcomeStands pool ids x → outcome_of pool ids ≡ x
stands_is pool ids x h = λ i. record { actions = h.actions i; held = h.held i; sp = h.sp i; exit = h.exit.is i; direct = h.direct i }

-- both outcomes are given
pub are_ready : (w : WorkState) (x : Outcome) (walked : Result Outcome Reason) → OutcomeStands w.terms w.first x → WalkComesTo w.terms w.second walked (Ok tt) → AreReady w
are_ready w x (Ok y) h g = record { first = stands_given w.terms w.first x h; second = stands_given w.terms w.second y g }
are_ready w x (Err r) h g = absurd g

-- both outcomes, where the walk came to one
pub compared : (w : WorkState) (x y : Outcome) (walked : Result Outcome Reason) → OutcomeStands w.terms w.first x → WalkComesTo w.terms w.second walked (Ok tt) → walked ≡ Ok y → AreCompared w x y
compared w x y (Ok z) h g e = record {
  ready = are_ready w x (Ok z) h g;
  first = stands_is w.terms w.first x h;
  second = stands_is w.terms w.second z g ∙ cc;
}
compared w x y (Err r) h g e = absurd g

pub not_refused : (pool : Contents) (ids : OutcomeIds) (y : Outcome) (walked : Result Outcome Reason) (r : Reason) → WalkComesTo pool ids walked (Err r) → walked ≡ Ok y → ⊥
not_refused pool ids y (Ok z) r g e = g
not_refused pool ids y (Err q) r g e = absurd (cc)

-- the outcomes are given unless the walk met the reason
pub ready_after : (v : Verdict) (w : WorkState) → AreReady w → AreReadyAfter v w
ready_after Shown w h = h
ready_after (NotShown Missing) w h = tt
ready_after (NotShown Length) w h = tt
ready_after (NotShown Form) w h = tt
ready_after (NotShown r) w h = h

ready_at : (w : WorkState) (room : ℕ) (xs : List Stmt86) → AreReadyFor (reason_at room xs) w
ready_at w room [] = tt
ready_at w room (Mark l ∷ xs) = tt
ready_at w zero (x ∷ xs) = tt
ready_at w (suc room) (x ∷ xs) = tt

ready_by : (w : WorkState) (s : Option Stop) → AreReadyFor (reason_of_end s) w
ready_by w None = tt
ready_by w (Some s) = ready_at w s.room s.at

pub ready_refused : (p : Program) (text : List Stmt86) (keep : Parts) (first count : ℕ) (w : WorkState) (r : Reason) → EndsSayWhy → WalkComesTo w.terms w.second (walk86 p text keep first count) (Err r) → AreReadyFor r w
ready_refused p text keep first count w r law came = by_walk (walk86 p text keep first count) refl came
  where
    by_walk : (walked : Result Outcome Reason) → walk86 p text keep first count ≡ walked → WalkComesTo w.terms w.second walked (Err r) → AreReadyFor r w
    by_walk (Ok y) e h = absurd h
    by_walk (Err q) e h = subst (λ x. AreReadyFor x w) (sym (h ∙ law p text keep first count q e)) (ready_by w (stop_in p text first count))

-- what a direct call loses
lost_same : (k : Keeps) (x : Exit) → lost_of (kept_behind k x) ≡ lost_by k x
lost_same k (One (Goto q)) = refl
lost_same k (One (ByTerms h l)) = refl
lost_same k (One (Call q back)) = refl
lost_same k (One (Sys back)) = refl
lost_same k (One SysReturn) = refl
lost_same k (One Boot) = refl
lost_same k (One Leave) = refl
lost_same k (One (In port next)) = refl
lost_same k (One (Out port next)) = refl
lost_same k (Two f v a b) = refl

reason_same : (k : Keeps) (x y : Outcome) → reason_by (kept_by_exit k x.exit) (lost_of (kept_behind k x.exit)) x y ≡ outcome_reason k x y
reason_same k x y = ap (λ lost. reason_by (kept_by_exit k x.exit) lost x y) (lost_same k x.exit)

-- the reason that is found is the block's
pub found : (w : WorkState) (k : Keeps) (x : Outcome) (walked : Result Outcome Reason) → OutcomeStands w.terms w.first x → WalkComesTo w.terms w.second walked (Ok tt) → reason_by (kept_by_exit k (first_outcome w).exit) (lost_of (kept_behind k (first_outcome w).exit)) (first_outcome w) (second_of w) ≡ walked_reason k x walked
found w k x (Ok y) h g =
    reason_same k (first_outcome w) (second_of w)
    ∙ (ap (λ a. outcome_reason k a (second_of w)) (stands_is w.terms w.first x h)
    ∙ ap (λ b. outcome_reason k x b) (stands_is w.terms w.second y g))
found w k x (Err r) h g = absurd g

pub after_shown : (v : Verdict) (claim : Type 0) → claim → AfterShown v claim
after_shown Shown claim x = x
after_shown (NotShown r) claim x = tt

-- a walk that came to a reason
pub reason_found : (pool : Contents) (ids : OutcomeIds) (k : Keeps) (x : Outcome) (walked : Result Outcome Reason) (r : Reason) → WalkComesTo pool ids walked (Err r) → NotShown r ≡ verdict_of (walked_reason k x walked)
reason_found pool ids k x (Ok y) r h = absurd h
reason_found pool ids k x (Err q) r h = ap NotShown h

-- one instruction is a block
pub one_is_block : (p : Program) (at : ℕ) → is_start p at ≡ true → MayRun p at 1
one_is_block p at h = one_by (placed_in p.instrs at) refl h
  where
    one_by : (found : Option Placed) → placed_in p.instrs at ≡ found → is_some found ≡ true → MayRun p at 1
    one_by None e h = absurd (cc)
    one_by (Some x) e h = record {
      some = omega arith;
      few = omega arith;
      whole = rw e refl;
      ends = rw e tt;
    }
