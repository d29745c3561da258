-- A call of the system, by what the shape of it is.
use Rattle.std.proofs.Common.{◌≡◌, ℕ, ◌==◌, false, cond, Some, None, Result, Ok, Err, refl, sym, ap, ◌∙◌, arith}
use Rattle.std.proofs.lemmas.Bool.Decides.{nat_tests}
use Rattle.std.specs.Prelude.{Option, MatchOption}
use Rattle.std.specs.Result.{result_ok}
use Rattle.cells.specs.declared.Rule.{Rule}
use Rattle.dialogue.specs.declared.request.Shape.{Shape}
use Rattle.dialogue.specs.declared.request.Event.TheVariants.{Call}
use Rattle.dialogue.specs.Shape.{request_of}
use Rattle.dialogue.specs.ByteMemory.{seen_by}
use Rattle.dialogue.specs.Run.{Ends, Stops, Waiting, Stopped}
use Rattle.dialogue.specs.Calls.{settled}
use Rattle.cpu80.specs.State.{UntaggedState}
use Rattle.cpu80.specs.Call.{OddCall, ask, shape_in, call_system}
use Rattle.cpu80.specs.declared.machine.Pending.TheVariants.{Answer}
use Rattle.cpu80.specs.declared.system.Return.{Return}
use Rattle.cpu80.specs.Back.{IsUntaggedCall}

not_zero : (c : ℕ) → (c ≡ 0 → ⊥) → (c == 0) ≡ false
not_zero c ne = grind (arith, nat_tests)

asks : (u : UntaggedState) → (u.regs.c ≡ 0 → ⊥) → call_system u ≡ ask u (shape_in u)
asks u ne = ap (λ b. cond b Ends (ask u (shape_in u))) (not_zero u.regs.c ne)

pub asked_is : (u : UntaggedState) (shape : Shape) → (u.regs.c ≡ 0 → ⊥) → IsUntaggedCall u shape → (Waiting, record { state = u; said = Some (Call (request_of shape (seen_by u.mem))) }) ≡ settled u (call_system u)
asked_is u shape ne e = sym (ap (settled u) (asks u ne ∙ ap (ask u) e))

pub stopped_is : (u : UntaggedState) → (u.regs.c ≡ 0 → ⊥) → ask u (shape_in u) ≡ Stops (OddCall u.regs.c) → (Stopped (OddCall u.regs.c), record { state = u; said = None }) ≡ settled u (call_system u)
stopped_is u ne e = sym (ap (settled u) (asks u ne ∙ e))

-- the shape that is kept is the one that was asked
pub same_asked : (u : UntaggedState) (shape kept : Shape) (back other : Return) → IsUntaggedCall u shape → Answer shape back ≡ Answer kept other → IsUntaggedCall u kept
same_asked u shape kept back other e same = let is : shape ≡ kept = cc in e ∙ ap Ok is

by_result : (u : UntaggedState) (r : Result Shape Rule) → MatchOption (result_ok r) (ask u r ≡ Stops (OddCall u.regs.c)) (λ shape. r ≡ Ok shape)
by_result u (Ok shape) = refl
by_result u (Err rule) = refl

pub shape_is : (u : UntaggedState) (o : Option Shape) → o ≡ result_ok (shape_in u) → MatchOption o (ask u (shape_in u) ≡ Stops (OddCall u.regs.c)) (λ shape. IsUntaggedCall u shape)
shape_is u o e = rw e (by_result u (shape_in u))
