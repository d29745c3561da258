-- Steps of the definition.
use Rattle.std.proofs.Common.{◌≡◌, ℕ, ◌==◌, ◌&&◌, not, true, false, cond, refl, ap, ◌∙◌}
use Rattle.i86.specs.declared.Instr86.{Instr86}
use Rattle.i86.specs.declared.Instr86.TheVariants.{Int224, InAl, OutAl}
use Rattle.dialogue.specs.Run.{Ran, Stops}
use Rattle.cpu86.specs.State.{State86}
use Rattle.cpu86.specs.Call.{StackSegment}
use Rattle.cpu86.specs.Effect.{effect}
use Rattle.cpu86.specs.Step.{uses_stack, act, act_from}

-- an instruction that uses the stack where it may not
pub stands_off : (ip : ℕ) (i : Instr86) (s : State86) (choice : ℕ) → (uses_stack i && not (s.ss == s.ds)) ≡ true → act_from ip i s choice ≡ Stops (StackSegment ip)
stands_off ip i s choice e = ap (λ b. cond b (Stops (StackSegment ip)) (act i s choice)) e

-- an instruction, where the stack may be used
pub acts_as : (ip : ℕ) (i j : Instr86) (s : State86) (choice : ℕ) → i ≡ j → (uses_stack i && not (s.ss == s.ds)) ≡ false → act_from ip i s choice ≡ act j s choice
acts_as ip i j s choice e f =
    ap (λ b. cond b (Stops (StackSegment ip)) (act i s choice)) f
    ∙ ap (λ k. act k s choice) e

-- one that asks nothing
pub runs_by : (i : Instr86) (s : State86) (choice : ℕ) → (i ≡ Int224 → ⊥) → ((port : ℕ) → i ≡ InAl port → ⊥) → ((port : ℕ) → i ≡ OutAl port → ⊥) → act i s choice ≡ Ran (effect i s choice)
runs_by Int224 s choice a b c = absurd (a refl)
runs_by (InAl port) s choice a b c = absurd (b port refl)
runs_by (OutAl port) s choice a b c = absurd (c port refl)
runs_by i s choice a b c = refl
