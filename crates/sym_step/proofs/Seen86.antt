-- What is ensured of what the 8086 sees, is ensured of it by another name.
use Rattle.std.proofs.Common.{◌≡◌, ◌∙◌, Option, Some, None, ap, sym, subst, lit≤}
use Rattle.xlt_pool.specs.Contents.{Contents}
use Rattle.i86.specs.declared.Instr86.{Instr86}
use Rattle.sym_block_def.specs.Symbolic86.{Symbolic86, losing_flags, effect86}
use Rattle.sym_micro.specs.declared.run.Run.{Run}
use Rattle.sym_micro.specs.Machine.{as86}
use Rattle.sym_micro.specs.Stands.{machine_of, GoesOn}
use Rattle.sym_step.specs.Arithmetic.{past_moves86, arithmetic86}
use Rattle.sym_micro.proofs.Ready.{then_goes_on, fails_first}

pub of_instr : {old new : Contents} {r s : Run} {made : Option (Unit {0})} {i j : Instr86} → i ≡ j → GoesOn old new r s 24 2 (λ m. as86 m ≡ effect86 (as86 (machine_of old r)) j) made → GoesOn old new r s 24 2 (λ m. as86 m ≡ effect86 (as86 (machine_of old r)) i) made
of_instr {old} {new} {r} {s} {made} e g = subst (λ i. GoesOn old new r s 24 2 (λ m. as86 m ≡ effect86 (as86 (machine_of old r)) i) made) (sym e) g

-- a sum of words, and then the flags that ADD, INC and DEC of a word lose
pub then_lost : {old mid new : Contents} {r s t : Run} {made : Option (Unit {0})} {x : Symbolic86} → GoesOn old mid r s 20 2 (λ m. as86 m ≡ x) (Some tt) → GoesOn mid new s t 4 0 (λ m. as86 m ≡ losing_flags (as86 (machine_of mid s))) made → GoesOn old new r t 24 2 (λ m. as86 m ≡ losing_flags x) made
then_lost {old} {mid} {new} {r} {s} {t} {made} {x} g h =
    then_goes_on old mid new r s t 20 4 2 0 (λ m. as86 m ≡ x) (λ m. as86 m ≡ losing_flags (as86 (machine_of mid s))) (λ m. as86 m ≡ losing_flags x) made g h (λ m e. e ∙ ap losing_flags g.gives)

-- and of an equal state
pub of_state : {old new : Contents} {r s : Run} {made : Option (Unit {0})} {x y : Symbolic86} → x ≡ y → GoesOn old new r s 24 2 (λ m. as86 m ≡ x) made → GoesOn old new r s 24 2 (λ m. as86 m ≡ y) made
of_state {old} {new} {r} {s} {made} e g = subst (λ z. GoesOn old new r s 24 2 (λ m. as86 m ≡ z) made) e g

-- where the sum is missing, so is all
pub never_lost : {old new : Contents} {r s : Run} {x y : Symbolic86} → GoesOn old new r s 20 2 (λ m. as86 m ≡ x) None → GoesOn old new r s 24 2 (λ m. as86 m ≡ y) None
never_lost {old} {new} {r} {s} {x} {y} g = fails_first old new r s 20 24 2 2 (λ m. as86 m ≡ x) (λ m. as86 m ≡ y) (lit≤ tt) (lit≤ tt) g

-- and the arithmetic of an equal instruction
pub of_arithmetic : {old new : Contents} {r s : Run} {made : Option (Unit {0})} {i j : Instr86} → i ≡ j → GoesOn old new r s 24 2 (λ m. as86 m ≡ arithmetic86 (as86 (machine_of old r)) j) made → GoesOn old new r s 24 2 (λ m. as86 m ≡ arithmetic86 (as86 (machine_of old r)) i) made
of_arithmetic {old} {new} {r} {s} {made} e g = subst (λ i. GoesOn old new r s 24 2 (λ m. as86 m ≡ arithmetic86 (as86 (machine_of old r)) i) made) (sym e) g

-- and what is done past the moves
pub of_past_moves : {old new : Contents} {r s : Run} {made : Option (Unit {0})} {i j : Instr86} → i ≡ j → GoesOn old new r s 24 2 (λ m. as86 m ≡ past_moves86 (as86 (machine_of old r)) j) made → GoesOn old new r s 24 2 (λ m. as86 m ≡ past_moves86 (as86 (machine_of old r)) i) made
of_past_moves {old} {new} {r} {s} {made} e g = subst (λ i. GoesOn old new r s 24 2 (λ m. as86 m ≡ past_moves86 (as86 (machine_of old r)) i) made) (sym e) g
