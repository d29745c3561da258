-- What is ensured of what the 8080 sees, is ensured of it by another name.
use Rattle.std.proofs.Common.{◌≡◌, Option, sym, subst, lit≤}
use Rattle.xlt_pool.specs.Contents.{Contents}
use Rattle.i80.specs.declared.Instr80.{Instr80}
use Rattle.sym_block_def.specs.Block80.{Symbolic80, effect80}
use Rattle.sym_micro.specs.declared.run.Run.{Run}
use Rattle.sym_micro.specs.Machine.{as80}
use Rattle.sym_micro.specs.Stands.{machine_of, GoesOn}
use Rattle.sym_step.specs.Arithmetic.{past_moves80, arithmetic80}
use Rattle.sym_micro.proofs.Ready.{goes_on_as}

pub of_instr : {old new : Contents} {r s : Run} {made : Option (Unit {0})} {i j : Instr80} → i ≡ j → GoesOn old new r s 24 2 (λ m. as80 m ≡ effect80 (as80 (machine_of old r)) j) made → GoesOn old new r s 24 2 (λ m. as80 m ≡ effect80 (as80 (machine_of old r)) i) made
of_instr {old} {new} {r} {s} {made} e g = subst (λ i. GoesOn old new r s 24 2 (λ m. as80 m ≡ effect80 (as80 (machine_of old r)) i) made) (sym e) g

-- a bound that leaves room for more
pub with_room : {old new : Contents} {r s : Run} {made : Option (Unit {0})} {x : Symbolic80} → GoesOn old new r s 20 2 (λ m. as80 m ≡ x) made → GoesOn old new r s 24 2 (λ m. as80 m ≡ x) made
with_room {old} {new} {r} {s} {made} {x} g = goes_on_as old new r s 20 24 2 2 (λ m. as80 m ≡ x) (λ m. as80 m ≡ x) made (lit≤ tt) (lit≤ tt) g (λ m e. e)

-- and of an equal state
pub of_state : {old new : Contents} {r s : Run} {made : Option (Unit {0})} {x y : Symbolic80} → x ≡ y → GoesOn old new r s 24 2 (λ m. as80 m ≡ x) made → GoesOn old new r s 24 2 (λ m. as80 m ≡ y) made
of_state {old} {new} {r} {s} {made} e g = subst (λ z. GoesOn old new r s 24 2 (λ m. as80 m ≡ z) made) e g

-- and the arithmetic of an equal instruction
pub of_arithmetic : {old new : Contents} {r s : Run} {made : Option (Unit {0})} {i j : Instr80} → i ≡ j → GoesOn old new r s 24 2 (λ m. as80 m ≡ arithmetic80 (as80 (machine_of old r)) j) made → GoesOn old new r s 24 2 (λ m. as80 m ≡ arithmetic80 (as80 (machine_of old r)) i) made
of_arithmetic {old} {new} {r} {s} {made} e g = subst (λ i. GoesOn old new r s 24 2 (λ m. as80 m ≡ arithmetic80 (as80 (machine_of old r)) i) made) (sym e) g

-- and what is done past the moves
pub of_past_moves : {old new : Contents} {r s : Run} {made : Option (Unit {0})} {i j : Instr80} → i ≡ j → GoesOn old new r s 24 2 (λ m. as80 m ≡ past_moves80 (as80 (machine_of old r)) j) made → GoesOn old new r s 24 2 (λ m. as80 m ≡ past_moves80 (as80 (machine_of old r)) i) made
of_past_moves {old} {new} {r} {s} {made} e g = subst (λ i. GoesOn old new r s 24 2 (λ m. as80 m ≡ past_moves80 (as80 (machine_of old r)) i) made) (sym e) g
