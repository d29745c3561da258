-- A call of the system by a processor.
use Rattle.std.specs.Prelude.{◌≡◌, ℕ, ◌+◌, List, [], ◌∷◌, Some, Ok}
use Rattle.dialogue.specs.declared.request.Shape.{Shape}
use Rattle.dialogue.specs.declared.request.Event.TheVariants.{Call}
use Rattle.dialogue.specs.Shape.{shape_of, request_of}
use Rattle.dialogue.specs.ByteMemory.{seen_by}
use Rattle.dialogue.specs.Run.{Asks, Ends, Stops}
use Rattle.dialogue.specs.Words.{wrap}
use Rattle.cpu86.specs.State.{State86}
use Rattle.cpu86.specs.Call.{OddCall, call_system}
use Rattle.cpu86.specs.declared.system.Interrupt.{Interrupt}
use Rattle.cpu86.specs.declared.system.Interrupt.TheVariants.{Ends as DoesEnd, Asks as DoesAsk, Odd}

-- the six bytes from an address up
abbrev pub six_at : (ℕ → ℕ) → ℕ → List ℕ
six_at mem a =
    mem a ∷ (mem (wrap (a + 1)) ∷ (mem (wrap (a + 2)) ∷ (mem (wrap (a + 3)) ∷ (mem (wrap (a + 4)) ∷ (mem (wrap (a + 5)) ∷ [])))))

-- the shape is that of the call in the registers
abbrev pub IsShapeAsked : State86 → Shape → Type 0
IsShapeAsked s shape = shape_of (Some s.regs.cl) (Some s.regs.dh) (Some s.regs.dl) s.dma (seen_by s.mem) ≡ Ok shape

-- what a call of the system from the state `s`, of which the offset of the next instruction is in ip, comes to, and what it leaves
abbrev pub IsInterrupt : State86 → ℕ → Interrupt → State86 → State86 → Type 0
IsInterrupt s choice DoesEnd old new = (call_system s choice ≡ Ends) × (new ≡ old)
IsInterrupt s choice (DoesAsk shape) old new = (call_system s choice ≡ Asks (Call (request_of shape (seen_by new.mem))) new) × IsShapeAsked new shape
IsInterrupt s choice (Odd function) old new = (call_system s choice ≡ Stops (OddCall function)) × (new ≡ old)
