-- A call of the system, by what the shape of it is.
use Rattle.std.proofs.Common.{◌≡◌, ℕ, ◌==◌, false, cond, Some, None, Result, Ok, Err, refl, sym, ap, ◌∙◌, arith}
use Rattle.std.proofs.lemmas.Bool.Decides.{nat_tests}
use Rattle.std.specs.Result.{result_ok}
use Rattle.cells.specs.declared.Rule.{Rule}
use Rattle.dialogue.specs.declared.request.Shape.{Shape}
use Rattle.dialogue.specs.declared.request.Event.TheVariants.{Call}
use Rattle.dialogue.specs.Shape.{shape_of, request_of}
use Rattle.dialogue.specs.ByteMemory.{put_bytes, seen_by}
use Rattle.dialogue.specs.Run.{Asks, Ends, Stops}
use Rattle.cpu86.specs.State.{State86, back}
use Rattle.cpu86.specs.Call.{OddCall, ask, call_system, spoiled}
use Rattle.cpu86.specs.ProcessorState.{with_mem}
use Rattle.cpu86.specs.System.{six_at, IsShapeAsked}
use Rattle.cpu86.proofs.Writes.{put_back_six}

abbrev pub shape_at : State86 → (ℕ → ℕ) → Result Shape Rule
shape_at s m = shape_of (Some s.regs.cl) (Some s.regs.dh) (Some s.regs.dl) s.dma (seen_by m)

ok_of : (r : Result Shape Rule) (shape : Shape) → result_ok r ≡ Some shape → r ≡ Ok shape
ok_of (Ok x) shape e = let f : x ≡ shape = cc in ap (λ y. Ok y) f
ok_of (Err x) shape e = cc

-- with another function than 0 the system is asked over memory after the spoiling
asks : (s : State86) (choice : ℕ) (m : ℕ → ℕ) → (s.regs.cl ≡ 0 → ⊥) → m ≡ spoiled s.mem s.sp choice → call_system s choice ≡ ask (with_mem s m) (shape_at s m)
asks s choice m ne e =
    let t : (s.regs.cl == 0) ≡ false = grind (arith, nat_tests) in
    ap (λ b. cond b (cond (s.regs.dl == 0) Ends (Stops (OddCall 0))) (ask (with_mem s (spoiled s.mem s.sp choice)) (shape_at s (spoiled s.mem s.sp choice)))) t
    ∙ sym (ap (λ w. ask (with_mem s w) (shape_at s w)) e)

pub asked : (s : State86) (choice : ℕ) (m : ℕ → ℕ) (shape : Shape) → (s.regs.cl ≡ 0 → ⊥) → m ≡ spoiled s.mem s.sp choice → result_ok (shape_at s m) ≡ Some shape → (call_system s choice ≡ Asks (Call (request_of shape (seen_by m))) (with_mem s m)) × IsShapeAsked (with_mem s m) shape
asked s choice m shape ne e f =
    let g : shape_at s m ≡ Ok shape = ok_of (shape_at s m) shape f in
    (asks s choice m ne e ∙ ap (ask (with_mem s m)) g, g)

stops : (s : State86) (r : Result Shape Rule) → result_ok r ≡ None → ask s r ≡ Stops (OddCall s.regs.cl)
stops s (Ok x) e = cc
stops s (Err x) e = refl

pub odd : (s : State86) (choice : ℕ) (m : ℕ → ℕ) → (s.regs.cl ≡ 0 → ⊥) → m ≡ spoiled s.mem s.sp choice → result_ok (shape_at s m) ≡ None → call_system s choice ≡ Stops (OddCall s.regs.cl)
odd s choice m ne e f = asks s choice m ne e ∙ stops (with_mem s m) (shape_at s m) f

-- what was spoiled, and then written back
pub written_back : (m w w' : ℕ → ℕ) (sp choice : ℕ) → w ≡ spoiled m sp choice → w' ≡ put_bytes w (back sp 6) (six_at m (back sp 6)) → w' ≡ m
unfolding spoiled
written_back m w w' sp choice e f =
    f ∙ ap (λ v. put_bytes v (back sp 6) (six_at m (back sp 6))) e ∙ put_back_six m (back sp 6) _ _ _ _ _ _
