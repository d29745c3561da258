-- The calls on a `Cpu80` are calls on the tagged 8080 with its program, and so turns of the program's run.
use Rattle.std.proofs.Common.{◌≡◌, ℕ, suc, Bool, true, false, cond, List, [], ◌∷◌, ◌++◌, Option, Some, None, refl, sym, ap, subst}
use Rattle.cells.specs.declared.Rule.{Rule}
use Rattle.dialogue.specs.declared.request.Reply.{Reply}
use Rattle.dialogue.specs.declared.request.Event.{Event}
use Rattle.dialogue.specs.declared.request.Event.TheVariants.{End}
use Rattle.dialogue.specs.Run.{Answer, Ran, Asks, Ends, Stops, Status, Going, Waiting, Over, Stopped}
use Rattle.dialogue.specs.Calls.{Standing, settled}
use Rattle.dialogue.specs.Histories.{Calls as MachineCalls, started as has_started, ran as has_run, asked as has_asked, took, ended as has_ended, stopped, IsRunAt}
use Rattle.dialogue.proofs.Called.{calls_run}
use Rattle.asm80_types.specs.Program.{Program}
use Rattle.cpu80_tagged.specs.State.{State80}
use Rattle.cpu80_tagged.specs.Start.{start80, run80}
use Rattle.cpu80_tagged.specs.Step.{step80, replied80, machine80}
use Rattle.cpu80_tagged.specs.declared.processor.Cpu80.{Cpu80}
use Rattle.cpu80_tagged.specs.declared.processor.Step80.TheVariants.{Ran as DidRun, Asked as DidAsk, Ended as DidEnd, Left}
use Rattle.cpu80_tagged.specs.ProcessorState.{tagged_state}
use Rattle.cpu80_tagged.specs.Machine.{IsTaggedStep}
use Rattle.cpu80_tagged.specs.Calls.{Calls, started, ran, asked, replied, ended, left, refused, asked_again, ended_again, left_again, CallsGiveRuns}

abbrev stand : State80 → Option Event → Standing State80
stand s said = record { state = s; said = said }

abbrev HasCalls : Program → List ℕ → Status Rule → List Event → List Reply → ℕ → ℕ → Standing State80 → Type 0
HasCalls p page status d ys n u x = MachineCalls (machine80 p) [] (start80 p page) status d ys n u x

-- the calls on the machine of the definition that a history is, with some number of choices, of which it uses none
abbrev pub Stands : Program → List ℕ → Status Rule → List Event → List Reply → ℕ → State80 → Type 0
Stands p page Going d ys n s = (u : ℕ) × HasCalls p page Going d ys n u (stand s None)
Stands p page Waiting d ys n s = (u : ℕ) × (e : Event) × (step80 p s ≡ Asks e s) × HasCalls p page Waiting d ys n u (stand s (Some e))
Stands p page Over d ys n s = (u : ℕ) × HasCalls p page Over d ys n u (stand s (Some End))
Stands p page (Stopped r) d ys n s = (u : ℕ) × HasCalls p page (Stopped r) d ys n u (stand s None)

-- what a step's answer says of the definition's
ran_to : (a : Answer State80 Rule) (s t : State80) → IsTaggedStep a DidRun s t → a ≡ Ran t
ran_to (Ran x) s t h = ap Ran (sym h.1)
ran_to (Asks e x) s t h = let g = h.0 in cc
ran_to Ends s t h = let g = h.0 in cc
ran_to (Stops x) s t h = let g = h.0 in cc

ended_at : (a : Answer State80 Rule) (s t : State80) → IsTaggedStep a DidEnd s t → (a ≡ Ends) × (t ≡ s)
ended_at (Ran x) s t h = let g = h.0 in cc
ended_at (Asks e x) s t h = let g = h.0 in cc
ended_at Ends s t h = (refl, h.1)
ended_at (Stops x) s t h = let g = h.0 in cc

left_by : (a : Answer State80 Rule) (s t : State80) (r : Rule) → IsTaggedStep a (Left r) s t → (a ≡ Stops r) × (t ≡ s)
left_by (Ran x) s t r h = let g = h.0 in cc
left_by (Asks e x) s t r h = let g = h.0 in cc
left_by Ends s t r h = let g = h.0 in cc
left_by (Stops x) s t r h = let g = h.0 in (cc, h.1)

asked_at : (a : Answer State80 Rule) (s t : State80) → IsTaggedStep a DidAsk s t → t ≡ s
asked_at (Ran x) s t h = let g = h.0 in cc
asked_at (Asks e x) s t h = h.1
asked_at Ends s t h = let g = h.0 in cc
asked_at (Stops x) s t h = let g = h.0 in cc

pub stands : (p : Program) (page : List ℕ) (status : Status Rule) (d : List Event) (ys : List Reply) (n : ℕ) (c : Cpu80) → Calls p page status d ys n c → Stands p page status d ys n (tagged_state c)
stands p page _ _ _ _ _ (started c h) = subst (Stands p page Going [] [] 0) (sym h) (0, has_started)
stands p page _ _ _ _ _ (ran d ys n c after before step) =
    let s = tagged_state c in
    let t = tagged_state after in
    let b = stands p page Going d ys n c before in
    (suc b.0, has_run d ys n b.0 (stand s None) (stand t None) b.1 (sym (ap (settled s) (ran_to (step80 p s) s t step.step))))
stands p page _ _ _ _ _ (asked d ys n c after e before step is) =
    let s = tagged_state c in
    let b = stands p page Going d ys n c before in
    let same : tagged_state after ≡ s = asked_at (step80 p s) s (tagged_state after) step.step in
    let asks_it : step80 p s ≡ Asks e s = subst (λ t. step80 p t ≡ Asks e t) same is.1.asked in
    subst (Stands p page Waiting (d ++ e ∷ []) ys (suc n)) (sym same)
    (suc b.0, e, asks_it, has_asked d ys n b.0 (stand s None) (stand s (Some e)) e b.1 (sym (ap (settled s) asks_it)) refl)
stands p page _ _ _ _ _ (replied d ys n c after y before is) =
    let s = tagged_state c in
    let b = stands p page Waiting d ys n c before in
    let taken = is.3 b.1 b.2 in
    let yes : Bool × Standing State80 = (true, stand (replied80 p s b.1 y) None) in
    let no : Bool × Standing State80 = (false, stand s (Some b.1)) in
    subst (Stands p page Going d (ys ++ y ∷ []) n) (sym taken.1)
    (suc b.0, took d ys n b.0 (stand s (Some b.1)) yes.1 y b.3 (sym (ap (λ (fit : Bool). cond fit yes no) taken.0)))
stands p page _ _ _ _ _ (ended d ys n c after before step) =
    let s = tagged_state c in
    let b = stands p page Going d ys n c before in
    let e = ended_at (step80 p s) s (tagged_state after) step.step in
    subst (Stands p page Over (d ++ End ∷ []) ys (suc n)) (sym e.1)
    (b.0, has_ended d ys n b.0 (stand s None) (stand s (Some End)) b.1 (sym (ap (settled s) e.0)))
stands p page _ _ _ _ _ (left d ys n c after r before step) =
    let s = tagged_state c in
    let b = stands p page Going d ys n c before in
    let e = left_by (step80 p s) s (tagged_state after) r step.step in
    subst (Stands p page (Stopped r) d ys (suc n)) (sym e.1)
    (b.0, stopped d ys n b.0 (stand s None) (stand s None) r b.1 (sym (ap (settled s) e.0)))
stands p page _ _ _ _ _ (refused status d ys n c after y before is) =
    subst (λ (x : Cpu80). Stands p page status d ys n (tagged_state x)) (sym is.0) (stands p page status d ys n c before)
stands p page _ _ _ _ _ (asked_again d ys n c after before step) =
    subst (Stands p page Waiting d ys n) (sym (asked_at (step80 p (tagged_state c)) (tagged_state c) (tagged_state after) step.step)) (stands p page Waiting d ys n c before)
stands p page _ _ _ _ _ (ended_again d ys n c after before step) =
    let e = ended_at (step80 p (tagged_state c)) (tagged_state c) (tagged_state after) step.step in
    subst (Stands p page Over d ys n) (sym e.1) (stands p page Over d ys n c before)
stands p page _ _ _ _ _ (left_again d ys n c after r before step) =
    let e = left_by (step80 p (tagged_state c)) (tagged_state c) (tagged_state after) r step.step in
    subst (Stands p page (Stopped r) d ys n) (sym e.1) (stands p page (Stopped r) d ys n c before)

at_end : (p : Program) (page : List ℕ) (status : Status Rule) (d : List Event) (ys : List Reply) (n : ℕ) (s : State80) → Stands p page status d ys n s → IsRunAt (run80 p page ys n) status d s
at_end p page Going d ys n s h = calls_run (machine80 p) [] (start80 p page) Going d ys n h.0 (stand s None) h.1
at_end p page Waiting d ys n s h = calls_run (machine80 p) [] (start80 p page) Waiting d ys n h.0 (stand s (Some h.1)) h.3
at_end p page Over d ys n s h = calls_run (machine80 p) [] (start80 p page) Over d ys n h.0 (stand s (Some End)) h.1
at_end p page (Stopped r) d ys n s h = calls_run (machine80 p) [] (start80 p page) (Stopped r) d ys n h.0 (stand s None) h.1

pub calls_give_runs : CallsGiveRuns
unfolding CallsGiveRuns
calls_give_runs p page status d ys n c h = at_end p page status d ys n (tagged_state c) (stands p page status d ys n c h)
