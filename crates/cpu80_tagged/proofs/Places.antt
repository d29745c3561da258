-- Where a program of the profile goes: to an instruction, or to the end.
use Rattle.std.proofs.Common.{◌≡◌, ℕ, ◌+◌, ◌==◌, ◌&&◌, ◌||◌, refl, Bool, true, false, cond, Option, Some, None, Result, Ok, Err, is_some}
use Rattle.cells.specs.declared.Place.{Place}
use Rattle.cells.specs.declared.Place.TheVariants.{At, Exit}
use Rattle.cells.specs.declared.Cell.{Cell}
use Rattle.cells.specs.declared.Cell.TheVariants.{Num, Lo, Hi, Psw, Junk}
use Rattle.cells.specs.declared.Rule.{Rule}
use Rattle.cells.specs.declared.Rule.TheVariants.{P1, P9, P12}
use Rattle.i80.specs.declared.Goal.{Goal}
use Rattle.i80.specs.declared.Goal.TheVariants.{At as Instr, Boot, Bdos}
use Rattle.i80.specs.declared.Instr80.{Instr80}
use Rattle.i80.specs.declared.Instr80.TheVariants.{Pchl, Jmp, Jif, Call, Cif, Ret, Rif, Rst0, In, Out}
use Rattle.i80.specs.Columns.{length80}
use Rattle.dialogue.specs.declared.request.Shape.{Shape}
use Rattle.dialogue.specs.declared.request.Event.{Event}
use Rattle.dialogue.specs.declared.request.Event.TheVariants.{In as AskedIn}
use Rattle.dialogue.specs.Shape.{shape_of}
use Rattle.dialogue.specs.Table.{row_of}
use Rattle.dialogue.specs.Tried.{try_then}
use Rattle.dialogue.specs.Run.{Answer, Ran, Asks, Ends, Stops}
use Rattle.dialogue.specs.Words.{wrap}
use Rattle.asm80_types.specs.Program.{Program, instr_at, is_start}
use Rattle.cpu80_tagged.specs.State.{State80, num_of}
use Rattle.cpu80_tagged.specs.Memory.{Halves, read_word}
use Rattle.cpu80_tagged.specs.Effect.{effect, push}
use Rattle.cells.specs.Conditions.{holds}
use Rattle.cells.specs.Places.{same_place}
use Rattle.cpu80_tagged.specs.Call.{Return, ask, ask_after, call_by, is_just_below, seen_by_tagged, place_if, is_place, place_in, popped_return, return_after}
use Rattle.cpu80_tagged.specs.Step.{go_to, go_on, leave_to, go_by, go_back, jump, enter, call, where_holds, ask_event, ask_port, sent, act, act_at, step_at, step80, return_of, return_at}

-- where the answer ran on, an instruction comes next, or the end; and where it asks, the state is as before
abbrev pub GoesOn : Program → State80 → Answer State80 Rule → Type 0
GoesOn p s (Ran t) = is_place p t.place ≡ true
GoesOn p s (Asks e t) = t ≡ s
GoesOn p s Ends = Unit {0}
GoesOn p s (Stops x) = Unit {0}

-- a place that is tested passes
abbrev pub Passes : Program → Result Place Rule → Type 0
Passes p (Ok q) = is_place p q ≡ true
Passes p (Err r) = Unit {0}

abbrev pub Returns : Program → Result Return Rule → Type 0
Returns p (Ok back) = is_place p back.place ≡ true
Returns p (Err r) = Unit {0}

to_start : (p : Program) (s t : State80) (a : ℕ) → GoesOn p s (go_to p t a)
to_start p s t a = by_start (is_start p a) refl
  where
    by_start : (b : Bool) → is_start p a ≡ b → GoesOn p s (cond b (Ran (record t { place = At a })) (Stops P1))
    by_start true e = e
    by_start false e = tt

on_from : (p : Program) (s : State80) (a : ℕ) (r : Result State80 Rule) → GoesOn p s (go_on p a r)
on_from p s a (Ok t) = to_start p s t a
on_from p s a (Err r) = tt

tested : (p : Program) (q : Place) (a b : Bool) → is_place p q ≡ b → Passes p (place_if (a && b) q)
tested p q true true e = e
tested p q true false e = tt
tested p q false true e = tt
tested p q false false e = tt

named : (p : Program) (high low : Cell) → Passes p (place_in p high low)
named p (Hi q) (Lo r) = tested p q (same_place q r) (is_place p q) refl
named p (Hi q) (Num n) = tt
named p (Hi q) (Hi r) = tt
named p (Hi q) (Psw f) = tt
named p (Hi q) Junk = tt
named p (Num n) low = tt
named p (Lo q) low = tt
named p (Psw f) low = tt
named p Junk low = tt

left_to : (p : Program) (s : State80) (sp : ℕ) (q : Place) → is_place p q ≡ true → GoesOn p s (leave_to s sp q)
left_to p s sp (At a) h = h
left_to p s sp Exit h = tt

gone_by : (p : Program) (s : State80) (sp : ℕ) (r : Result Place Rule) → Passes p r → GoesOn p s (go_by s sp r)
gone_by p s sp (Ok q) h = left_to p s sp q h
gone_by p s sp (Err r) h = tt

returned : (p : Program) (q : Result Place Rule) (sp : ℕ) (is_popped : Bool) → Passes p q → Returns p (try_then q (λ x. Ok (record { place = x; sp = sp; is_popped = is_popped })))
returned p (Ok q) sp is_popped h = h
returned p (Err r) sp is_popped h = tt

popped : (p : Program) (s : State80) → Returns p (popped_return p s)
popped p s = by_word (read_word p s s.sp)
  where
    by_word : (w : Result Halves Rule) → Returns p (try_then w (λ v. try_then (place_in p v.high v.low) (λ q. Ok (record { place = q; sp = wrap (s.sp + 2); is_popped = true }))))
    by_word (Ok w) = returned p (place_in p w.high w.low) (wrap (s.sp + 2)) true (named p w.high w.low)
    by_word (Err r) = tt

start_passes : (p : Program) (a : ℕ) (b : Bool) → is_start p a ≡ b → Passes p (place_if b (At a))
start_passes p a true e = e
start_passes p a false e = tt

after : (p : Program) (s : State80) (a : ℕ) → Returns p (return_after p s a)
after p s a = returned p (place_if (is_start p a) (At a)) s.sp false (start_passes p a (is_start p a) refl)

back_to : (p : Program) (s : State80) (r : Result Return Rule) → Returns p r → GoesOn p s (go_back s r)
back_to p s (Ok back) h = left_to p s back.sp back.place h
back_to p s (Err r) h = tt

asks_by : (p : Program) (s : State80) (is_popped : Bool) (r : Result Shape Rule) → GoesOn p s (ask p s is_popped r)
asks_by p s is_popped (Ok shape) = refl
asks_by p s is_popped (Err r) = tt

asks_after : (p : Program) (s : State80) (f : ℕ) (back : Result Return Rule) → GoesOn p s (ask_after p s f back)
asks_after p s f (Err r) = tt
asks_after p s f (Ok back) = by_below (is_just_below s.sp 6 || is_just_below s.sp 7)
  where
    by_below : (b : Bool) → GoesOn p s (cond b (Stops P12) (ask p s back.is_popped (shape_of (Some f) (num_of s.regs.d) (num_of s.regs.e) s.dma (seen_by_tagged p s back.is_popped))))
    by_below true = tt
    by_below false = asks_by p s back.is_popped (shape_of (Some f) (num_of s.regs.d) (num_of s.regs.e) s.dma (seen_by_tagged p s back.is_popped))

calls_by : (p : Program) (s : State80) (back : Result Return Rule) (f : Option ℕ) → GoesOn p s (call_by p s back f)
calls_by p s back None = tt
calls_by p s back (Some f) = by_row (is_some (row_of f)) (f == 0)
  where
    by_row : (b z : Bool) → GoesOn p s (cond b (cond z Ends (ask_after p s f back)) (Stops P9))
    by_row true true = tt
    by_row true false = asks_after p s f back
    by_row false z = tt

jumped : (p : Program) (s : State80) (t : Goal) → GoesOn p s (jump p s t)
jumped p s (Instr t) = to_start p s s t
jumped p s Boot = tt
jumped p s Bdos = calls_by p s (popped_return p s) (num_of s.regs.c)

entered : (p : Program) (s : State80) (t a : ℕ) (r : Result State80 Rule) → GoesOn p s (enter p t a r)
entered p s t a (Err r) = tt
entered p s t a (Ok u) = by_start (is_start p a)
  where
    by_start : (b : Bool) → GoesOn p s (cond b (go_to p u t) (Stops P1))
    by_start true = to_start p s u t
    by_start false = tt

called : (p : Program) (s : State80) (a : ℕ) (t : Goal) → GoesOn p s (call p s a t)
called p s a (Instr t) = entered p s t a (push p s (Hi (At a)) (Lo (At a)))
called p s a Boot = tt
called p s a Bdos = calls_by p s (return_after p s a) (num_of s.regs.c)

where_it_holds : (p : Program) (s : State80) (a : ℕ) (b : Option Bool) (go : Answer State80 Rule) → GoesOn p s go → GoesOn p s (where_holds p s a b go)
where_it_holds p s a None go h = tt
where_it_holds p s a (Some true) go h = h
where_it_holds p s a (Some false) go h = to_start p s s a

asked_of : (p : Program) (s : State80) (a : ℕ) (e : Result Event Rule) → GoesOn p s (ask_port p s a e)
asked_of p s a e = by_start (is_start p a) e
  where
    by_start : (b : Bool) (e : Result Event Rule) → GoesOn p s (cond b (ask_event s e) (Stops P1))
    by_start true (Ok e) = refl
    by_start true (Err r) = tt
    by_start false e = tt

acted : (p : Program) (s : State80) (a : ℕ) (i : Instr80) → GoesOn p s (act p s a i)
acted p s a Pchl = gone_by p s s.sp (place_in p s.regs.h s.regs.l) (named p s.regs.h s.regs.l)
acted p s a (Jmp t) = jumped p s t
acted p s a (Jif c t) = where_it_holds p s a (holds s.flags c) (jump p s t) (jumped p s t)
acted p s a (Call t) = called p s a t
acted p s a (Cif c t) = where_it_holds p s a (holds s.flags c) (call p s a t) (called p s a t)
acted p s a Ret = back_to p s (popped_return p s) (popped p s)
acted p s a (Rif c) = where_it_holds p s a (holds s.flags c) (go_back s (popped_return p s)) (back_to p s (popped_return p s) (popped p s))
acted p s a Rst0 = tt
acted p s a (In port) = asked_of p s a (Ok (AskedIn port))
acted p s a (Out port) = asked_of p s a (sent s port)
acted p s a i = on_from p s a (effect p s i)

acted_at : (p : Program) (s : State80) (at : ℕ) (i : Option Instr80) → GoesOn p s (act_at p s at i)
acted_at p s at None = tt
acted_at p s at (Some i) = acted p s (at + length80 i) i

stepped_at : (p : Program) (s : State80) (q : Place) → GoesOn p s (step_at p s q)
stepped_at p s Exit = tt
stepped_at p s (At a) = acted_at p s a (instr_at p a)

-- a step goes on to an instruction, or to the end, or asks
pub goes_on : (p : Program) (s : State80) → GoesOn p s (step80 p s)
goes_on p s = stepped_at p s s.place

-- so does the return of a call
returned_of : (p : Program) (s : State80) (at : ℕ) (i : Option Instr80) → Returns p (return_of p s at i)
returned_of p s at None = tt
returned_of p s at (Some (Jmp t)) = popped p s
returned_of p s at (Some (Jif c t)) = popped p s
returned_of p s at (Some i) = after p s (at + length80 i)

pub returns_to : (p : Program) (s : State80) (q : Place) → Returns p (return_at p s q)
returns_to p s Exit = tt
returns_to p s (At a) = returned_of p s a (instr_at p a)
