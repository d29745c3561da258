-- What an instruction comes to, as the definition's answer.
use Rattle.std.specs.Prelude.{◌≡◌, ◌≢◌, Bool, true, Some, Result, Ok, Err, is_ok}
use Rattle.cells.specs.declared.Rule.{Rule}
use Rattle.dialogue.specs.declared.request.Shape.{Shape}
use Rattle.dialogue.specs.declared.request.Event.TheVariants.{In as AskedIn, Out as AskedOut}
use Rattle.dialogue.specs.Shape.{shape_of}
use Rattle.dialogue.specs.Run.{Answer, Ran, Asks, Ends, Stops}
use Rattle.asm80_types.specs.Program.{Program}
use Rattle.cpu80_tagged.specs.State.{State80, num_of}
use Rattle.cpu80_tagged.specs.Call.{Return, seen_by_tagged, ask}
use Rattle.cpu80_tagged.specs.declared.turn.Return.{Return as KeptReturn}
use Rattle.cpu80_tagged.specs.declared.turn.Question.{Question}
use Rattle.cpu80_tagged.specs.declared.turn.Question.TheVariants.{System, In, Out}
use Rattle.cpu80_tagged.specs.declared.turn.Turn.{Turn}
use Rattle.cpu80_tagged.specs.declared.turn.Turn.TheVariants.{Ran as DidRun, Asked, Ended}

abbrev pub return_of_turn : KeptReturn → Return
return_of_turn r = record { place = r.place; sp = r.sp; is_popped = r.is_popped }

abbrev pub returns_in : Result KeptReturn Rule → Result Return Rule
returns_in (Ok r) = Ok (return_of_turn r)
returns_in (Err r) = Err r

-- the shape of the call that a state would make
abbrev pub shape_at : Program → State80 → Bool → Result Shape Rule
shape_at p s is_popped = shape_of (num_of s.regs.c) (num_of s.regs.d) (num_of s.regs.e) s.dma (seen_by_tagged p s is_popped)

-- what a question asks: the system, by the shape of the call that the state would make, or a port
abbrev pub answer_of_question : Program → State80 → Bool → Question → Answer State80 Rule
answer_of_question p s is_popped System = ask p s is_popped (shape_at p s is_popped)
answer_of_question p s is_popped (In port) = Asks (AskedIn port) s
answer_of_question p s is_popped (Out port byte) = Asks (AskedOut port byte) s

-- the answer of a turn from a state, with the state that it leaves
abbrev pub answer_of_turn : Program → State80 → Result Turn Rule → State80 → Answer State80 Rule
answer_of_turn p s (Ok DidRun) t = Ran t
answer_of_turn p s (Ok (Asked what back)) t = answer_of_question p s back.is_popped what
answer_of_turn p s (Ok Ended) t = Ends
answer_of_turn p s (Err r) t = Stops r

-- a call that is asked has a shape, and its function is not 0
abbrev pub MayAsk : Program → State80 → Bool → Question → Type 0
MayAsk p s is_popped System = (is_ok (shape_at p s is_popped) ≡ true) × (num_of s.regs.c ≢ Some 0)
MayAsk p s is_popped (In port) = Unit {0}
MayAsk p s is_popped (Out port byte) = Unit {0}

-- where it asks, its return is the one that is kept
abbrev pub IsAsking : Program → State80 → Result Return Rule → Result Turn Rule → Type 0
IsAsking p s back (Ok DidRun) = Unit {0}
IsAsking p s back (Ok (Asked what kept)) = (back ≡ Ok (return_of_turn kept)) × MayAsk p s kept.is_popped what
IsAsking p s back (Ok Ended) = Unit {0}
IsAsking p s back (Err r) = Unit {0}

-- it does not ask
abbrev pub AsksNothing : Result Turn Rule → Type 0
AsksNothing (Ok DidRun) = Unit {0}
AsksNothing (Ok (Asked what kept)) = ⊥
AsksNothing (Ok Ended) = Unit {0}
AsksNothing (Err r) = Unit {0}
