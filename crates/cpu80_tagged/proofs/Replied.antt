-- What a reply finds and leaves.
use Rattle.std.proofs.Common.{◌≡◌, ℕ, ◌+◌, ◌≤◌, ◌==◌, ◌&&◌, Bool, true, false, cond, List, [], ◌∷◌, length, Option, Some, None, Result, Ok, Err, refl, sym, ap, ◌∙◌, subst, arith}
use Rattle.std.specs.List.{All}
use Rattle.std.proofs.lemmas.Bool.{and_parts}
use Rattle.std.proofs.lemmas.Bool.Decides.{nat_tests}
use Rattle.std.proofs.lemmas.List.Elements.{All-cons, All-nil, All-tail}
use Rattle.cells.specs.declared.Rule.{Rule}
use Rattle.cells.specs.declared.Rule.TheVariants.{P10, P11}
use Rattle.dialogue.specs.declared.blocks.Block.{Block}
use Rattle.dialogue.specs.declared.request.Range.{Range}
use Rattle.dialogue.specs.declared.request.Shape.{Shape}
use Rattle.dialogue.specs.declared.request.Request.{Request}
use Rattle.dialogue.specs.declared.request.Reply.{Reply}
use Rattle.dialogue.specs.declared.request.Event.{Event}
use Rattle.dialogue.specs.declared.request.Event.TheVariants.{Call}
use Rattle.dialogue.specs.Tried.{try_then}
use Rattle.dialogue.specs.Table.{Row, row_of}
use Rattle.dialogue.specs.Shape.{Seen, argument_of, argument_address, is_readable, ranges_within, has_room, shape_of, shape_by_row as shape_of_row, shape_by, ranges, request_of}
use Rattle.dialogue.specs.Fits.{fills_range, writes_fit, line_fits, line_bytes_fit, kind_by, answer_fits, fits, fits_row, fits_event}
use Rattle.dialogue.specs.Lawful.{IsLawfulRequest, IsShapeOver}
use Rattle.dialogue.proofs.LawfulShapes.{made, made-lawful}
use Rattle.dialogue.proofs.Lines.{line_short}
use Rattle.dialogue.specs.Run.{Asks}
use Rattle.asm80_types.specs.Program.{Program}
use Rattle.cpu80_tagged.specs.State.{State80, num_of}
use Rattle.cpu80_tagged.specs.Call.{seen_by_tagged, is_place}
use Rattle.cpu80_tagged.specs.Step.{step80, return_at, replied80, replied_to}
use Rattle.cpu80_tagged.specs.declared.turn.Return.{Return}
use Rattle.cpu80_tagged.specs.Area.{HasUses}
use Rattle.cpu80_tagged.specs.Draft.{memory_of}
use Rattle.cpu80_tagged.specs.Sight.{closed_in}
use Rattle.cpu80_tagged.specs.Turn.{return_of_turn, shape_at}
use Rattle.cpu80_tagged.proofs.Sights.{same_closed, same_seen}
use Rattle.cpu80_tagged.proofs.Places.{Returns, returns_to}
use Rattle.cpu80_tagged.proofs.Steps.{runs_on}
use Rattle.cpu80_tagged.specs.declared.processor.Cpu80.{Cpu80}
use Rattle.cpu80_tagged.specs.declared.processor.Phase.TheVariants.{Running}
use Rattle.cpu80_tagged.specs.ProcessorState.{tagged_state, waits, asks, seen_of, tagged_shape}
use Rattle.cpu80_tagged.specs.Machine.{IsCalling, IsAtPort, IsAskedBy, IsReplyTo}
use Rattle.cpu80_tagged.specs.Reply.{Fits, after_taken_reply}

asked_same : (p : Program) (s : State80) (e v : Event) → step80 p s ≡ Asks e s → step80 p s ≡ Asks v s → e ≡ v
asked_same p s e v h g = cc

-- what holds of the call that waits holds of what its step asks
pub of_call : (p : Program) (s : State80) (kept : Return) (w : IsCalling p s kept) (P : Event → Type 0) → P (Call (request_of w.shape (seen_by_tagged p s kept.is_popped))) → (v : Event) → step80 p s ≡ Asks v s → P v
of_call p s kept w P h v asks = subst P (asked_same p s (Call (request_of w.shape (seen_by_tagged p s kept.is_popped))) v w.asked asks) h

-- the shape by what the machine keeps is the definition's
pub same_shape : (p : Program) (c : Cpu80) (is_popped : Bool) → HasUses p c.uses.items → tagged_shape c is_popped ≡ shape_at p (tagged_state c) is_popped
same_shape p c is_popped h =
    ap (λ (seen : Seen). shape_of (num_of c.registers.c) (num_of c.registers.d) (num_of c.registers.e) c.dma seen)
    (same_seen p (tagged_state c) c.uses.items (memory_of c.memory.items) is_popped h refl)

try_ok : {X Y : Type 0} (r : Result X Rule) (f : X → Result Y Rule) (y : Y) → try_then r f ≡ Ok y → (x : X) × (f x ≡ Ok y)
try_ok (Ok x) f y e = (x, e)
try_ok (Err r) f y e = cc

row_function : (f : ℕ) (row : Row) (d e : Option ℕ) (dma : ℕ) (seen : Seen) (shape : Shape) → shape_by f row d e dma seen ≡ Ok shape → f ≡ shape.function
row_function f row d e dma seen shape given =
    let a = try_ok (argument_of row.argument d e) _ shape given in
    let de = argument_address a.0 in
    let r = try_ok (ranges_within (is_readable seen) P10 seen de dma row.reads) _ shape a.1 in
    let x = try_ok (has_room seen de row.writes) _ shape r.1 in
    let w = try_ok (ranges_within seen.writable P11 seen de dma x.0) _ shape x.1 in
    let made_of = w.1 in
    cc made_of

-- a shape is of the function that asks
shape_function : (f d e : Option ℕ) (dma : ℕ) (seen : Seen) (shape : Shape) → shape_of f d e dma seen ≡ Ok shape → f ≡ Some shape.function
shape_function None d e dma seen shape h = cc
shape_function (Some f) d e dma seen shape h = by_row (row_of f) h
  where
    by_row : (o : Option Row) → shape_of_row f o d e dma seen ≡ Ok shape → Some f ≡ Some shape.function
    by_row None g = cc
    by_row (Some row) g = ap Some (row_function f row d e dma seen shape g)

-- the shape that the machine finds again is the one that it asked by
shape_again : (p : Program) (c : Cpu80) (kept : Return) (shape : Shape) (h : HasUses p c.uses.items) (w : IsCalling p (tagged_state c) kept) → tagged_shape c kept.is_popped ≡ Ok shape → shape ≡ w.shape
shape_again p c kept shape h w e =
    let same = same_shape p c kept.is_popped h in
    let given = w.given in
    cc

pub no_shape : (p : Program) (c : Cpu80) (kept : Return) (r : Rule) → HasUses p c.uses.items → IsCalling p (tagged_state c) kept → tagged_shape c kept.is_popped ≡ Err r → ⊥
no_shape p c kept r h w e =
    let same = same_shape p c kept.is_popped h in
    let given = w.given in
    cc

pub asked_is : (p : Program) (c : Cpu80) (kept : Return) (shape : Shape) (q : Request) → HasUses p c.uses.items → IsCalling p (tagged_state c) kept → tagged_shape c kept.is_popped ≡ Ok shape → q ≡ request_of shape (seen_of c kept.is_popped) → IsLawfulRequest q → IsAskedBy p (tagged_state c) (Call q)
asked_is p c kept shape q h w e is lawful =
    let again : shape ≡ w.shape = shape_again p c kept shape h w e in
    let seen : seen_of c kept.is_popped ≡ seen_by_tagged p (tagged_state c) kept.is_popped = same_seen p (tagged_state c) c.uses.items (memory_of c.memory.items) kept.is_popped h refl in
    let same : request_of w.shape (seen_by_tagged p (tagged_state c) kept.is_popped) ≡ q =
    sym (is ∙ ap (λ s. request_of s (seen_of c kept.is_popped)) again ∙ ap (request_of w.shape) seen) in
    let function : num_of c.registers.c ≡ Some w.shape.function = shape_function _ _ _ _ _ w.shape w.given in
    let shapes : q.shape ≡ w.shape = ap (λ (r : Request). r.shape) (sym same) in
    record {
      asked = w.asked ∙ ap (λ r. Asks (Call r) (tagged_state c)) same;
      lawful = lawful;
      no_reset = λ z. w.no_reset (function ∙ ap (λ (s : Shape). Some s.function) (sym shapes) ∙ ap Some z);
    }

-- what is asked has the machine's shape
pub asked_shape : (p : Program) (c : Cpu80) (kept : Return) (shape : Shape) (q : Request) → HasUses p c.uses.items → IsCalling p (tagged_state c) kept → tagged_shape c kept.is_popped ≡ Ok shape → step80 p (tagged_state c) ≡ Asks (Call q) (tagged_state c) → shape ≡ q.shape
asked_shape p c kept shape q h w e asks =
    let again : shape ≡ w.shape = shape_again p c kept shape h w e in
    let asked = w.asked in
    let same : request_of w.shape (seen_by_tagged p (tagged_state c) kept.is_popped) ≡ q = cc in
    again ∙ ap (λ (r : Request). r.shape) same

-- a reply is judged by the shape alone, and what it leaves goes by the shape alone
row_fits_by : (o : Option Row) (q r : Request) (y : Reply) → q.shape ≡ r.shape → fits_row o q y ≡ fits_row o r y
row_fits_by None q r y e = refl
row_fits_by (Some row) q r y e =
    ap (λ (s : Shape). answer_fits (kind_by row.answer s.arg) y.answer && cond (s.function == 10) (line_fits (ranges s.writes) y.writes) (writes_fit (ranges s.writes) y.writes)) e

pub fits_by : (q r : Request) (y : Reply) → q.shape ≡ r.shape → fits q y ≡ fits r y
fits_by q r y e =
    ap (λ (s : Shape). fits_row (row_of s.function) q y) e ∙ row_fits_by (row_of r.shape.function) q r y e

pub taken_by : (closed : ℕ → Bool) (s : State80) (kept : Return) (q r : Request) (y : Reply) → q.shape ≡ r.shape → after_taken_reply closed s kept q y ≡ after_taken_reply closed s kept r y
taken_by closed s kept q r y e = ap (λ sh. after_taken_reply closed s kept (record { shape = sh; blocks = [] }) y) e

-- what asks goes on at an instruction, or at the end
pub return_place : (p : Program) (s : State80) (kept : Return) → return_at p s s.place ≡ Ok (return_of_turn kept) → is_place p kept.place ≡ true
return_place p s kept back = subst (Returns p) back (returns_to p s s.place)

pub replied : (p : Program) (c : Cpu80) (kept : Return) (q : Request) (y : Reply) → HasUses p c.uses.items → IsCalling p (tagged_state c) kept → after_taken_reply (closed_in c.uses.items) (tagged_state c) kept q y ≡ replied80 p (tagged_state c) (Call q) y
replied p c kept q y h w =
    ap (λ (f : ℕ → Bool). after_taken_reply f (tagged_state c) kept q y) (same_closed p c.uses.items h)
    ∙ sym (ap (λ r. replied_to p (tagged_state c) r (Call q) y) w.back)

-- the reply to a port

pub port_refused : (p : Program) (c : Cpu80) (kept : Return) (e : Event) (y : Reply) → IsAtPort p (tagged_state c) kept e → fits_event e y ≡ false → IsReplyTo p c y false c
port_refused p c kept e y w misfit =
    (refl, λ on v asks. subst (λ (x : Event). fits_event x y ≡ false) (asked_same p (tagged_state c) e v w.asked asks) misfit)

pub port_taken : (p : Program) (c after : Cpu80) (kept : Return) (e : Event) (y : Reply) → HasUses p c.uses.items → asks c ≡ true → IsAtPort p (tagged_state c) kept e → fits_event e y ≡ true → after.uses.items ≡ c.uses.items → after.phase ≡ Running → after.place ≡ kept.place → tagged_state after ≡ replied_to p (tagged_state c) (Ok (return_of_turn kept)) e y → IsReplyTo p c y true after
port_taken p c after kept e y uses on w fit same runs place state =
    let back : is_place p after.place ≡ true = subst (λ q. is_place p q ≡ true) (sym place) (return_place p (tagged_state c) kept w.back) in (
      on,
      ap waits runs,
      runs_on p c.uses.items after uses same runs back,
      λ v asks_it.
          let is : e ≡ v = asked_same p (tagged_state c) e v w.asked asks_it in (
            subst (λ (x : Event). fits_event x y ≡ true) is fit,
            state
                ∙ sym (ap (λ r. replied_to p (tagged_state c) r e y) w.back)
                ∙ ap (λ (x : Event). replied80 p (tagged_state c) x y) is,
          ),
    )

-- what fits is within memory

abbrev Ends : Range → Type 0
Ends r = r.at + r.len ≤ 0x10000

filled : (r : Range) (b : Block) → Ends r → fills_range r b ≡ true → Fits b
filled r b h e =
    let at : (b.at == r.at) ≡ true = (and_parts (b.at == r.at) (length b.bytes == r.len) e).0 in
    let len : (length b.bytes == r.len) ≡ true = (and_parts (b.at == r.at) (length b.bytes == r.len) e).1 in
    grind (arith, nat_tests)

writes_within : (rs : List Range) (bs : List Block) → All Ends rs → writes_fit rs bs ≡ true → All Fits bs
writes_within rs [] h e = All-nil Fits
writes_within [] (b ∷ bs) h e = cc
writes_within (r ∷ rs) (b ∷ bs) h e =
    by_fill (fills_range r b) refl (writes_within rs bs (All-tail Ends r rs h)) (writes_within rs (b ∷ bs) (All-tail Ends r rs h)) e
  where
    by_fill : (t : Bool) → fills_range r b ≡ t → (writes_fit rs bs ≡ true → All Fits bs) → (writes_fit rs (b ∷ bs) ≡ true → All Fits (b ∷ bs)) → cond t (writes_fit rs bs) (writes_fit rs (b ∷ bs)) ≡ true → All Fits (b ∷ bs)
    by_fill true f rest same g = All-cons Fits b bs (filled r b (h 0 r (omega arith)) f) (rest g)
    by_fill false f rest same g = same g

line_within : (rs : List Range) (bs : List Block) → All Ends rs → line_fits rs bs ≡ true → All Fits bs
line_within [] bs h e = cc
line_within (r ∷ rs) [] h e = cc
line_within (r ∷ rs) (b ∷ []) h e =
    let at : (b.at == r.at) ≡ true = (and_parts (b.at == r.at) (line_bytes_fit r.len b.bytes) e).0 in
    let len = line_short r.len b.bytes (and_parts (b.at == r.at) (line_bytes_fit r.len b.bytes) e).1 in
    let ends : Ends r = h 0 r (omega arith) in
    let fit : Fits b = grind (arith, nat_tests) in
    All-cons Fits b [] fit (All-nil Fits)
line_within (r ∷ rs) (b ∷ (c ∷ bs)) h e = cc

row_within : (o : Option Row) (q : Request) (y : Reply) → All Ends (ranges q.shape.writes) → fits_row o q y ≡ true → All Fits y.writes
row_within None q y h e = cc
row_within (Some row) q y h e = by_line (q.shape.function == 10) (and_parts (answer_fits (kind_by row.answer q.shape.arg) y.answer) _ e).1
  where
    by_line : (t : Bool) → cond t (line_fits (ranges q.shape.writes) y.writes) (writes_fit (ranges q.shape.writes) y.writes) ≡ true → All Fits y.writes
    by_line true g = line_within (ranges q.shape.writes) y.writes h g
    by_line false g = writes_within (ranges q.shape.writes) y.writes h g

pub fits_within : (c : Cpu80) (is_popped : Bool) (shape : Shape) (q : Request) (y : Reply) → tagged_shape c is_popped ≡ Ok shape → q.shape ≡ shape → fits q y ≡ true → All Fits y.writes
fits_within c is_popped shape q y e is fit =
    let over : IsShapeOver (seen_of c is_popped) shape = record {
      function = num_of c.registers.c;
      d = num_of c.registers.d;
      e = num_of c.registers.e;
      dma = c.dma;
      given = e;
    } in
    let lawful = made-lawful (seen_of c is_popped) shape (made (seen_of c is_popped) shape over) in
    let ends : All Ends (ranges q.shape.writes) = subst (λ (s : Shape). All Ends (ranges s.writes)) (sym is) lawful.writes_end in
    row_within (row_of q.shape.function) q y ends fit
