-- A call of the system on both machines: what the 8080 asks, the 8086 asks too.
use Rattle.std.proofs.Common.{◌≡◌, ◌≢◌, ℕ, ◌<◌, ◌==◌, Bool, true, false, cond, Option, Some, None, Result, Ok, Err, refl, sym, ap, subst, ◌∙◌}
use Rattle.std.specs.Prelude.{All, ◌||◌, is_some}
use Rattle.std.proofs.lemmas.Bool.{and_parts, eqb-true}
use Rattle.std.proofs.lemmas.Option.{same_Some}
use Rattle.cells.specs.declared.Place.{Place}
use Rattle.cells.specs.declared.Cell.{Cell}
use Rattle.cells.specs.declared.Cell.TheVariants.{Num, Lo, Hi, Psw, Junk}
use Rattle.cells.specs.declared.Rule.{Rule}
use Rattle.cells.specs.declared.Rule.TheVariants.{P9, P12}
use Rattle.dialogue.specs.declared.request.Shape.{Shape}
use Rattle.dialogue.specs.declared.request.Reply.{Reply}
use Rattle.dialogue.specs.declared.request.Request.{Request}
use Rattle.dialogue.specs.declared.request.Event.TheVariants.{Call}
use Rattle.dialogue.specs.Table.{Row, row_of}
use Rattle.dialogue.specs.Shape.{Seen, is_within, ranges, shape_of, request_of}
use Rattle.dialogue.specs.Fits.{answer_fits, kind_by, line_fits, writes_fit, fits, fits_row, answer_in, answer_kind_of}
use Rattle.dialogue.specs.ByteMemory.{seen_by as seen_by86}
use Rattle.dialogue.specs.Run.{Answer, Asks, Ends, Stops}
use Rattle.asm80_types.specs.Program.{Program}
use Rattle.cpu80_tagged.specs.State.{State80, num_of}
use Rattle.cpu80_tagged.specs.Memory.{is_closed}
use Rattle.cpu80_tagged.specs.Call.{Return, is_just_below, byte_seen, may_be_written, seen_by_tagged, ask, ask_after, call_by, call_system}
use Rattle.cpu86.specs.State.{State86}
use Rattle.cpu86.specs.Call.{OddCall, spoiled, ask as ask86, ask_system, call_system as call_system86}
use Rattle.sym_block_def.specs.Stands.{Stands}
use Rattle.dialogue.specs.Sight.{SeesMore, KnowsMore, WhoSeesMoreAsksTheSame}
use Rattle.simulation_def.specs.States.{IsCell}
use Rattle.sym_sound.proofs.Machine86.Words.{eq_false}
use Rattle.dialogue.proofs.Within.{AreWithin, call_writes, fit_within}

-- the 8080

-- it asks: a function other than 0, whose call has a shape, and a place of return
pub record AsksSystem (p : Program) (t : State80) (back : Result Return Rule) : Type 0 where
  pub function : ℕ
  pub in_c : num_of t.regs.c ≡ Some function
  pub some : function ≢ 0
  pub return : Return
  pub returns : back ≡ Ok return
  pub shape : Shape
  pub has_shape : shape_of (Some function) (num_of t.regs.d) (num_of t.regs.e) t.dma (seen_by_tagged p t return.is_popped) ≡ Ok shape
  pub asks : call_system p t back ≡ Asks (Call (request_of shape (seen_by_tagged p t return.is_popped))) t

pub data CallsSystem80 (p : Program) (t : State80) (back : Result Return Rule) : Type 0 where
  leaves : (r : Rule) → call_system p t back ≡ Stops r → CallsSystem80 p t back
  resets : num_of t.regs.c ≡ Some 0 → call_system p t back ≡ Ends → CallsSystem80 p t back
  asking : AsksSystem p t back → CallsSystem80 p t back

module _ (p : Program) (t : State80) (back : Result Return Rule) where
  abbrev after : ℕ → Answer State80 Rule
  after f = ask_after p t f back

  by_shape : (f : ℕ) (k : Return) (q : Result Shape Rule) → num_of t.regs.c ≡ Some f → f ≢ 0 → back ≡ Ok k → shape_of (Some f) (num_of t.regs.d) (num_of t.regs.e) t.dma (seen_by_tagged p t k.is_popped) ≡ q → call_system p t back ≡ ask p t k.is_popped q → CallsSystem80 p t back
  by_shape f k (Err r) c n b e h = leaves r h
  by_shape f k (Ok shape) c n b e h = asking (record { function = f; in_c = c; some = n; return = k; returns = b; shape = shape; has_shape = e; asks = h })

  by_below : (f : ℕ) (k : Return) (b : Bool) → num_of t.regs.c ≡ Some f → f ≢ 0 → back ≡ Ok k → (is_just_below t.sp 6 || is_just_below t.sp 7) ≡ b → call_system p t back ≡ ask_after p t f (Ok k) → CallsSystem80 p t back
  by_below f k true c n b e h = leaves P12 (h ∙ ap (λ z. cond z (Stops P12) (ask p t k.is_popped (shape_of (Some f) (num_of t.regs.d) (num_of t.regs.e) t.dma (seen_by_tagged p t k.is_popped)))) e)
  by_below f k false c n b e h =
      by_shape f k (shape_of (Some f) (num_of t.regs.d) (num_of t.regs.e) t.dma (seen_by_tagged p t k.is_popped)) c n b refl
      (h ∙ ap (λ z. cond z (Stops P12) (ask p t k.is_popped (shape_of (Some f) (num_of t.regs.d) (num_of t.regs.e) t.dma (seen_by_tagged p t k.is_popped)))) e)

  by_return : (f : ℕ) (q : Result Return Rule) → num_of t.regs.c ≡ Some f → f ≢ 0 → back ≡ q → call_system p t back ≡ ask_after p t f back → CallsSystem80 p t back
  by_return f (Err r) c n e h = leaves r (h ∙ ap (ask_after p t f) e)
  by_return f (Ok k) c n e h = by_below f k (is_just_below t.sp 6 || is_just_below t.sp 7) c n e refl (h ∙ ap (ask_after p t f) e)

  not_zero : (f : ℕ) → (f == 0) ≡ false → f ≢ 0
  not_zero f e z = let none : (0 == 0) ≡ false = subst (λ k. (k == 0) ≡ false) z e in absurd (cc)

  by_zero : (f : ℕ) (b : Bool) → num_of t.regs.c ≡ Some f → (f == 0) ≡ b → call_system p t back ≡ cond b Ends (ask_after p t f back) → CallsSystem80 p t back
  by_zero f true c e h = resets (c ∙ ap Some (eqb-true f 0 e)) h
  by_zero f false c e h = by_return f back c (not_zero f e) refl h

  by_row : (f : ℕ) (b : Bool) → num_of t.regs.c ≡ Some f → is_some (row_of f) ≡ b → call_system p t back ≡ cond b (cond (f == 0) Ends (ask_after p t f back)) (Stops P9) → CallsSystem80 p t back
  by_row f true c e h = by_zero f (f == 0) c refl h
  by_row f false c e h = leaves P9 h

  by_number : (o : Option ℕ) → num_of t.regs.c ≡ o → CallsSystem80 p t back
  by_number None e = leaves P9 (ap (call_by p t back) e)
  by_number (Some f) e = by_row f (is_some (row_of f)) e refl (ap (call_by p t back) e)

  pub calls_80 : CallsSystem80 p t back
  calls_80 = by_number (num_of t.regs.c) refl

-- the 8086

-- a number in a cell is the byte that stands for it
pub number_stands : (p : Program) (offset : Place → Option ℕ) (c : Cell) (n b : ℕ) → num_of c ≡ Some n → IsCell p c → Stands offset c b → (n < 256) × (b ≡ n)
number_stands p offset (Num m) n b e i s = let same : m ≡ n = same_Some m n e in (subst (λ k. k < 256) same i, s ∙ same)
number_stands p offset (Lo q) n b e i s = absurd (cc)
number_stands p offset (Hi q) n b e i s = absurd (cc)
number_stands p offset (Psw f) n b e i s = absurd (cc)
number_stands p offset Junk n b e i s = absurd (cc)

knows_more : (p : Program) (offset : Place → Option ℕ) (c : Cell) (b : ℕ) → IsCell p c → Stands offset c b → KnowsMore (num_of c) (Some b)
knows_more p offset c b i s n e = let h = number_stands p offset c n b e i s in (h.0, ap Some h.1)

-- Memory of the 8086 as a call sees it: it stands for the 8080's in all cells but the eight below SP.
pub record IsSight (p : Program) (offset : Place → Option ℕ) (t : State80) (m : ℕ → ℕ) : Type 0 where
  pub cells : (a : ℕ) → a < 0x10000 → is_closed p a ≡ false → is_just_below t.sp a ≡ false → Stands offset (t.mem a) (m a)
  pub bytes : (a : ℕ) → m a < 256

-- what a call needs of the two states
pub record CallStands (p : Program) (offset : Place → Option ℕ) (t : State80) (u : State86) : Type 0 where
  pub c : Stands offset t.regs.c u.regs.cl
  pub d : Stands offset t.regs.d u.regs.dh
  pub e : Stands offset t.regs.e u.regs.dl
  pub c_cell : IsCell p t.regs.c
  pub d_cell : IsCell p t.regs.d
  pub e_cell : IsCell p t.regs.e
  pub mem_cells : (a : ℕ) → is_closed p a ≡ false → IsCell p (t.mem a)
  pub dma : u.dma ≡ t.dma

module _ (same : WhoSeesMoreAsksTheSame) (p : Program) (offset : Place → Option ℕ) (t : State80) (u : State86) (cs : CallStands p offset t u) (back : Result Return Rule) (a : AsksSystem p t back) (m : ℕ → ℕ) (sight : IsSight p offset t m) where
  abbrev seen : Seen
  seen = seen_by_tagged p t a.return.is_popped

  sees_byte : (at n : ℕ) → at < 0x10000 → byte_seen p t at ≡ Some n → Some (m at) ≡ Some n
  sees_byte at n lt h = by_below (is_just_below t.sp at) refl h
    where
      by_closed : is_just_below t.sp at ≡ false → (b : Bool) → is_closed p at ≡ b → cond b None (num_of (t.mem at)) ≡ Some n → Some (m at) ≡ Some n
      by_closed g true e h = absurd (cc)
      by_closed g false e h = ap Some (number_stands p offset (t.mem at) n (m at) h (cs.mem_cells at e) (sight.cells at lt e g)).1

      by_below : (b : Bool) → is_just_below t.sp at ≡ b → cond (b || is_closed p at) None (num_of (t.mem at)) ≡ Some n → Some (m at) ≡ Some n
      by_below true e h = absurd (cc)
      by_below false e h = by_closed e (is_closed p at) refl h

  sees_more : SeesMore seen (seen_by86 m)
  sees_more = record { byte = sees_byte; writable = λ at lt h. refl }

  asked_same : (shape_of (Some a.function) (Some u.regs.dh) (Some u.regs.dl) t.dma (seen_by86 m) ≡ Ok a.shape) × (request_of a.shape (seen_by86 m) ≡ request_of a.shape seen)
  asked_same =
      same a.function t.dma (num_of t.regs.d) (num_of t.regs.e) (Some u.regs.dh) (Some u.regs.dl) seen (seen_by86 m) a.shape sees_more
      (knows_more p offset t.regs.d u.regs.dh cs.d_cell cs.d) (knows_more p offset t.regs.e u.regs.dl cs.e_cell cs.e) a.has_shape

  pub function_is : u.regs.cl ≡ a.function
  function_is = (number_stands p offset t.regs.c a.function u.regs.cl a.in_c cs.c_cell cs.c).1

-- the 8086 asks the same, by INT 224 in a state with the same registers, over memory that is spoiled below SP
pub asks_same : (same : WhoSeesMoreAsksTheSame) (p : Program) (offset : Place → Option ℕ) (t : State80) (u : State86) → CallStands p offset t u → (back : Result Return Rule) (a : AsksSystem p t back) (choice : ℕ) → IsSight p offset t (spoiled u.mem u.sp choice) → call_system86 u choice ≡ Asks (Call (request_of a.shape (seen_by_tagged p t a.return.is_popped))) (record u { mem = spoiled u.mem u.sp choice })
asks_same same p offset t u cs back a choice sight =
    let m = spoiled u.mem u.sp choice in
    let w : State86 = record u { mem = m } in
    let f = function_is same p offset t u cs back a m sight in
    let s = asked_same same p offset t u cs back a m sight in
    ap (λ k. cond (k == 0) (cond (u.regs.dl == 0) Ends (Stops (OddCall 0))) (ask_system w)) f
    ∙ ap (λ k. cond k (cond (u.regs.dl == 0) Ends (Stops (OddCall 0))) (ask_system w)) (eq_false a.function 0 a.some)
    ∙ ap (λ k. ask86 w (shape_of (Some k) (Some u.regs.dh) (Some u.regs.dl) u.dma (seen_by86 m))) f
    ∙ ap (λ k. ask86 w (shape_of (Some a.function) (Some u.regs.dh) (Some u.regs.dl) k (seen_by86 m))) cs.dma
    ∙ ap (ask86 w) s.0
    ∙ ap (λ q. Asks (Call q) w) s.1

-- what a reply to such a request writes

pub record ReplyFits (passes : ℕ → Bool) (q : Request) (y : Reply) : Type 0 where
  pub within : AreWithin passes y.writes
  pub answer : answer_fits (answer_kind_of q) y.answer ≡ true

fits_reply : (view : Seen) (shape : Shape) (y : Reply) → All (λ r. is_within view.writable r ≡ true) (ranges shape.writes) → fits (request_of shape view) y ≡ true → ReplyFits view.writable (request_of shape view) y
fits_reply view shape y all h = by_row (row_of shape.function) refl h
  where
    by_row : (o : Option Row) → row_of shape.function ≡ o → fits_row o (request_of shape view) y ≡ true → ReplyFits view.writable (request_of shape view) y
    by_row None e g = absurd (cc)
    by_row (Some row) e g =
        let both = and_parts (answer_fits (kind_by row.answer shape.arg) y.answer) (cond (shape.function == 10) (line_fits (ranges shape.writes) y.writes) (writes_fit (ranges shape.writes) y.writes)) g in
        record {
          within = fit_within view.writable (request_of shape view) y all h;
          answer = subst (λ (r : Option Row). answer_fits (answer_in r shape.arg) y.answer ≡ true) (sym e) both.0;
        }

pub reply_fits : (p : Program) (t : State80) (back : Result Return Rule) (a : AsksSystem p t back) (y : Reply) → fits (request_of a.shape (seen_by_tagged p t a.return.is_popped)) y ≡ true → ReplyFits (may_be_written p t a.return.is_popped) (request_of a.shape (seen_by_tagged p t a.return.is_popped)) y
reply_fits p t back a y h =
    fits_reply (seen_by_tagged p t a.return.is_popped) a.shape y
    (call_writes a.function (num_of t.regs.d) (num_of t.regs.e) t.dma (seen_by_tagged p t a.return.is_popped) a.shape a.has_shape) h
