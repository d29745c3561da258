-- A call of the system: what the tagged machine asks, the one over bytes asks too, and after a reply its bytes stand for what the
-- tagged machine knows.
use Rattle.std.proofs.Common.{◌≡◌, ℕ, ◌+◌, ◌/◌, ◌%◌, ◌<◌, ◌≤◌, ◌==◌, Bool, true, false, cond, not, List, [], ◌∷◌, length, Option, Some, None, Result, Ok, Err, refl, sym, ap, subst, ◌∙◌, arith}
use Rattle.std.specs.Prelude.{◌&&◌, ◌||◌, is_some, All}
use Rattle.std.proofs.lemmas.Bool.{and_parts, or_parts, ltb-true}
use Rattle.std.proofs.lemmas.List.Elements.{All-head, All-tail}
use Rattle.cells.specs.declared.Place.{Place}
use Rattle.cells.specs.declared.Place.TheVariants.{At, Exit}
use Rattle.cells.specs.declared.Cell.{Cell}
use Rattle.cells.specs.declared.Cell.TheVariants.{Num, Lo, Hi, Psw, Junk}
use Rattle.cells.specs.declared.Rule.{Rule}
use Rattle.cells.specs.declared.Rule.TheVariants.{P1, P9, P12}
use Rattle.dialogue.specs.declared.blocks.Block.{Block}
use Rattle.dialogue.specs.declared.request.Shape.{Shape}
use Rattle.dialogue.specs.declared.request.Request.{Request}
use Rattle.dialogue.specs.declared.request.Reply.{Reply}
use Rattle.dialogue.specs.declared.request.Event.{Event}
use Rattle.dialogue.specs.declared.request.Event.TheVariants.{Call}
use Rattle.dialogue.specs.declared.table.AnswerKind.{AnswerKind}
use Rattle.dialogue.specs.declared.table.AnswerKind.TheVariants.{NoAnswer, ByteAnswer, WordAnswer}
use Rattle.dialogue.specs.Table.{Row, row_of}
use Rattle.dialogue.specs.Shape.{is_within, ranges, shape_of, request_of}
use Rattle.dialogue.specs.Fits.{answer_fits, answer_in, answer_kind_of, fits_row, fits, fits_event, dma_after}
use Rattle.dialogue.specs.ByteMemory.{put, put_bytes, put_blocks, seen_by, word_at}
use Rattle.dialogue.specs.Run.{Answer, Ran, Asks, Ends, Stops}
use Rattle.asm80_types.specs.Program.{Program, IsProgram, is_code}
use Rattle.cpu80_tagged.specs.State.{State80, num_of}
use Rattle.cpu80_tagged.specs.Memory.{is_closed, is_write_protected, put as put80, read_word}
use Rattle.cells.specs.Places.{same_place}
use Rattle.cells.proofs.SamePlace.{same_place_is}
use Rattle.cpu80_tagged.specs.Call.{Return as Return80, is_just_below, may_be_written, seen_by_tagged as seen_by80, ask as ask80, ask_after, call_by, call_system as call_system80, is_place, place_in, popped_return as popped_return80, put_bytes as put_bytes80, put_blocks as put_blocks80, answered as answered80, cells_after, after_reply as after_reply80}
use Rattle.cpu80_tagged.specs.Step.{return_at as return_at80, replied_to as replied_to80, replied80}
use Rattle.cpu80_tagged.proofs.Passing.{place_if_is}
use Rattle.cpu80.specs.State.{UntaggedState, next}
use Rattle.cpu80.specs.Call.{Stop, ask, call_system, Return, place_of_return, popped_return, chosen_regs, answered, after_reply}
use Rattle.cpu80.specs.Step.{Fetch, return_at, replied_to, replied_untagged}
use Rattle.cpu80.specs.Start.{address_of}
use Rattle.cpu80.specs.Follows.{WritesBytes}
use Rattle.dialogue.specs.Sight.{SeesMore, KnowsMore, WhoSeesMoreAsksTheSame}
use Rattle.dialogue.specs.Words.{word, wrap}
use Rattle.dialogue.specs.Choice.{byte_of}
use Rattle.dialogue.proofs.Tried.{ok_is, err_is_not, then_is}
use Rattle.cpu80.proofs.Stands.{Stands, RegsStand, CellsStand, StatesStand, put_stands, number}
use Rattle.cpu80.proofs.MovesStand.{high_small, low_small, unprotected_free, reads_word}
use Rattle.asm80_types.proofs.Standing.{start_range}
use Rattle.dialogue.proofs.Within.{AreWithin, call_writes, fit_within}

-- after an event that both ask, whatever the reply that fits, the states stand for one another
pub record IsAnswered (p : Program) (held : ℕ → ℕ) (fetch : Fetch) (s : State80) (u : UntaggedState) (e : Event) : Type 0 where
  pub after : (y : Reply) (choice : ℕ) → fits_event e y ≡ true → WritesBytes y → StatesStand p held (replied80 p s e y) (replied_untagged fetch u e y choice)

-- a step over bytes does what a step of the tagged machine does, unless that leaves the profile
abbrev pub StepFollows : Program → (ℕ → ℕ) → Fetch → Answer State80 Rule → Answer UntaggedState Stop → Type 0
StepFollows p held fetch (Stops r) y = Unit {0}
StepFollows p held fetch (Ran s) (Ran u) = StatesStand p held s u
StepFollows p held fetch (Ran s) (Asks f u) = ⊥
StepFollows p held fetch (Ran s) Ends = ⊥
StepFollows p held fetch (Ran s) (Stops x) = ⊥
StepFollows p held fetch (Asks e s) (Ran u) = ⊥
StepFollows p held fetch (Asks e s) (Asks f u) = (f ≡ e) × IsAnswered p held fetch s u e
StepFollows p held fetch (Asks e s) Ends = ⊥
StepFollows p held fetch (Asks e s) (Stops x) = ⊥
StepFollows p held fetch Ends (Ran u) = ⊥
StepFollows p held fetch Ends (Asks f u) = ⊥
StepFollows p held fetch Ends Ends = Unit {0}
StepFollows p held fetch Ends (Stops x) = ⊥

-- what a call sees

num_is : (v : Cell) (n b : ℕ) → Stands v b → num_of v ≡ Some n → b ≡ n
num_is (Num m) n b h e = h.means ∙ some_is m n e
  where
    some_is : (m n : ℕ) → Some m ≡ Some n → m ≡ n
    some_is m n e = cc
num_is (Lo q) n b h e = absurd (cc)
num_is (Hi q) n b h e = absurd (cc)
num_is (Psw f) n b h e = absurd (cc)
num_is Junk n b h e = absurd (cc)

knows_more : (v : Cell) (b : ℕ) → Stands v b → KnowsMore (num_of v) (Some b)
knows_more v b h n e = let same = num_is v n b h e in (subst (λ k. k < 256) same h.small, ap Some same)

sees_more : {held : ℕ → ℕ} (p : Program) (s : State80) (u : UntaggedState) (is_popped : Bool) → StatesStand p held s u → SeesMore (seen_by80 p s is_popped) (seen_by u.mem)
sees_more p s u is_popped d = record { byte = λ a n lt e. by_test a n (is_just_below s.sp a || is_closed p a) e; writable = λ a lt e. refl }
  where
    by_test : (a n : ℕ) (b : Bool) → cond b None (num_of (s.mem a)) ≡ Some n → Some (u.mem a) ≡ Some n
    by_test a n true e = absurd (cc)
    by_test a n false e = ap Some (num_is (s.mem a) n (u.mem a) (d.mem.each a) e)

-- places

-- a word is the address of a place that the program may go to
pub record Names (p : Program) (q : Place) (w : ℕ) : Type 0 where
  pub address : w ≡ address_of q
  pub is_place : is_place p q ≡ true

halves : (n a b : ℕ) → a ≡ n / 256 → b ≡ n % 256 → word a b ≡ n
halves n a b h l = omega (arith, h, l)

pub place_names : (p : Program) (high low : Cell) (q : Place) (a b : ℕ) → Stands high a → Stands low b → place_in p high low ≡ Ok q → Names p q (word a b)
place_names p (Hi r) (Lo o) q a b ha lb e =
    let f = place_if_is (same_place r o && is_place p r) r q e in
    let g = and_parts (same_place r o) (is_place p r) f.0 in
    let same = sym (same_place_is r o g.0) in
    subst (λ k. Names p k (word a b)) f.1 (record { address = halves (address_of r) a b ha.means (lb.means ∙ ap (λ k. address_of k % 256) same); is_place = g.1 })
place_names p (Hi r) (Num n) q a b ha lb e = absurd (err_is_not P1 q e)
place_names p (Hi r) (Hi o) q a b ha lb e = absurd (err_is_not P1 q e)
place_names p (Hi r) (Psw f) q a b ha lb e = absurd (err_is_not P1 q e)
place_names p (Hi r) Junk q a b ha lb e = absurd (err_is_not P1 q e)
place_names p (Num n) low q a b ha lb e = absurd (err_is_not P1 q e)
place_names p (Lo r) low q a b ha lb e = absurd (err_is_not P1 q e)
place_names p (Psw f) low q a b ha lb e = absurd (err_is_not P1 q e)
place_names p Junk low q a b ha lb e = absurd (err_is_not P1 q e)

-- an address at which an instruction starts is not 0
pub not_zero : (a : ℕ) → 0x100 ≤ a → (a == 0) ≡ false
not_zero a h = grind (arith, h)

pub named_place : (p : Program) (q : Place) (w : ℕ) → IsProgram p → Names p q w → place_of_return w ≡ q
named_place p (At a) w g n =
    ap place_of_return n.address ∙ ap (λ b. cond b Exit (At a)) (not_zero a (start_range p a g n.is_place).0)
named_place p Exit w g n = ap place_of_return n.address

-- returns

pub record ReturnStands (r : Return80) (back : Return) : Type 0 where
  pub place : back.place ≡ r.place
  pub sp : back.sp ≡ r.sp
  pub small : r.sp < 0x10000

-- the word that RET or a jump to 5 pops names a place
pub record PopsReturn (p : Program) (s : State80) (u : UntaggedState) (r : Return80) : Type 0 where
  pub place : Place
  pub names : Names p place (word_at u.mem u.sp)
  pub is : record { place = place; sp = wrap (s.sp + 2); is_popped = true } ≡ r

pub pops : {held : ℕ → ℕ} (p : Program) (s : State80) (u : UntaggedState) (r : Return80) → StatesStand p held s u → popped_return80 p s ≡ Ok r → PopsReturn p s u r
pops p s u r d e =
    let w = then_is (read_word p s s.sp) _ r e in
    let q = then_is (place_in p (w.0).high (w.0).low) _ r w.2 in
    let h = reads_word p s u s.sp w.0 d d.sp_small w.1 in
    let n = place_names p (w.0).high (w.0).low q.0 (u.mem (next s.sp)) (u.mem s.sp) h.high h.low q.1 in
    record { place = q.0; names = subst (λ k. Names p q.0 (word_at u.mem k)) (sym d.sp) n; is = ok_is _ r q.2 }

pub popped_stands : {held : ℕ → ℕ} (p : Program) (s : State80) (u : UntaggedState) (r : Return80) → IsProgram p → StatesStand p held s u → popped_return80 p s ≡ Ok r → ReturnStands r (popped_return u)
popped_stands p s u r g d e =
    let o = pops p s u r d e in
    let up : wrap (s.sp + 2) < 0x10000 = omega arith in
    let made : ReturnStands (record { place = o.place; sp = wrap (s.sp + 2); is_popped = true }) (popped_return u) = record { place = named_place p o.place (word_at u.mem u.sp) g o.names; sp = ap (λ k. wrap (k + 2)) d.sp; small = up } in
    subst (λ k. ReturnStands k (popped_return u)) o.is made

-- after a reply

fit_answers : (o : Option Row) (q : Request) (y : Reply) → fits_row o q y ≡ true → answer_fits (answer_in o q.shape.arg) y.answer ≡ true
fit_answers None q y e = absurd (cc)
fit_answers (Some row) q y e = (and_parts _ _ e).0

chosen : (c k : ℕ) → Stands Junk (byte_of c k)
chosen c k = let small : byte_of c k < 256 = omega arith in record { means = tt; small = small }

answered_stand : (k : AnswerKind) (n c : ℕ) → answer_fits k n ≡ true → RegsStand (answered80 k n) (answered k n (chosen_regs c))
answered_stand NoAnswer n c e = record { a = chosen c 0; b = chosen c 24; c = chosen c 16; d = chosen c 40; e = chosen c 32; h = chosen c 56; l = chosen c 48 }
answered_stand ByteAnswer n c e =
    let v = number n (ltb-true n 256 e) in
    record { a = v; b = chosen c 24; c = chosen c 16; d = chosen c 40; e = chosen c 32; h = chosen c 56; l = v }
answered_stand WordAnswer n c e =
    let h = number (n / 256) (high_small n (ltb-true n 0x10000 e)) in
    let l = number (n % 256) (low_small n) in
    record { a = l; b = h; c = chosen c 16; d = chosen c 40; e = chosen c 32; h = h; l = l }

-- a cell that a call may write is none of an instruction
may_be_free : (p : Program) (s : State80) (is_popped : Bool) (a : ℕ) → may_be_written p s is_popped a ≡ true → is_code p a ≡ false
may_be_free p s is_popped a h =
    let none = not_true (is_just_below s.sp a || (is_write_protected p a || (is_popped && (a == s.sp || a == wrap (s.sp + 1))))) h in
    let rest = (or_parts (is_just_below s.sp a) (is_write_protected p a || (is_popped && (a == s.sp || a == wrap (s.sp + 1)))) none).1 in
    unprotected_free p a (or_parts (is_write_protected p a) (is_popped && (a == s.sp || a == wrap (s.sp + 1))) rest).0
  where
    not_true : (b : Bool) → not b ≡ true → b ≡ false
    not_true true e = absurd (cc)
    not_true false e = refl

module _ {p : Program} {held : ℕ → ℕ} where
  bytes_stand : (m : ℕ → Cell) (n : ℕ → ℕ) (a : ℕ) (bs : List ℕ) → a + length bs ≤ 0x10000 → ((k : ℕ) → a ≤ k → k < a + length bs → is_code p k ≡ false) → All (λ b. b < 256) bs → CellsStand p held m n → CellsStand p held (put_bytes80 m a bs) (put_bytes n a bs)
  bytes_stand m n a [] le free all h = h
  bytes_stand m n a (b ∷ []) le free all h = put_stands m n a (Num b) b h (number b (All-head (λ b. b < 256) b [] all)) (free a (omega arith) (omega arith))
  bytes_stand m n a (b ∷ (c ∷ bs)) le free all h =
      let same : a + 1 ≡ next a = omega (arith, le) in
      let first = put_stands m n a (Num b) b h (number b (All-head (λ b. b < 256) b (c ∷ bs) all)) (free a (omega arith) (omega arith)) in
      subst (λ k. CellsStand p held (put_bytes80 m a (b ∷ (c ∷ bs))) (put_bytes (put n a b) k (c ∷ bs))) same
      (bytes_stand (put80 m a (Num b)) (put n a b) (a + 1) (c ∷ bs) (omega (arith, le)) (λ k low high. free k (omega (arith, low)) (omega (arith, high))) (All-tail (λ b. b < 256) b (c ∷ bs) all) first)

  blocks_stand : (passes : ℕ → Bool) (m : ℕ → Cell) (n : ℕ → ℕ) (bs : List Block) → ((k : ℕ) → passes k ≡ true → is_code p k ≡ false) → AreWithin passes bs → All (λ (b : Block). All (λ n. n < 256) b.bytes) bs → CellsStand p held m n → CellsStand p held (put_blocks80 m bs) (put_blocks n bs)
  blocks_stand passes m n [] free w all h = h
  blocks_stand passes m n (b ∷ bs) free w all h =
      blocks_stand passes (put_bytes80 m b.at b.bytes) (put_bytes n b.at b.bytes) bs free w.2 (All-tail (λ (b : Block). All (λ n. n < 256) b.bytes) b bs all)
      (bytes_stand m n b.at b.bytes w.0 (λ k low high. free k (w.1 k low high)) (All-head (λ (b : Block). All (λ n. n < 256) b.bytes) b bs all) h)

  cells_stand : (s : State80) (u : UntaggedState) (is_popped : Bool) (y : Reply) → StatesStand p held s u → AreWithin (may_be_written p s is_popped) y.writes → WritesBytes y → CellsStand p held (cells_after p s y) (put_blocks u.mem y.writes)
  cells_stand s u is_popped y d within bytes = record { each = λ a. by_test a (is_just_below s.sp a && not (is_closed p a)); code = written.code }
    where
      written : CellsStand p held (put_blocks80 s.mem y.writes) (put_blocks u.mem y.writes)
      written = blocks_stand (may_be_written p s is_popped) s.mem u.mem y.writes (may_be_free p s is_popped) within bytes d.mem

      by_test : (a : ℕ) (b : Bool) → Stands (cond b Junk (put_blocks80 s.mem y.writes a)) (put_blocks u.mem y.writes a)
      by_test a true = record { means = tt; small = (written.each a).small }
      by_test a false = written.each a

reply_stands : {held : ℕ → ℕ} (p : Program) (s : State80) (u : UntaggedState) (r : Return80) (back : Return) (q : Request) (y : Reply) (choice : ℕ) → StatesStand p held s u → ReturnStands r back → fits q y ≡ true → AreWithin (may_be_written p s r.is_popped) y.writes → WritesBytes y → StatesStand p held (after_reply80 p s r.place r.sp q y) (after_reply u back q y choice)
reply_stands p s u r back q y choice d h fit within bytes = record {
  regs = answered_stand (answer_kind_of q) y.answer choice (fit_answers (row_of q.shape.function) q y fit);
  flags = record { s = tt; z = tt; ac = tt; p = tt; cy = tt };
  mem = cells_stand s u r.is_popped y d within bytes;
  sp = h.sp;
  sp_small = h.small;
  place = h.place;
  dma = ap (dma_after q) d.dma;
}

-- the call

module _ (same : WhoSeesMoreAsksTheSame) (p : Program) (held : ℕ → ℕ) (fetch : Fetch) (s : State80) (u : UntaggedState) (d : StatesStand p held s u) (r80 : Result Return80 Rule) (back : Return) (here : return_at80 p s s.place ≡ r80) (there : return_at fetch u u.place ≡ Some back) (stands : (r : Return80) → r80 ≡ Ok r → ReturnStands r back) where
  answered_call : (r : Return80) (q : Request) → r80 ≡ Ok r → All (λ x. is_within (may_be_written p s r.is_popped) x ≡ true) (ranges q.shape.writes) → IsAnswered p held fetch s u (Call q)
  answered_call r q e writes = record {
    after = λ y choice fit bytes.
        subst (λ k. StatesStand p held (replied_to80 p s k (Call q) y) (replied_untagged fetch u (Call q) y choice)) (sym (here ∙ e))
        (subst (λ k. StatesStand p held (after_reply80 p s r.place r.sp q y) (replied_to u k (Call q) y choice)) (sym there)
        (reply_stands p s u r back q y choice d (stands r e) fit (fit_within (may_be_written p s r.is_popped) q y writes fit) bytes));
  }

  abbrev plain_shape : ℕ → Result Shape Rule
  plain_shape f = shape_of (Some f) (Some u.regs.d) (Some u.regs.e) u.dma (seen_by u.mem)

  by_shape : (f : ℕ) (r : Return80) (o : Result Shape Rule) → r80 ≡ Ok r → shape_of (Some f) (num_of s.regs.d) (num_of s.regs.e) s.dma (seen_by80 p s r.is_popped) ≡ o → StepFollows p held fetch (ask80 p s r.is_popped o) (ask u (plain_shape f))
  by_shape f r (Err x) e h = tt
  by_shape f r (Ok shape) e h =
      let k = same f s.dma (num_of s.regs.d) (num_of s.regs.e) (Some u.regs.d) (Some u.regs.e) (seen_by80 p s r.is_popped) (seen_by u.mem) shape (sees_more p s u r.is_popped d) (knows_more s.regs.d u.regs.d d.regs.d) (knows_more s.regs.e u.regs.e d.regs.e) h in
      let has : plain_shape f ≡ Ok shape = ap (λ n. shape_of (Some f) (Some u.regs.d) (Some u.regs.e) n (seen_by u.mem)) d.dma ∙ k.0 in
      let writes = call_writes f (num_of s.regs.d) (num_of s.regs.e) s.dma (seen_by80 p s r.is_popped) shape h in
      subst (λ z. StepFollows p held fetch (ask80 p s r.is_popped (Ok shape)) (ask u z)) (sym has)
      (ap Call k.1, answered_call r (request_of shape (seen_by80 p s r.is_popped)) e writes)

  by_below : (f : ℕ) (r : Return80) (b : Bool) → r80 ≡ Ok r → StepFollows p held fetch (cond b (Stops P12) (ask80 p s r.is_popped (shape_of (Some f) (num_of s.regs.d) (num_of s.regs.e) s.dma (seen_by80 p s r.is_popped)))) (ask u (plain_shape f))
  by_below f r true e = tt
  by_below f r false e = by_shape f r (shape_of (Some f) (num_of s.regs.d) (num_of s.regs.e) s.dma (seen_by80 p s r.is_popped)) e refl

  by_return : (f : ℕ) (o : Result Return80 Rule) → r80 ≡ o → StepFollows p held fetch (ask_after p s f o) (ask u (plain_shape f))
  by_return f (Err x) e = tt
  by_return f (Ok r) e = by_below f r (is_just_below s.sp 6 || is_just_below s.sp 7) e

  by_zero : (f : ℕ) (b : Bool) → StepFollows p held fetch (cond b Ends (ask_after p s f r80)) (cond b Ends (ask u (plain_shape f)))
  by_zero f true = tt
  by_zero f false = by_return f r80 refl

  by_row : (f : ℕ) (b : Bool) → StepFollows p held fetch (cond b (cond (f == 0) Ends (ask_after p s f r80)) (Stops P9)) (cond (f == 0) Ends (ask u (plain_shape f)))
  by_row f true = by_zero f (f == 0)
  by_row f false = tt

  by_number : (o : Option ℕ) → num_of s.regs.c ≡ o → StepFollows p held fetch (call_by p s r80 o) (call_system u)
  by_number None e = tt
  by_number (Some f) e =
      subst (λ k. StepFollows p held fetch (call_by p s r80 (Some f)) (cond (k == 0) Ends (ask u (plain_shape k)))) (sym (num_is s.regs.c f u.regs.c d.regs.c e))
      (by_row f (is_some (row_of f)))

  pub system_follows : StepFollows p held fetch (call_system80 p s r80) (call_system u)
  system_follows = by_number (num_of s.regs.c) refl
