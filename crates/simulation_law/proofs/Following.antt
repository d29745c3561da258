-- A text that matches its program, from the start on.
use Rattle.std.proofs.Common.{◌≡◌, ℕ, zero, suc, ◌+◌, ◌-◌, ◌/◌, ◌%◌, ◌≤◌, ◌<◌, ◌==◌, nat_le, nat_lt, ◌&&◌, ◌||◌, Bool, true, false, cond, List, [], ◌∷◌, ◌++◌, Option, Some, None, refl, sym, ap, subst, ◌∙◌, arith, inl, inr}
use Rattle.std.specs.Prelude.{All, unwrap_or, slice_index, filter_map}
use Rattle.std.specs.List.{list_any}
use Rattle.std.proofs.lemmas.Bool.Decides.{nat_tests}
use Rattle.std.proofs.lemmas.List.Elements.{All-head, All-tail}
use Rattle.cells.specs.declared.Place.{Place}
use Rattle.cells.specs.declared.Place.TheVariants.{At, Exit}
use Rattle.cells.specs.declared.Rule.{Rule}
use Rattle.cells.specs.declared.Part.{Part}
use Rattle.cells.specs.declared.Part.TheVariants.{A, B, C, D, E, H, L, S, Z, Ac, P, Cy}
use Rattle.i80.specs.declared.Reg.{Reg}
use Rattle.i80.specs.declared.Reg.TheVariants.{A as RegA, B as RegB, C as RegC, D as RegD, E as RegE, H as RegH, L as RegL}
use Rattle.i86.specs.declared.Reg8.{Reg8}
use Rattle.i86.specs.declared.Reg8.TheVariants.{Al, Cl, Dl, Bl, Ah, Ch, Dh, Bh}
use Rattle.i86.specs.declared.Instr86.{Instr86}
use Rattle.i86.specs.Code.{ReadsCode}
use Rattle.dialogue.specs.declared.blocks.Block.{Block as ReplyBlock}
use Rattle.dialogue.specs.declared.request.Reply.{Reply}
use Rattle.dialogue.specs.declared.request.Event.{Event}
use Rattle.dialogue.specs.Fits.{fits_event}
use Rattle.dialogue.specs.Run.{Answer, Ran, Asks, Ends, Stops, Machine, Status, Going, Waiting, Over, Stopped, Run, take_reply, settle, turn_by, turn, turns, start_run, IsNotStopped, choice_at}
use Rattle.dialogue.specs.Same.{SameDialogue}
use Rattle.dialogue.proofs.Turns.{IsStill, still_turns}
use Rattle.asm86_line_types.specs.declared.line.Label.{Label}
use Rattle.asm86_line_types.specs.declared.line.Label.TheVariants.{End}
use Rattle.asm86_line_types.specs.declared.line.Line86.{Line86}
use Rattle.asm86_line_types.specs.Layout.{offset_of, place_of}
use Rattle.asm86_line_types.specs.Image.{image_of, statements}
use Rattle.asm80_types.proofs.Standing.{held_taken, datum_found}
use Rattle.asm80_types.specs.Program.{Program, IsProgram, is_start, is_top, cell_at, IsDatum}
use Rattle.asm80_types.specs.Taken.{takes, place_placed, place_in_cell}
use Rattle.cells.specs.declared.Cell.{Cell}
use Rattle.cells.specs.declared.Cell.TheVariants.{Num, Lo, Hi, Psw, Junk}
use Rattle.cpu80_tagged.specs.State.{State80}
use Rattle.cpu80_tagged.specs.Step.{machine80}
use Rattle.cpu80_tagged.specs.Start.{IsPage, cell_or_junk, start_cell80, start80, run80}
use Rattle.cpu86.specs.State.{State86, reg8}
use Rattle.cpu86.specs.Call.{Stop}
use Rattle.cpu86.specs.Step.{machine86}
use Rattle.dialogue.specs.Fill.{IsFill}
use Rattle.cpu86.specs.Start.{Start, IsStart, start_byte, start86, run86}
use Rattle.sym_block_def.specs.BlockMatch.{Keeps, block_reason}
use Rattle.simulation_def.specs.States.{IsCell, IsState80}
use Rattle.simulation_def.specs.Runs86.{offsets_of}
use Rattle.simulation_def.specs.Linked.{HasBlock, HasBlockAt, StandsIn, places, Linked, Paired, linked, ended, waiting}
use Rattle.sym_sound.proofs.Machine86.Positions.{offsets_are, offset_within}
use Rattle.simulation_law.specs.Linking.{BlocksAreBytes, WriteBytes, BlocksMatch, BlocksAreLinked}
use Rattle.simulation_law.proofs.Running.{moved, run_turns}
use Rattle.simulation_law.proofs.Standing.{StatesStand, are_linked}
use Rattle.simulation_law.proofs.Linked.{end_label}
use Rattle.simulation_def.specs.Matches.{blocks_reason}
use Rattle.simulation_def.specs.Same.{Same}
use Rattle.dialogue.specs.Replies.{IsReplyBlock, IsReply}
use Rattle.simulation_law.specs.Laws.{IsMatch, IsFollowed, BlocksFollow, MatchesIsSame}
use Rattle.simulation_law.proofs.Opening.{s7, segments, label, opens}
use Rattle.simulation_law.proofs.Memory.{image_cells, opened_bytes, start_stands}
use Rattle.simulation_law.proofs.FollowBlocks.{Block, At as Reached, blocks_follow, blocks_same}
use Rattle.simulation_def.proofs.Reasons.{no_reason}

-- every block of the cut matches

each_matches : (p : Program) (lines : List Line86) (keeps : Keeps) (cut : List (ℕ × ℕ)) → blocks_reason p (statements lines) keeps cut ≡ None → (first count : ℕ) → HasBlock cut first count → block_reason p (statements lines) keeps first count ≡ None
each_matches p lines keeps [] h first count has = absurd has
each_matches p lines keeps (b ∷ bs) h first count (inl is) =
    let e = no_reason b.0 (block_reason p (statements lines) keeps b.0 b.1) (blocks_reason p (statements lines) keeps bs) h in
    subst (λ n. block_reason p (statements lines) keeps n count ≡ None) is.0 (subst (λ n. block_reason p (statements lines) keeps b.0 n ≡ None) is.1 e.0)
each_matches p lines keeps (b ∷ bs) h first count (inr has) =
    let e = no_reason b.0 (block_reason p (statements lines) keeps b.0 b.1) (blocks_reason p (statements lines) keeps bs) h in
    each_matches p lines keeps bs e.1 first count has

blocks_match : (p : Program) (lines : List Line86) (cut : List (ℕ × ℕ)) (keeps : Keeps) → IsMatch p lines cut keeps → BlocksMatch p lines cut keeps
blocks_match p lines cut keeps m = record {
  program = m.program;
  assembles = m.assembles;
  coded = m.coded;
  runtime = m.matches.runtime;
  is_cut = m.is_cut;
  returns = m.returns;
  match = each_matches p lines keeps cut m.matches.blocks;
}

-- the replies that are left

left_bytes : {S X : Type 0} → (m : Machine S X) (cs : List ℕ) (n : ℕ) (r : Run S X) → WriteBytes r.replies → WriteBytes (turns m cs n r).replies
left_bytes m cs zero r h = h
left_bytes {S} {X} m cs (suc n) r h = left_bytes m cs n (turn m cs r) (by_status r.status)
  where
    by_reply : (r' : Run S X) (e : Event) (ys : List Reply) → WriteBytes r'.replies → WriteBytes ys → WriteBytes (take_reply m cs r' e ys).replies
    by_reply r' e [] h g = h
    by_reply r' e (y ∷ ys) h g = by_fit (fits_event e y)
      where
        by_fit : (b : Bool) → WriteBytes (cond b (record r' { state = m.replied r'.state e y (choice_at cs r'.used); replies = ys; used = suc r'.used }) (record r' { status = Waiting })).replies
        by_fit true = g.1
        by_fit false = h

    by_answer : (a : Answer S X) → WriteBytes (settle m cs r a).replies
    by_answer (Ran s) = h
    by_answer (Asks e s) = by_reply (record r { state = s; dialogue = r.dialogue ++ e ∷ []; used = suc r.used }) e r.replies h h
    by_answer Ends = h
    by_answer (Stops x) = h

    by_status : (st : Status X) → WriteBytes (turn_by m cs r st).replies
    by_status Going = by_answer (m.step r.state (choice_at cs r.used))
    by_status Waiting = h
    by_status Over = h
    by_status (Stopped x) = h

pub block_bytes : (bs : List ReplyBlock) → All IsReplyBlock bs → BlocksAreBytes bs
block_bytes [] h = tt
block_bytes (b ∷ bs) h = ((All-head IsReplyBlock b bs h).bytes, block_bytes bs (All-tail IsReplyBlock b bs h))

reply_bytes : (ys : List Reply) → All IsReply ys → WriteBytes ys
reply_bytes [] h = tt
reply_bytes (y ∷ ys) h = (block_bytes y.writes (All-head IsReply y ys h).writes, reply_bytes ys (All-tail IsReply y ys h))

-- the cells of a program at the start

any_last : (a : ℕ) (xs ys : List ℕ) → list_any (λ b. b == a) ys ≡ true → list_any (λ b. b == a) (xs ++ ys) ≡ true
any_last a [] ys h = h
any_last a (x ∷ xs) ys h = or_right (x == a) (any_last a xs ys h)
  where
    or_right : (b : Bool) → list_any (λ b. b == a) (xs ++ ys) ≡ true → (b || list_any (λ b. b == a) (xs ++ ys)) ≡ true
    or_right true e = refl
    or_right false e = e

small_at : (xs : List ℕ) (i : ℕ) → All (λ b. b < 256) xs → slice_index xs i < 256
small_at [] i h = omega arith
small_at (x ∷ xs) zero h = All-head (λ b. b < 256) x xs h
small_at (x ∷ xs) (suc i) h = small_at xs i (All-tail (λ b. b < 256) x xs h)

module _ (p : Program) (is : IsProgram p) where
  taken_by : (a q : ℕ) → cell_at p a ≡ Some (Lo (At q)) → takes p q ≡ true
  taken_by a q h = any_last q (filter_map place_placed p.instrs) (filter_map place_in_cell p.cells) (held_taken p.cells a q h)

  datum_cell : (a : ℕ) (v : Cell) → cell_at p a ≡ Some v → IsDatum p a v → IsCell p v
  datum_cell a (Num n) e d = d
  datum_cell a (Lo (At q)) e d = (d.0, taken_by a q e)
  datum_cell a (Lo Exit) e d = absurd d
  datum_cell a (Hi (At q)) e d = (d.0, taken_by (a - 1) q d.2)
  datum_cell a (Hi Exit) e d = absurd d
  datum_cell a (Psw f) e d = absurd d
  datum_cell a Junk e d = absurd d

  data_cells : (a : ℕ) → IsCell p (cell_or_junk (cell_at p a))
  data_cells a = by_cell (cell_at p a) refl
    where
      by_cell : (o : Option Cell) → cell_at p a ≡ o → IsCell p (cell_or_junk o)
      by_cell None e = tt
      by_cell (Some v) e = datum_cell a v e (datum_found p a v p.cells is.values e)

  top_low : 0x1000 ≤ p.top
  top_low = top_is p.top is.top
    where
      top_is : (t : ℕ) → is_top t ≡ true → 0x1000 ≤ t
      top_is t h = grind (arith, nat_tests)

  top_high : p.top ≤ 0xFF00
  top_high = top_is p.top is.top
    where
      top_is : (t : ℕ) → is_top t ≡ true → t ≤ 0xFF00
      top_is t h = grind (arith, nat_tests)

  module _ (page : List ℕ) (is_page : IsPage page) where
    start_cells : (a : ℕ) → IsCell p (start_cell80 p page a)
    start_cells a = by_six (a == 6)
      where
        by_high : (b : Bool) → IsCell p (cond b (Hi Exit) (cell_or_junk (cell_at p a)))
        by_high true = tt
        by_high false = data_cells a

        by_low : (b : Bool) → IsCell p (cond b (Lo Exit) (cond (a == p.top - 1) (Hi Exit) (cell_or_junk (cell_at p a))))
        by_low true = tt
        by_low false = by_high (a == p.top - 1)

        by_page : (b : Bool) → IsCell p (cond b (Num (slice_index page (a - 0x5C))) (cond (a == p.top - 2) (Lo Exit) (cond (a == p.top - 1) (Hi Exit) (cell_or_junk (cell_at p a)))))
        by_page true = small_at page (a - 0x5C) is_page.bytes
        by_page false = by_low (a == p.top - 2)

        by_seven : (b : Bool) → IsCell p (cond b (Num (p.top / 256)) (cond (nat_le 0x5C a && nat_lt a 0x100) (Num (slice_index page (a - 0x5C))) (cond (a == p.top - 2) (Lo Exit) (cond (a == p.top - 1) (Hi Exit) (cell_or_junk (cell_at p a))))))
        by_seven true = let high = top_high in omega (arith, high)
        by_seven false = by_page (nat_le 0x5C a && nat_lt a 0x100)

        by_six : (b : Bool) → IsCell p (cond b (Num (p.top % 256)) (cond (a == 7) (Num (p.top / 256)) (cond (nat_le 0x5C a && nat_lt a 0x100) (Num (slice_index page (a - 0x5C))) (cond (a == p.top - 2) (Lo Exit) (cond (a == p.top - 1) (Hi Exit) (cell_or_junk (cell_at p a)))))))
        by_six true = omega arith
        by_six false = by_seven (a == 7)

    junk_cells : (r : Reg) → IsCell p (Rattle.cpu80_tagged.specs.State.reg80 Rattle.cpu80_tagged.specs.State.junk_regs r)
    junk_cells RegA = tt
    junk_cells RegB = tt
    junk_cells RegC = tt
    junk_cells RegD = tt
    junk_cells RegE = tt
    junk_cells RegH = tt
    junk_cells RegL = tt

    pub state80 : IsState80 p (start80 p page)
    state80 = record { regs = junk_cells; mem = λ a o. start_cells a; sp = let high = top_high in omega (arith, high) }

start_bytes : (fill page : List ℕ) → IsFill fill → IsPage page → (a : ℕ) → start_byte fill page a < 256
start_bytes fill page f g a = by_page (nat_le 0x5C a && nat_lt a 0x100)
  where
    by_page : (b : Bool) → cond b (slice_index page (a - 0x5C)) (slice_index fill a) < 256
    by_page true = small_at page (a - 0x5C) g.bytes
    by_page false = small_at fill a f.bytes

module _ (law : BlocksAreLinked) (p : Program) (lines : List Line86) (cut : List (ℕ × ℕ)) (keeps : Keeps) (fetch : ℕ → Option Instr86) (choices : List ℕ) (m : IsMatch p lines cut keeps) (reads : ReadsCode (image_of lines).code fetch) where
  abbrev offset : Label → Option ℕ
  offset = offsets_of lines

  abbrev M80 : Machine State80 Rule
  M80 = machine80 p

  abbrev M86 : Machine State86 Stop
  M86 = machine86 fetch

  -- runs that are paired, where replies write bytes
  abbrev Link : Run State80 Rule → Run State86 Stop → Type 0
  Link x y = Paired p offset cut keeps x y × WriteBytes x.replies

  link_same : (x : Run State80 Rule) (y : Run State86 Stop) → Link x y → x.dialogue ≡ y.dialogue
  link_same x y (linked l, b) = sym l.dialogue
  link_same x y (ended i j d, b) = sym d
  link_same x y (waiting i j d, b) = sym d

  link_going : (x : Run State80 Rule) (y : Run State86 Stop) → Link x y → IsNotStopped y.status
  link_going x y (linked l, b) = subst IsNotStopped (sym l.going86) tt
  link_going x y (ended i j d, b) = subst IsNotStopped (sym j) tt
  link_going x y (waiting i j d, b) = subst IsNotStopped (sym j) tt

  abbrev OneBlock : Run State80 Rule → Run State86 Stop → Type 0
  OneBlock x y = Block M80 M86 choices Link link_same link_going x y

  set : BlocksMatch p lines cut keeps
  set = blocks_match p lines cut keeps m

  sized : (q : Place) (count : ℕ) → HasBlockAt cut q count → (1 ≤ count) × (count ≤ 16)
  sized (At a) count has = let b = m.is_cut.blocks a count has in (b.some, b.few)
  sized Exit count one = (omega (arith, one), omega (arith, one))

  -- a block of the cut, or EXIT
  linked_block : (x : Run State80 Rule) (y : Run State86 Stop) → Linked p offset cut keeps x y → WriteBytes x.replies → OneBlock x y
  linked_block x y l bytes =
      let b = law p lines cut keeps fetch choices l.first.0 x y set reads l.first.1 l bytes in
      let size = sized x.state.place l.first.0 l.first.1 in
      record {
        k = l.first.0;
        j = b.turns86;
        some = size.0;
        few = size.1;
        some' = b.some;
        few' = b.few;
        quiet = b.quiet;
        paired = λ h. (b.paired h, left_bytes M80 [] l.first.0 x bytes);
      }

  -- runs that have ended, or wait, stay as they are
  still_block : (x : Run State80 Rule) (y : Run State86 Stop) → IsStill x.status → IsStill y.status → Link x y → OneBlock x y
  still_block x y i j l = record {
    k = 1;
    j = 1;
    some = omega arith;
    few = omega arith;
    some' = omega arith;
    few' = omega arith;
    quiet = λ n lt. let e : n ≡ 0 = omega (arith, lt) in ap (λ z. (turns M80 [] z x).dialogue) e;
    paired = λ h. subst (λ z. Link z (turns M86 choices 1 y)) (sym (still_turns M80 [] 1 x i)) (subst (λ z. Link x z) (sym (still_turns M86 choices 1 y j)) l);
  }

  block : (x : Run State80 Rule) (y : Run State86 Stop) → Link x y → OneBlock x y
  block x y (linked l, b) = linked_block x y l b
  block x y (ended i j d, b) = still_block x y (subst IsStill (sym i) tt) (subst IsStill (sym j) tt) (ended i j d, b)
  block x y (waiting i j d, b) = still_block x y (subst IsStill (sym i) tt) (subst IsStill (sym j) tt) (waiting i j d, b)

  -- the start

  module _ (page fill : List ℕ) (start : Start) (replies : List Reply) (is_page : IsPage page) (is_fill : IsFill fill) (is_start : IsStart start) (are_replies : All IsReply replies) where
    abbrev s0 : State86
    s0 = start86 (image_of lines) page fill start

    abbrev x0 : Run State80 Rule
    x0 = start_run (start80 p page) replies

    abbrev y0 : Run State86 Stop
    y0 = start_run s0 replies

    abbrev t : State86
    t = s7 p lines m.assembles fetch reads m.matches.opening choices s0 refl

    opened_turns : (k : ℕ) × (turns M86 choices 7 y0 ≡ moved M86 choices y0 t k)
    opened_turns = run_turns M86 choices 7 y0 t refl (opens p lines m.assembles fetch reads m.matches.opening choices s0 refl)

    last : (k : ℕ) × (offsets_of lines End ≡ Some k) × (k < 0x10000)
    last = end_label p lines cut keeps set

    places_small : (l : Label) → place_of (statements lines) l < 0x10000
    places_small l = by_offset (offset_of (statements lines) l) refl
      where
        by_offset : (o : Option ℕ) → offset_of (statements lines) l ≡ o → unwrap_or o 0 < 0x10000
        by_offset None e = omega arith
        by_offset (Some n) e = offset_within (statements lines) l n m.assembles.small e

    last_is : places offset Exit ≡ Some (place_of (statements lines) End)
    last_is = offsets_are lines End ∙ by_offset (offset_of (statements lines) End) refl (sym (offsets_are lines End) ∙ last.1)
      where
        by_offset : (o : Option ℕ) → offset_of (statements lines) End ≡ o → offset_of (statements lines) End ≡ Some last.0 → offset_of (statements lines) End ≡ Some (unwrap_or o 0)
        by_offset None e h = let differ : None ≡ Some last.0 = sym e ∙ h in absurd (cc)
        by_offset (Some n) e h = e

    half_low : (w : ℕ) → w % 256 < 256
    half_low w = omega arith

    half_high : (w : ℕ) → w < 0x10000 → w / 256 < 256
    half_high w h = omega (arith, h)

    regs86 : (r : Reg8) → reg8 t.regs r < 256
    regs86 Al = half_low start.ds
    regs86 Ah = half_high start.ds is_start.ds
    regs86 Cl = half_low start.cx
    regs86 Ch = half_high start.cx is_start.cx
    regs86 Dl = half_low start.dx
    regs86 Dh = half_high start.dx is_start.dx
    regs86 Bl = half_low start.bx
    regs86 Bh = half_high start.bx is_start.bx

    junk_parts : (q : Part) → StandsIn (places offset) (start80 p page) t q
    junk_parts A = regs86 Al
    junk_parts B = regs86 Ch
    junk_parts C = regs86 Cl
    junk_parts D = regs86 Dh
    junk_parts E = regs86 Dl
    junk_parts H = regs86 Bh
    junk_parts L = regs86 Bl
    junk_parts S = tt
    junk_parts Z = tt
    junk_parts Ac = tt
    junk_parts P = tt
    junk_parts Cy = tt

    stands : StatesStand p offset cut keeps (start80 p page) t
    stands =
        let low = top_low p m.program in
        let high = top_high p m.program in
        let cells = image_cells (place_of (statements lines)) places_small (statements lines) m.assembles.order m.data_coded in
        let bytes = start_bytes fill page is_fill is_page in
        let memory = opened_bytes p low high (places offset) (place_of (statements lines) End) last_is (image_of lines).cells cells m.matches.cells fill page bytes (places_small End) in
        record {
          first = m.is_cut.begins;
          at_label = label p lines m.assembles fetch reads m.matches.opening choices s0 refl;
          segments = segments p lines m.assembles fetch reads m.matches.opening choices s0 refl;
          sp = omega (arith, low, high);
          parts = λ q h. junk_parts q;
          memory = record {
            cells = λ a lt o. start_stands p low high (places offset) (place_of (statements lines) End) last_is (image_of lines).cells cells m.matches.cells fill page bytes (places_small End) a lt;
            bytes = memory;
          };
          state80 = state80 p m.program page is_page;
          state86 = record { regs = regs86; mem = memory; sp = omega arith; si = places_small End; ds = is_start.ds };
          dma = refl;
        }

    begins : Link x0 (turns M86 choices 7 y0)
    begins =
        (subst (λ z. Paired p offset cut keeps x0 z) (sym opened_turns.1) (linked (are_linked p offset cut keeps x0 (moved M86 choices y0 t opened_turns.0) refl refl stands refl refl)), reply_bytes replies are_replies)

    pub same_dialogue : SameDialogue State80 Rule State86 Stop (run80 p page replies) (run86 fetch (image_of lines) page fill start choices replies)
    same_dialogue = blocks_same M80 M86 choices Link link_same link_going block x0 y0 7 (omega arith) begins

    pub followed : (n : ℕ) → IsNotStopped (run80 p page replies n).status → IsFollowed p lines cut keeps fetch page fill start choices replies n
    followed n h =
        let a : Reached M80 M86 choices Link link_same link_going n x0 (turns M86 choices 7 y0) = blocks_follow M80 M86 choices Link link_same link_going block n n x0 (turns M86 choices 7 y0) (omega arith) begins h in
        let slow = a.slow in
        let fast = a.fast in
        record {
          turns80 = a.n0;
          turns86 = 7 + a.m0;
          low = a.low;
          high = a.high;
          slow = omega (arith, slow);
          fast = omega (arith, fast);
          paired = subst (λ z. Paired p offset cut keeps (turns M80 [] a.n0 x0) z) (sym (Rattle.dialogue.proofs.Turns.turns_add M86 choices 7 a.m0 y0)) a.paired.0;
          said = a.said;
        }

pub blocks_are_followed : BlocksAreLinked → BlocksFollow
blocks_are_followed law p lines cut keeps fetch page fill start choices replies n m reads is_page is_fill is_start are_choices are_replies h =
    followed law p lines cut keeps fetch choices m reads page fill start replies is_page is_fill is_start are_replies n h

pub matches_same : BlocksAreLinked → MatchesIsSame
unfolding Same
matches_same law p lines cut keeps m fetch page fill start choices replies reads is_page is_fill is_start are_choices are_replies =
    same_dialogue law p lines cut keeps fetch choices m reads page fill start replies is_page is_fill is_start are_replies
