-- The ways out of a block, one by one: what the 8080's last step answers, and where the 8086 comes to.
use Rattle.std.proofs.Common.{◌≡◌, ◌≢◌, ℕ, ◌+◌, ◌*◌, ◌≤◌, ◌<◌, true, false, [], length, Option, Some, Result, Ok, refl, sym, ap, subst, ◌∙◌, arith, ◌⊎◌, inl, inr}
use Rattle.std.proofs.lemmas.Bool.{and_parts, ltb-true}
use Rattle.cells.specs.declared.Place.{Place}
use Rattle.cells.specs.declared.Place.TheVariants.{At, Exit as EndPlace}
use Rattle.cells.specs.declared.Cell.{Cell}
use Rattle.cells.specs.declared.Cell.TheVariants.{Num, Lo, Hi}
use Rattle.cells.specs.declared.Rule.{Rule}
use Rattle.cells.specs.declared.Part.{Part}
use Rattle.cells.specs.declared.Part.TheVariants.{A, B, C, D, E, H, L, S, Z, Ac, P, Cy}
use Rattle.cells.specs.Parts.{has}
use Rattle.i80.specs.declared.Reg.{Reg}
use Rattle.i80.specs.declared.Reg.TheVariants.{A as RegA, B as RegB, C as RegC, D as RegD, E as RegE, H as RegH, L as RegL}
use Rattle.i86.specs.declared.Reg8.{Reg8}
use Rattle.i86.specs.declared.Reg8.TheVariants.{Al, Cl, Dl, Bl, Ah, Ch, Dh, Bh}
use Rattle.i86.specs.Code.{ReadsCode}
use Rattle.dialogue.specs.declared.request.Reply.{Reply}
use Rattle.dialogue.specs.declared.request.Request.{Request}
use Rattle.dialogue.specs.declared.request.Event.{Event}
use Rattle.dialogue.specs.declared.request.Event.TheVariants.{Call as CallEvent, In as AskedIn, Out as AskedOut}
use Rattle.dialogue.specs.Fits.{fits_event, writes_nothing}
use Rattle.dialogue.specs.Shape.{request_of}
use Rattle.dialogue.specs.Run.{Answer, Ran, Asks, Ends, Stops, Machine, Run, Going, settle}
use Rattle.asm86_line_types.specs.declared.line.Label.{Label}
use Rattle.asm86_line_types.specs.declared.line.Label.TheVariants.{End as EndLabel}
use Rattle.asm86_line_types.specs.Image.{image_of}
use Rattle.cpu80_tagged.specs.State.{State80, num_of, with_a}
use Rattle.cpu80_tagged.specs.Memory.{put as put80}
use Rattle.cpu80_tagged.specs.Effect.{push as push80}
use Rattle.cpu80_tagged.specs.Call.{Return, seen_by_tagged, call_system, is_place, place_if, after_reply}
use Rattle.cpu80_tagged.specs.Step.{leave_to, replied_to, replied80, return_at, machine80}
use Rattle.cpu86.specs.State.{State86, put_word, back as below}
use Rattle.cpu86.specs.Call.{Stop, spoiled, call_system as call_system86, after_reply as after_reply86, replied86}
use Rattle.cpu86.specs.Step.{step86, machine86}
use Rattle.sym_terms.specs.Term.{Term}
use Rattle.sym_terms.specs.Values80.{Env80}
use Rattle.sym_terms.specs.Values86.{Env86}
use Rattle.sym_block_def.specs.Outcome.{ByTerms, In, Out}
use Rattle.sym_block_def.specs.Agree.{agrees}
use Rattle.sym_block_def.specs.BlockMatch.{kept_at, kept_after_way}
use Rattle.sym_block_def.specs.Sorts.{WayIsSorted}
use Rattle.sym_block_def.specs.Stands.{label_of, Stands}
use Rattle.simulation_def.specs.Steps.{RunsOn}
use Rattle.simulation_def.specs.States.{IsCell, IsHeldPlace, IsState80, IsState86}
use Rattle.simulation_def.specs.Runs80.{GoesByPair80, GoesByReturn80, going_on}
use Rattle.simulation_def.specs.Runs86.{offsets_of, ComesBackTo, GoesOnAt, StandsAtLabel, Called, GoesByPair86, GoesByReturn86}
use Rattle.simulation_def.specs.Runtime.{CallsSystem, EndsAfter, RuntimeRuns, RuntimesRun86, answers_moved}
use Rattle.simulation_def.specs.Linked.{IsFirstOf, StandsIn, places}
use Rattle.dialogue.specs.Sight.{WhoSeesMoreAsksTheSame}
use Rattle.dialogue.specs.Words.{word, wrap}
use Rattle.simulation_law.specs.Linked.{EnvsStand, AgreeingTermsStand}
use Rattle.simulation_law.specs.Replayed.{MemoryStands}
use Rattle.simulation_law.proofs.Replaying.{put_word_stands}
use Rattle.sym_sound.proofs.Machine80.Answering.{read_word_is}
use Rattle.sym_sound.proofs.Machine80.Denoting.{cell_put}
use Rattle.simulation_law.specs.Linking.{BlocksAreBytes, WriteBytes, BlocksMatch}
use Rattle.simulation_law.proofs.Exits.{ComesBack}
use Rattle.simulation_law.proofs.Asking.{AsksSystem, CallsSystem80, leaves, resets, asking, calls_80, number_stands, IsSight, CallStands, asks_same, reply_fits}
use Rattle.simulation_law.proofs.Pushing.{wrapped, push_is}
use Rattle.simulation_law.proofs.Replying.{moved_bytes, memory_after, state80_after, state86_after, moved_parts, IsNotLost, direct_parts}
use Rattle.simulation_law.proofs.Standing.{StatesStand, parts_on, halves_place, place_halves, as_many, not_next80, not_next86}
use Rattle.simulation_law.proofs.Going.{Beside, Follows, Lands, here, ran_follows, ends_follow, asks_follow}
use Rattle.simulation_law.proofs.System.{OneStack, AtSystem, going_is, spoil_sight}

-- The match of a text with its program, and the laws by which both machines go on from the end of a block of so many instructions.
pub record Matched : Type 0 where
  pub beside : Beside
  pub terms : AgreeingTermsStand
  pub same : WhoSeesMoreAsksTheSame
  pub runtimes : RuntimesRun86
  pub reads : ReadsCode (image_of beside.lines).code beside.fetch
  pub set : BlocksMatch beside.p beside.lines beside.cut beside.keeps
  pub count : ℕ
  pub some_count : 1 ≤ count

module _ (matched : Matched) where
  open matched use {beside, terms, same, runtimes, reads, set, count, some_count}
  open matched.beside use {p, lines, cut, keeps, fetch, choices}

  abbrev offset : Label → Option ℕ
  offset = offsets_of lines

  abbrev M80 : Machine State80 Rule
  M80 = machine80 p

  abbrev M86 : Machine State86 Stop
  M86 = machine86 fetch

  -- Both machines have run the block: `x` is the 8080 before its last turn, whose terms have the values of `t`; the 8086 was at `y`,
  -- has the values of `u`, and has taken so many steps to `w`.
  pub record Ended : Type 0 where
    pub x : Run State80 Rule
    pub y : Run State86 Stop
    pub t : State80
    pub u : State86
    pub w : State86
    pub steps : ℕ
    pub few : steps ≤ 10 * count
    pub going80 : x.status ≡ Going
    pub going86 : y.status ≡ Going
    pub dialogue : y.dialogue ≡ x.dialogue
    pub replies : y.replies ≡ x.replies
    pub bytes : WriteBytes x.replies
    pub runs : RunsOn M86 choices steps y.used y.state w
    pub is80 : IsState80 p t
    pub is86 : IsState86 u
    pub memory : MemoryStands p (places offset) t.mem u.mem
    pub segments : u.ss ≡ u.ds
    pub dma : u.dma ≡ t.dma

  module _ (n : Ended) where
    open n use {x, y, t, u, w, steps, few}

    abbrev Then : Answer State80 Rule → Type 0
    Then a = Follows beside (16 * count) (settle M80 [] x a) y

    ran : (t' : State80) → StatesStand p offset cut keeps t' w → 1 ≤ steps → Then (Ran t')
    ran t' s some = ran_follows beside (16 * count) x y n.going80 n.going86 n.dialogue n.replies steps w n.runs t' s some (omega (arith, few))

    used : ℕ
    used = (here beside (16 * count) x y n.going80 n.going86 n.dialogue n.replies steps w n.runs).0

    abbrev pub one_stack : u.sp ≡ t.sp → OneStack
    one_stack sp = record {
      p = p;
      cut = cut;
      is_cut = set.is_cut;
      offset = offset;
      t = t;
      u = u;
      is80 = n.is80;
      is86 = n.is86;
      segments = n.segments;
      sp = sp;
      memory = n.memory;
    }

    -- the 8080 leaves the profile
    stops : (r : Rule) → Then (Stops r)
    stops r = record { count = 1; some = omega arith; few = omega (arith, some_count); paired = λ h. absurd h }

    ends_after : (more : ℕ) → EndsAfter fetch choices used more w → steps + (more + 1) ≤ 16 * count → Then Ends
    unfolding used
    ends_after more e room = ends_follow beside (16 * count) x y n.going80 n.going86 n.dialogue n.replies steps w n.runs more e room

    -- the 8086 at X_END
    ends : offset EndLabel ≡ Some w.ip → IsState86 w → w.ss ≡ w.ds → Then Ends
    ends at is seg = ends_after 2 ((runtimes lines fetch choices used w set.assembles reads set.runtime is seg).ends at) (omega (arith, few, some_count))

    -- at a place
    stand_at : (q : Place) (ip s : ℕ) → IsFirstOf cut q → places offset q ≡ Some ip → s < 0x10000 → ((r : Part) → has (kept_at keeps q) r ≡ true → StandsIn (places offset) t u r) → StatesStand p offset cut keeps (record t { place = q; sp = s }) (record u { ip = ip; sp = s })
    stand_at q ip s first at lt parts = record {
      first = first;
      at_label = at;
      segments = n.segments;
      sp = refl;
      parts = λ r h. parts_on (places offset) t (record t { place = q; sp = s }) u (record u { ip = ip; sp = s }) refl refl refl refl r (parts r h);
      memory = n.memory;
      state80 = record { regs = n.is80.regs; mem = n.is80.mem; sp = lt };
      state86 = record { regs = n.is86.regs; mem = n.is86.mem; sp = lt; si = n.is86.si; ds = n.is86.ds };
      dma = n.dma;
    }

    pub goto : (q : Place) → IsFirstOf cut q → StandsAtLabel offset (label_of q) u w → u.sp ≡ t.sp → ((r : Part) → has (kept_at keeps q) r ≡ true → StandsIn (places offset) t u r) → 1 ≤ steps → Then (Ran (record t { place = q }))
    goto q first at sp parts some =
        ran (record t { place = q })
        (subst (λ z. StatesStand p offset cut keeps (record t { place = q }) z) (ap (λ s. record u { ip = at.0; sp = s }) (sym sp) ∙ sym at.2) (stand_at q at.0 t.sp first at.1 n.is80.sp parts)) some

    pub boot : StandsAtLabel offset EndLabel u w → Then Ends
    boot at =
        ends (subst (λ (z : State86). offset EndLabel ≡ Some z.ip) (sym at.2) at.1)
        (subst IsState86 (sym at.2) (record { regs = n.is86.regs; mem = n.is86.mem; sp = n.is86.sp; si = n.is86.si; ds = n.is86.ds }))
        (subst (λ (z : State86). z.ss ≡ z.ds) (sym at.2) n.segments)

    -- to a place that is held; a return to the end ends the program
    leave : (q : Place) (ip s : ℕ) → IsHeldPlace p q → places offset q ≡ Some ip → s < 0x10000 → w ≡ record u { ip = ip; sp = s } → ((r : Part) → has keeps.returned r ≡ true → StandsIn (places offset) t u r) → 1 ≤ steps → Then (leave_to t s q)
    leave (At a) ip s held at lt is parts some =
        ran (record t { place = At a; sp = s })
        (subst (λ z. StatesStand p offset cut keeps (record t { place = At a; sp = s }) z) (sym is)
        (stand_at (At a) ip s (set.is_cut.taken a held.0 held.1) at lt (λ r h. parts r (set.returns a r held.0 held.1 h)))) some
    leave EndPlace ip s held at lt is parts some =
        ends (subst (λ (z : State86). offset EndLabel ≡ Some z.ip) (sym is) at)
        (subst IsState86 (sym is) (record { regs = n.is86.regs; mem = n.is86.mem; sp = lt; si = n.is86.si; ds = n.is86.ds }))
        (subst (λ (z : State86). z.ss ≡ z.ds) (sym is) n.segments)

    -- a place that two bytes name
    module _ (e : Env80) (d : Env86) (envs : EnvsStand (places offset) e d) (sp : u.sp ≡ t.sp) (parts : (r : Part) → has keeps.returned r ≡ true → StandsIn (places offset) t u r) (some : 1 ≤ steps) (h l i j : Term) (sorted : WayIsSorted (ByTerms i j)) (high : agrees h i ≡ true) (low : agrees l j ≡ true) where
      same_loads : length e.loads ≡ length d.loads
      same_loads = sym (as_many (places offset) e.loads d.loads envs.loads)

      pairs : (a : Answer State80 Rule) → GoesByPair80 p e t h l a → GoesByPair86 d u i j w → Then a
      pairs a g k =
          let at = halves_place offset g.place k.high_byte k.low_byte k.high_fits k.low_fits
          (terms.byte (places offset) e d h i (Hi g.place) k.high_byte envs sorted.0 high g.high k.high k.high_fits)
          (terms.byte (places offset) e d l j (Lo g.place) k.low_byte envs sorted.1 low g.low k.low k.low_fits) in
          subst Then (sym g.answers)
          (leave g.place (256 * k.high_byte + k.low_byte) t.sp g.is_held at n.is80.sp (k.leads ∙ ap (λ s. record u { ip = 256 * k.high_byte + k.low_byte; sp = s }) sp) parts some)

      returns : (a : Answer State80 Rule) → GoesByReturn80 p e t h l a → GoesByReturn86 d u i j w → Then a
      returns a g k =
          let r = read_word_is p t t.sp _ n.is80.sp g.loaded in
          let fits = r.0 in
          let next : wrap (u.sp + 1) ≡ t.sp + 1 = omega (arith, sp, fits) in
          let low_cell = subst (λ (c : Cell). Stands (places offset) c (u.mem t.sp)) r.4 (n.memory.cells t.sp n.is80.sp r.1) in
          let high_cell = subst (λ (c : Cell). Stands (places offset) c (u.mem (t.sp + 1))) r.3 (n.memory.cells (t.sp + 1) r.0 r.2) in
          let at = halves_place offset g.place (u.mem (t.sp + 1)) (u.mem t.sp) (n.is86.mem (t.sp + 1)) (n.is86.mem t.sp) high_cell low_cell in
          let word_is : k.word ≡ 256 * u.mem (t.sp + 1) + u.mem t.sp = k.popped ∙ ap (λ z. word (u.mem z) (u.mem u.sp)) next ∙ ap (λ z. word (u.mem (t.sp + 1)) (u.mem z)) sp in
          subst Then (sym g.answers)
          (leave g.place (256 * u.mem (t.sp + 1) + u.mem t.sp) (wrap (t.sp + 2)) g.is_held at (wrapped (t.sp + 2))
          (k.leads ∙ ap (λ z. record u { ip = z; sp = wrap (u.sp + 2) }) word_is ∙ ap (λ s. record u { ip = 256 * u.mem (t.sp + 1) + u.mem t.sp; sp = wrap (s + 2) }) sp) parts some)

      -- a pair on the one side and a return on the other agree in no terms
      pub by_terms : (a : Answer State80 Rule) → GoesByPair80 p e t h l a ⊎ GoesByReturn80 p e t h l a → GoesByPair86 d u i j w ⊎ GoesByReturn86 d u i j w → Then a
      by_terms a (inl g) (inl k) = pairs a g k
      by_terms a (inr g) (inr k) = returns a g k
      by_terms a (inl g) (inr k) =
          absurd (not_next80 e h g.place (length d.loads) (sym same_loads) (subst (λ z. agrees h z ≡ true) k.is_high high) g.high)
      by_terms a (inr g) (inl k) =
          absurd (not_next86 d i k.high_byte (length e.loads) same_loads (subst (λ z. agrees z i ≡ true) g.is_high high) k.high)

    -- a call of an instruction: both push where it comes back
    pub call : (target : Place) (c : ℕ) → IsFirstOf cut target → IsHeldPlace p (At c) → (v : State80) → push80 p t (Hi (At c)) (Lo (At c)) ≡ Ok v → Called offset (ComesBackTo offset (At c)) (label_of target) u w → u.sp ≡ t.sp → ((r : Part) → has (kept_at keeps target) r ≡ true → StandsIn (places offset) t u r) → 1 ≤ steps → Then (Ran (record v { place = target }))
    call target c first held v pushed at sp parts some =
        subst (λ (z : State80). Then (Ran (record z { place = target }))) (sym v_is)
        (ran v80 (subst (λ (z : State86). StatesStand p offset cut keeps v80 z) (sym (at.3.2 ∙ ap (λ s. record u { sp = s; mem = put_word u.mem s at.0; ip = at.3.0 }) same_sp)) (record {
          first = first;
          at_label = at.3.1;
          segments = n.segments;
          sp = refl;
          parts = λ r h. parts_on (places offset) t v80 u u86 refl refl refl refl r (parts r h);
          memory = memory;
          state80 = record { regs = n.is80.regs; mem = λ a o. cell_put p (put80 t.mem k (Lo (At c))) (k + 1) (Hi (At c)) a (cell_put p t.mem k (Lo (At c)) a (n.is80.mem a o) held) held; sp = wrapped (t.sp + 0xFFFE) };
          state86 = record { regs = n.is86.regs; mem = memory.bytes; sp = wrapped (t.sp + 0xFFFE); si = n.is86.si; ds = n.is86.ds };
          dma = n.dma;
        })) some)
      where
        k : ℕ
        k = wrap (t.sp + 0xFFFE)

        fits : k + 1 < 0x10000
        fits = (push_is p t (Hi (At c)) (Lo (At c)) v pushed).0

        v80 : State80
        v80 = record t { sp = k; mem = put80 (put80 t.mem k (Lo (At c))) (k + 1) (Hi (At c)); place = target }

        u86 : State86
        u86 = record u { sp = k; mem = put_word u.mem k at.0; ip = at.3.0 }

        v_is : v ≡ record t { sp = k; mem = put80 (put80 t.mem k (Lo (At c))) (k + 1) (Hi (At c)) }
        v_is = (push_is p t (Hi (At c)) (Lo (At c)) v pushed).1

        same_sp : below u.sp 2 ≡ k
        same_sp = ap (λ s. below s 2) sp

        memory : MemoryStands p (places offset) (put80 (put80 t.mem k (Lo (At c))) (k + 1) (Hi (At c))) (put_word u.mem k at.0)
        memory = put_word_stands p (places offset) t.mem u.mem k (Hi (At c)) (Lo (At c)) at.0 n.memory (place_halves offset (At c) at.0 at.2) at.1 fits

    -- what asks, where the 8086 asks some steps on
    asks : (e : Event) (more : ℕ) (v : State86) (after : ℕ → State86) → RunsOn M86 choices more used w v → ((choice : ℕ) → step86 fetch v choice ≡ Asks e (after choice)) → steps + (more + 1) + 3 ≤ 16 * count → ((answer : Reply) (asked choice later : ℕ) → fits_event e answer ≡ true → BlocksAreBytes answer.writes → Lands beside (16 * count) (replied80 p t e answer) (replied86 (after asked) e answer choice) later) → Then (Asks e t)
    unfolding used
    asks e more v after on step room lands =
        asks_follow beside (16 * count) x y n.going80 n.going86 n.dialogue n.replies steps w n.runs e t more v after on step room n.bytes lands

    -- IN and OUT

    -- the place after one, where it goes on
    next_is : (c : ℕ) → is_place p (At c) ≡ true → return_at p t t.place ≡ going_on p t (At c) → return_at p t t.place ≡ Ok (record { place = At c; sp = t.sp; is_popped = false })
    next_is c start back = back ∙ ap (λ b. Rattle.dialogue.specs.Tried.try_then (place_if b (At c)) (λ q. Ok (record { place = q; sp = t.sp; is_popped = false }))) start

    in_parts : (c ip answer : ℕ) → ((r : Part) → has (kept_after_way keeps (In 0 (At c))) r ≡ true → StandsIn (places offset) t u r) → (r : Part) → has (keeps.at c) r ≡ true → StandsIn (places offset) (record (with_a t (Num answer)) { place = At c }) (record u { regs = record (u.regs) { al = answer }; ip = ip }) r
    in_parts c ip answer parts A h = refl
    in_parts c ip answer parts B h = parts B h
    in_parts c ip answer parts C h = parts C h
    in_parts c ip answer parts D h = parts D h
    in_parts c ip answer parts E h = parts E h
    in_parts c ip answer parts H h = parts H h
    in_parts c ip answer parts L h = parts L h
    in_parts c ip answer parts S h = parts S h
    in_parts c ip answer parts Z h = parts Z h
    in_parts c ip answer parts Ac h = parts Ac h
    in_parts c ip answer parts P h = parts P h
    in_parts c ip answer parts Cy h = parts Cy h

    out_parts : (c : ℕ) → ((r : Part) → has (kept_after_way keeps (Out 0 (At c))) r ≡ true → StandsIn (places offset) t u r) → (r : Part) → has (keeps.at c) r ≡ true → StandsIn (places offset) t u r
    out_parts c parts A h = parts A refl
    out_parts c parts B h = parts B h
    out_parts c parts C h = parts C h
    out_parts c parts D h = parts D h
    out_parts c parts E h = parts E h
    out_parts c parts H h = parts H h
    out_parts c parts L h = parts L h
    out_parts c parts S h = parts S h
    out_parts c parts Z h = parts Z h
    out_parts c parts Ac h = parts Ac h
    out_parts c parts P h = parts P h
    out_parts c parts Cy h = parts Cy h

    pub asks_in : (port c : ℕ) → ComesBack p cut (At c) → is_place p (At c) ≡ true → return_at p t t.place ≡ going_on p t (At c) → (ip : ℕ) → GoesOnAt p offset (At c) ip → ((choice : ℕ) → step86 fetch w choice ≡ Asks (AskedIn port) (record u { ip = ip })) → steps + 1 ≤ 10 * count → u.sp ≡ t.sp → ((r : Part) → has (kept_after_way keeps (In 0 (At c))) r ≡ true → StandsIn (places offset) t u r) → Then (Asks (AskedIn port) t)
    asks_in port c in_cut start back ip goes_on step room sp parts =
        asks (AskedIn port) 0 w (λ choice. record u { ip = ip }) refl step (omega (arith, room, some_count))
        (λ answer asked choice later fit bytes. record {
          more = 0;
          few = omega arith;
          arrived = record u { regs = record (u.regs) { al = answer.answer }; ip = ip };
          runs = refl;
          stand = subst (λ (z : State80). StatesStand p offset cut keeps z (record u { regs = record (u.regs) { al = answer.answer }; ip = ip })) (sym (ap (λ q. replied_to p t q (AskedIn port) answer) (next_is c start back))) (lands answer.answer (small answer fit));
        })
      where
        small : (answer : Reply) → fits_event (AskedIn port) answer ≡ true → answer.answer < 256
        small answer fit = ltb-true answer.answer 256 (and_parts (Rattle.std.specs.Prelude.nat_lt answer.answer 256) (writes_nothing answer.writes) fit).0

        regs80 : (k : ℕ) → k < 256 → (r : Reg) → IsCell p (Rattle.cpu80_tagged.specs.State.reg80 (with_a t (Num k)).regs r)
        regs80 k lt RegA = lt
        regs80 k lt RegB = n.is80.regs RegB
        regs80 k lt RegC = n.is80.regs RegC
        regs80 k lt RegD = n.is80.regs RegD
        regs80 k lt RegE = n.is80.regs RegE
        regs80 k lt RegH = n.is80.regs RegH
        regs80 k lt RegL = n.is80.regs RegL

        regs86 : (k : ℕ) → k < 256 → (r : Reg8) → Rattle.cpu86.specs.State.reg8 (record (u.regs) { al = k }) r < 256
        regs86 k lt Al = lt
        regs86 k lt Ah = n.is86.regs Ah
        regs86 k lt Cl = n.is86.regs Cl
        regs86 k lt Ch = n.is86.regs Ch
        regs86 k lt Dl = n.is86.regs Dl
        regs86 k lt Dh = n.is86.regs Dh
        regs86 k lt Bl = n.is86.regs Bl
        regs86 k lt Bh = n.is86.regs Bh

        lands : (k : ℕ) → k < 256 → StatesStand p offset cut keeps (record (with_a t (Num k)) { place = At c }) (record u { regs = record (u.regs) { al = k }; ip = ip })
        lands k lt = record {
          first = in_cut start;
          at_label = goes_on start;
          segments = n.segments;
          sp = sp;
          parts = in_parts c ip k parts;
          memory = n.memory;
          state80 = record { regs = regs80 k lt; mem = n.is80.mem; sp = n.is80.sp };
          state86 = record { regs = regs86 k lt; mem = n.is86.mem; sp = n.is86.sp; si = n.is86.si; ds = n.is86.ds };
          dma = n.dma;
        }

    pub asks_out : (port byte c : ℕ) → t.regs.a ≡ Num byte → ComesBack p cut (At c) → is_place p (At c) ≡ true → return_at p t t.place ≡ going_on p t (At c) → (ip : ℕ) → GoesOnAt p offset (At c) ip → ((choice : ℕ) → step86 fetch w choice ≡ Asks (AskedOut port u.regs.al) (record u { ip = ip })) → steps + 1 ≤ 10 * count → u.sp ≡ t.sp → ((r : Part) → has (kept_after_way keeps (Out 0 (At c))) r ≡ true → StandsIn (places offset) t u r) → Then (Asks (AskedOut port byte) t)
    asks_out port byte c in_a in_cut start back ip goes_on step room sp parts =
        asks (AskedOut port byte) 0 w (λ choice. record u { ip = ip }) refl
        (λ choice. step choice ∙ ap (λ b. Asks (AskedOut port b) (record u { ip = ip })) same_byte) (omega (arith, room, some_count))
        (λ answer asked choice later fit bytes. record {
          more = 0;
          few = omega arith;
          arrived = record u { ip = ip };
          runs = refl;
          stand = subst (λ (z : State80). StatesStand p offset cut keeps z (record u { ip = ip })) (sym (ap (λ q. replied_to p t q (AskedOut port byte) answer) (next_is c start back)))
              (subst (λ s. StatesStand p offset cut keeps (record t { place = At c }) (record u { ip = ip; sp = s })) (sym sp) (stand_at (At c) ip t.sp (in_cut start) (goes_on start) n.is80.sp (out_parts c parts)));
        })
      where
        same_byte : u.regs.al ≡ byte
        same_byte = subst (λ (c : Cell). Stands (places offset) c u.regs.al) in_a (parts A refl)

    -- calls of the system

    module _ (sp : u.sp ≡ t.sp) (c_stands : Stands (places offset) t.regs.c u.regs.cl) (d_stands : Stands (places offset) t.regs.d u.regs.dh) (e_stands : Stands (places offset) t.regs.e u.regs.dl) (back : Result Return Rule) (return : return_at p t t.place ≡ back) where
      call_stands : (v : State86) → v.regs ≡ u.regs → v.dma ≡ u.dma → CallStands p (places offset) t v
      call_stands v regs dma = record {
        c = subst (λ r. Stands (places offset) t.regs.c r.cl) (sym regs) c_stands;
        d = subst (λ r. Stands (places offset) t.regs.d r.dh) (sym regs) d_stands;
        e = subst (λ r. Stands (places offset) t.regs.e r.dl) (sym regs) e_stands;
        c_cell = n.is80.regs RegC;
        d_cell = n.is80.regs RegD;
        e_cell = n.is80.regs RegE;
        mem_cells = n.is80.mem;
        dma = dma ∙ n.dma;
      }

      abbrev asked : AsksSystem p t back → Request
      asked a = request_of a.shape (seen_by_tagged p t a.return.is_popped)

      function_in : (a : AsksSystem p t back) → u.regs.cl ≡ a.function
      function_in a = (number_stands p (places offset) t.regs.c a.function u.regs.cl a.in_c (n.is80.regs RegC) c_stands).1

      -- what the reply leaves of the 8080
      replied_is : (a : AsksSystem p t back) (answer : Reply) → replied80 p t (CallEvent (asked a)) answer ≡ after_reply p t a.return.place a.return.sp (asked a) answer
      replied_is a answer = ap (λ q. replied_to p t q (CallEvent (asked a)) answer) (return ∙ a.returns)

      -- through the runtime
      module _ (s : AtSystem (one_stack sp) back w) where
        runs_there : RuntimeRuns lines fetch choices used w
        runs_there = runtimes lines fetch choices used w set.assembles reads set.runtime s.state s.same_segments

        moves : (a : AsksSystem p t back) (c : CallsSystem fetch choices used w) (asked_at choice later : ℕ) (answer : Reply) → fits_event (CallEvent (asked a)) answer ≡ true → BlocksAreBytes answer.writes → Lands beside (16 * count) (replied80 p t (CallEvent (asked a)) answer) (after_reply86 (record w { flags = c.asking.flags; ip = c.back; mem = spoiled w.mem w.sp asked_at }) (asked a) answer choice) later
        moves a c asked_at choice later answer fit bytes =
            let v : State86 = record w { flags = c.asking.flags; ip = c.back; mem = spoiled w.mem w.sp asked_at } in
            let passes = Rattle.cpu80_tagged.specs.Call.may_be_written p t a.return.is_popped in
            let rf = reply_fits p t back a answer fit in
            let vs : IsState86 v = record { regs = s.state.regs; mem = (s.sight asked_at).bytes; sp = s.state.sp; si = s.state.si; ds = s.state.ds } in
            let is = state86_after p (places offset) t v (asked a) answer passes rf bytes (s.sight asked_at) choice vs in
            let z = after_reply86 v (asked a) answer choice in
            let to = s.sp_back a.return a.returns in
            record {
              more = 3;
              few = omega arith;
              arrived = answers_moved z;
              runs = c.returns later z is s.same_segments refl;
              stand = subst (λ (q : State80). StatesStand p offset cut keeps q (answers_moved z)) (sym (replied_is a answer)) (record {
                first = s.first a.return a.returns;
                at_label = s.comes_back a.return a.returns asked_at answer.writes rf.within;
                segments = s.same_segments;
                sp = to.0;
                parts = λ r h. moved_parts p (places offset) t v (asked a) answer passes rf bytes (s.sight asked_at) a.return.place a.return.sp choice (answers_moved z) refl r;
                memory = memory_after p (places offset) t v (asked a) answer passes rf bytes (s.sight asked_at);
                state80 = state80_after p t (asked a) answer rf.answer bytes a.return.place a.return.sp n.is80 to.1;
                state86 = record { regs = moved_bytes z.regs is.regs; mem = is.mem; sp = wrapped (z.sp + 2); si = is.si; ds = is.ds };
                dma = ap (Rattle.dialogue.specs.Fits.dma_after (asked a)) (s.dma ∙ n.dma);
              });
            }

        resets_there : num_of t.regs.c ≡ Some 0 → Then Ends
        resets_there c =
            ends_after 4 (runs_there.resets s.at_label (ap (λ (r : Rattle.cpu86.specs.State.Regs86). r.cl) s.regs ∙ (number_stands p (places offset) t.regs.c 0 u.regs.cl c (n.is80.regs RegC) c_stands).1))
            (omega (arith, few, some_count))

        asks_there : (a : AsksSystem p t back) → Then (Asks (CallEvent (asked a)) t)
        asks_there a =
            let c = runs_there.calls s.at_label (λ z. a.some (sym (function_in a) ∙ sym (ap (λ (r : Rattle.cpu86.specs.State.Regs86). r.cl) s.regs) ∙ z)) in
            asks (CallEvent (asked a)) 2 c.asking (λ choice. record w { flags = c.asking.flags; ip = c.back; mem = spoiled w.mem w.sp choice }) c.runs
            (λ choice. c.calls choice ∙ asks_same same p (places offset) t (record w { flags = c.asking.flags; ip = c.back }) (call_stands (record w { flags = c.asking.flags; ip = c.back }) s.regs s.dma) back a choice (s.sight choice))
            (omega (arith, few, some_count))
            (λ answer asked_at choice later fit bytes. moves a c asked_at choice later answer fit bytes)

        pub through_runtime : (a : Answer State80 Rule) → a ≡ call_system p t back → Then a
        through_runtime a is = subst Then (sym is) (by_call (calls_80 p t back))
          where
            by_call : CallsSystem80 p t back → Then (call_system p t back)
            by_call (leaves r e) = subst Then (sym e) (stops r)
            by_call (resets c e) = subst Then (sym e) (resets_there c)
            by_call (asking a) = subst Then (sym a.asks) (asks_there a)

      -- by INT 224 itself, which loses B and L
      module _ (c ip : ℕ) (is_back : back ≡ going_on p t (At c)) (in_cut : ComesBack p cut (At c)) (goes_on : GoesOnAt p offset (At c) ip) (some : u.regs.cl ≢ 0) (step : (choice : ℕ) → step86 fetch w choice ≡ call_system86 (record u { ip = ip }) choice) (room : steps + 1 ≤ 10 * count) (b_lost : has (keeps.at c) B ≡ false) (l_lost : has (keeps.at c) L ≡ false) where
        kept_not_lost : (r : Part) → has (keeps.at c) r ≡ true → IsNotLost r
        kept_not_lost A h = tt
        kept_not_lost B h = let differ : false ≡ true = sym b_lost ∙ h in absurd (cc)
        kept_not_lost C h = tt
        kept_not_lost D h = tt
        kept_not_lost E h = tt
        kept_not_lost H h = tt
        kept_not_lost L h = let differ : false ≡ true = sym l_lost ∙ h in absurd (cc)
        kept_not_lost S h = tt
        kept_not_lost Z h = tt
        kept_not_lost Ac h = tt
        kept_not_lost P h = tt
        kept_not_lost Cy h = tt

        sight : (choice : ℕ) → IsSight p (places offset) t (spoiled u.mem u.sp choice)
        sight = spoil_sight (one_stack sp)

        stays : (a : AsksSystem p t back) (asked_at choice later : ℕ) (answer : Reply) → fits_event (CallEvent (asked a)) answer ≡ true → BlocksAreBytes answer.writes → Lands beside (16 * count) (replied80 p t (CallEvent (asked a)) answer) (after_reply86 (record u { ip = ip; mem = spoiled u.mem u.sp asked_at }) (asked a) answer choice) later
        stays a asked_at choice later answer fit bytes =
            let v : State86 = record u { ip = ip; mem = spoiled u.mem u.sp asked_at } in
            let passes = Rattle.cpu80_tagged.specs.Call.may_be_written p t a.return.is_popped in
            let rf = reply_fits p t back a answer fit in
            let vs : IsState86 v = record { regs = n.is86.regs; mem = (sight asked_at).bytes; sp = n.is86.sp; si = n.is86.si; ds = n.is86.ds } in
            let z = after_reply86 v (asked a) answer choice in
            let g = going_is (one_stack sp) (At c) a.return (sym is_back ∙ a.returns) in
            let stand : StatesStand p offset cut keeps (after_reply p t (At c) t.sp (asked a) answer) z = record {
              first = in_cut g.0;
              at_label = goes_on g.0;
              segments = n.segments;
              sp = sp;
              parts = λ r h. direct_parts p (places offset) t v (asked a) answer passes rf bytes (sight asked_at) (At c) t.sp choice r (kept_not_lost r h);
              memory = memory_after p (places offset) t v (asked a) answer passes rf bytes (sight asked_at);
              state80 = state80_after p t (asked a) answer rf.answer bytes (At c) t.sp n.is80 n.is80.sp;
              state86 = state86_after p (places offset) t v (asked a) answer passes rf bytes (sight asked_at) choice vs;
              dma = ap (Rattle.dialogue.specs.Fits.dma_after (asked a)) n.dma;
            } in
            record {
              more = 0;
              few = omega arith;
              arrived = z;
              runs = refl;
              stand = subst (λ (q : State80). StatesStand p offset cut keeps q z) (sym (replied_is a answer ∙ ap (λ (k : Return). after_reply p t k.place k.sp (asked a) answer) (sym g.1))) stand;
            }

        asks_directly : (a : AsksSystem p t back) → Then (Asks (CallEvent (asked a)) t)
        asks_directly a =
            asks (CallEvent (asked a)) 0 w (λ choice. record u { ip = ip; mem = spoiled u.mem u.sp choice }) refl
            (λ choice. step choice ∙ asks_same same p (places offset) t (record u { ip = ip }) (call_stands (record u { ip = ip }) refl refl) back a choice (sight choice))
            (omega (arith, room, some_count))
            (λ answer asked_at choice later fit bytes. stays a asked_at choice later answer fit bytes)

        pub directly : (a : Answer State80 Rule) → a ≡ call_system p t back → Then a
        directly a is = subst Then (sym is) (by_call (calls_80 p t back))
          where
            by_call : CallsSystem80 p t back → Then (call_system p t back)
            by_call (leaves r e) = subst Then (sym e) (stops r)
            by_call (resets k e) = absurd (some (number_stands p (places offset) t.regs.c 0 u.regs.cl k (n.is80.regs RegC) c_stands).1)
            by_call (asking a) = subst Then (sym a.asks) (asks_directly a)
