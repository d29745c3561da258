-- What one turn comes to.
use Rattle.std.proofs.Common.{◌≡◌, ℕ, suc, ◌+◌, Bool, true, false, cond, List, [], ◌∷◌, ◌++◌, refl, sym, ap, ◌∙◌, subst, arith, Option, Some, None}
use Rattle.std.proofs.lemmas.List.{append-nil}
use Rattle.std.proofs.lemmas.List.Elements.{All-nil, All-cons}
use Rattle.dialogue.specs.declared.request.Reply.{Reply}
use Rattle.dialogue.specs.declared.request.Event.{Event}
use Rattle.dialogue.specs.declared.request.Event.TheVariants.{End}
use Rattle.dialogue.specs.Fits.{fits_event}
use Rattle.bdos_small.specs.declared.devices.EventAnswer.{EventAnswer}
use Rattle.bdos_small.specs.declared.devices.EventAnswer.TheVariants.{Reply as Replies, InputEnded as NoInput, NoDrive as Refuses}
use Rattle.bdos_small.specs.Supply.{Supply}
use Rattle.bdos_small.specs.Events.{EventAnswered, event_answer}
use Rattle.dialogue.specs.Run.{Waiting, Over, Stopped}
use Rattle.host.specs.Host.{HostState, said_more, Says}
use Rattle.host_files.specs.Transfer.{CutsLine}
use Rattle.emulator_loop.specs.declared.emulator.Why.{Why}
use Rattle.emulator_loop.specs.declared.emulator.Turn.TheVariants.{Ran, Asks, Ended, Stopped as Stops}
use Rattle.emulator_loop.specs.declared.running.RunEnd.{RunEnd}
use Rattle.emulator_loop.specs.declared.running.RunEnd.TheVariants.{Ended as HasEnded, Stopped as HasStopped, InputEnded, NoDrive}
use Rattle.emulator_loop.specs.Lines.{prefixed_line}
use Rattle.dialogue.specs.Replies.{IsReply}
use Rattle.emulator_loop.specs.Talk.{SeenRun, reply_from, replies_to, refusal_then, refusal_from, end_of_refusal, left_from, left_after}
use Rattle.emulator_loop.specs.Turns.{Past, Course, after_ran, after_asked, standing_so, IsTurn, BeginsCourse}
use Rattle.emulator_loop.specs.declared.fault.TalkFault.{TalkFault}
use Rattle.emulator_loop.specs.declared.fault.TalkFault.TheVariants.{Unsaid, Memory}
use Rattle.emulator_loop.specs.Advance.{Advance, IsEnd, Rest, DialogueGrows, SaysTurn, CutsTurn, IsLineCutOff, IsTurnCutOff, IsTurnDone, IsAnswered}
use Rattle.emulator_loop.proofs.Said.{event_lines-one, says_nothing}

module _ (prefix : List ℕ) (before mid : Course) (answered : Event → Reply → Course) (supply : Supply) (old new : HostState) where
  pub advance_ran : IsTurn before mid answered Ran → Advance prefix 1 before mid supply supply old old
  advance_ran h = record {
    events = [];
    taken = [];
    next = after_ran;
    dialogue = λ t. sym (append-nil t.dialogue);
    goes = λ t ys n. let e : 1 + n ≡ suc n = omega arith in ap (before t ys) e ∙ h t ys n;
    replies = λ es. refl;
    refuses = λ es. refl;
    leaves = λ es. refl;
    lawful = All-nil IsReply;
    says = says_nothing old;
  }

  -- a reply
  advance_replied : (after : Course) (e : Event) (left : Supply) → IsTurn before mid answered (Asks e) → IsAnswered e (answered e) after supply left None → Says old new (prefixed_line prefix e) → Advance prefix 1 before after supply left old new
  advance_replied after e left h a said =
      let y = a.0 in
      record {
        events = e ∷ [];
        taken = y ∷ [];
        next = λ t. after_ran (after_asked t e);
        dialogue = λ t. refl;
        goes = λ t ys n.
            let one : 1 + n ≡ suc n = omega arith in
            ap (before t (y ∷ ys)) one
            ∙ h t (y ∷ ys) n
            ∙ ap (λ b. cond b (answered e y (after_ran (after_asked t e)) ys n) (standing_so Waiting (after_asked t e).dialogue)) a.2
            ∙ ap (λ c. c (after_ran (after_asked t e)) ys n) (sym a.4);
        replies = λ es. ap (λ o. reply_from o (λ rest. replies_to rest es)) a.1;
        refuses = λ es. ap (λ o. refusal_from o (λ rest. end_of_refusal rest es)) a.1;
        leaves = λ es. ap (λ o. left_from supply o (λ rest. left_after rest es)) a.1;
        lawful = All-cons IsReply y [] a.3 (All-nil IsReply);
        says = said ∙ ap (said_more old.said) (event_lines-one prefix e);
      }

  -- no reply
  module _ (e : Event) (h : IsTurn before mid answered (Asks e)) (said : Says old new (prefixed_line prefix e)) where
    rest_waits : (o : RunEnd) → replies_to supply (e ∷ []) ≡ [] → IsEnd o Waiting (e ∷ []) (end_of_refusal supply (e ∷ [])) → left_after supply (e ∷ []) ≡ supply → Rest prefix o before supply supply old new
    rest_waits o none end leaves = record {
      events = e ∷ [];
      status = Waiting;
      goes = λ t n. h t [] n;
      none = none;
      end = end;
      leaves = leaves;
      says = said ∙ ap (said_more old.said) (event_lines-one prefix e);
    }

    rest_by : (a : EventAnswer) (left : Supply) (o : RunEnd) → event_answer supply e ≡ Some (record { answer = a; left = left }) → refusal_then a None ≡ Some o → Rest prefix o before supply supply old new
    rest_by (Replies y) left o is f = cc
    rest_by NoInput left o is f =
        let same : InputEnded ≡ o = cc in
        let end : end_of_refusal supply (e ∷ []) ≡ Some InputEnded = ap (λ x. refusal_from x (λ rest. None)) is in
        subst (λ o. Rest prefix o before supply supply old new) same (rest_waits InputEnded (ap (λ x. reply_from x (λ rest. [])) is) (refl, end) (ap (λ x. left_from supply x (λ rest. rest)) is))
    rest_by (Refuses function) left o is f =
        let same : NoDrive function ≡ o = cc in
        let end : end_of_refusal supply (e ∷ []) ≡ Some (NoDrive function) = ap (λ x. refusal_from x (λ rest. None)) is in
        subst (λ o. Rest prefix o before supply supply old new) same (rest_waits (NoDrive function) (ap (λ x. reply_from x (λ rest. [])) is) (refl, end) (ap (λ x. left_from supply x (λ rest. rest)) is))

    rest_from : (a : Option EventAnswered) (o : RunEnd) → event_answer supply e ≡ a → refusal_from a (λ rest. None) ≡ Some o → Rest prefix o before supply supply old new
    rest_from None o is f = cc
    rest_from (Some a) o is f = rest_by a.answer a.left o is f

    pub turn_answered : (after : Course) (left : Supply) (o : Option RunEnd) → IsAnswered e (answered e) after supply left o → IsTurnDone prefix before after supply left old new o
    turn_answered after left None a = advance_replied after e left h a said
    turn_answered after left (Some o) a = subst (λ l. Rest prefix o before supply l old new) (sym a.1) (rest_from (event_answer supply e) o refl a.0)

  pub rest_ended : IsTurn before mid answered Ended → Says old new (prefixed_line prefix End) → Rest prefix HasEnded before supply supply old new
  rest_ended h said = record {
    events = End ∷ [];
    status = Over;
    goes = λ t n. h t [] n;
    none = refl;
    end = refl;
    leaves = refl;
    says = said ∙ ap (said_more old.said) (event_lines-one prefix End);
  }

  pub rest_stopped : (why : Why) → IsTurn before mid answered (Stops why) → Rest prefix (HasStopped why) before supply supply old old
  rest_stopped why h = record {
    events = [];
    status = Stopped why;
    goes = λ t n. h t [] n ∙ ap (standing_so (Stopped why)) (sym (append-nil t.dialogue));
    none = refl;
    end = (refl, refl);
    leaves = refl;
    says = says_nothing old;
  }

  -- faults: before anything is said, in the line of the end, in the line of what is asked, and after it
  grows_not : BeginsCourse before → DialogueGrows before []
  grows_not begins = record {
    turns = 0;
    few = omega arith;
    dialogue = λ t ys. ap (λ (v : SeenRun). v.dialogue) (begins t ys) ∙ sym (append-nil t.dialogue);
  }

  pub unbegun : BeginsCourse before → SaysTurn prefix before old old
  unbegun begins = record { events = []; grows = grows_not begins; says = says_nothing old }

  cut_end : IsTurn before mid answered Ended → CutsLine (prefixed_line prefix End) old new → CutsTurn prefix before old new
  cut_end h cut = record {
    event = End;
    grows = record { turns = 1; few = omega arith; dialogue = λ t ys. ap (λ (v : SeenRun). v.dialogue) (h t ys 0) };
    cut = cut;
  }

  -- a fault in the line of the end, or want of memory for it
  pub end_cut_off : BeginsCourse before → IsTurn before mid answered Ended → (fault : TalkFault) → IsLineCutOff (prefixed_line prefix End) old new fault → IsTurnCutOff prefix before old new fault
  end_cut_off begins h (Unsaid fault) cut = (cut_end h cut.0, cut.1)
  end_cut_off begins h Memory cut = (record { events = []; grows = grows_not begins; says = cut.0 ∙ says_nothing old }, cut.1)

  module _ (whole : BeginsCourse before) (e : Event) (h : IsTurn before mid answered (Asks e)) (begins : (y : Reply) → BeginsCourse (answered e y)) where
    asked_dialogue : (t : Past) (ys : List Reply) → (before t ys 1).dialogue ≡ t.dialogue ++ e ∷ []
    asked_dialogue t [] = ap (λ (v : SeenRun). v.dialogue) (h t [] 0)
    asked_dialogue t (y ∷ ys) = ap (λ (v : SeenRun). v.dialogue) (h t (y ∷ ys) 0) ∙ by_fit (fits_event e y)
      where
        by_fit : (b : Bool) → (let v : SeenRun = cond b (answered e y (after_ran (after_asked t e)) ys 0) (standing_so Waiting (after_asked t e).dialogue) in v.dialogue) ≡ t.dialogue ++ e ∷ []
        by_fit true = ap (λ (v : SeenRun). v.dialogue) (begins y (after_ran (after_asked t e)) ys)
        by_fit false = refl

    grows_asked : DialogueGrows before (e ∷ [])
    grows_asked = record { turns = 1; few = omega arith; dialogue = asked_dialogue }

    cut_asked : CutsLine (prefixed_line prefix e) old new → CutsTurn prefix before old new
    cut_asked cut = record { event = e; grows = grows_asked; cut = cut }

    -- a fault in the line of what is asked, or want of memory for it
    pub asked_cut_off : (fault : TalkFault) → IsLineCutOff (prefixed_line prefix e) old new fault → IsTurnCutOff prefix before old new fault
    asked_cut_off (Unsaid fault) h' = (cut_asked h'.0, h'.1)
    asked_cut_off Memory h' = (record { events = []; grows = grows_not whole; says = h'.0 ∙ says_nothing old }, h'.1)

    pub asked : Says old new (prefixed_line prefix e) → SaysTurn prefix before old new
    asked said = record { events = e ∷ []; grows = grows_asked; says = said ∙ ap (said_more old.said) (event_lines-one prefix e) }
