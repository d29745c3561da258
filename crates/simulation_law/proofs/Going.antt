-- What becomes of linked runs behind a block, by the way on which both go.
use Rattle.std.proofs.Common.{◌≡◌, ℕ, suc, ◌+◌, ◌≤◌, Bool, true, false, cond, List, [], ◌∷◌, ◌++◌, Option, refl, sym, ap, subst, ◌∙◌, arith}
use Rattle.cells.specs.declared.Rule.{Rule}
use Rattle.i86.specs.declared.Instr86.{Instr86}
use Rattle.dialogue.specs.declared.request.Reply.{Reply}
use Rattle.dialogue.specs.declared.request.Event.{Event}
use Rattle.dialogue.specs.declared.request.Event.TheVariants.{End as EndEvent}
use Rattle.dialogue.specs.Fits.{fits_event}
use Rattle.dialogue.specs.Run.{Ran, Asks, Ends, Machine, Run, Going, Waiting, choice_at, take_reply, settle, turns, IsNotStopped}
use Rattle.dialogue.proofs.Turns.{turns_add}
use Rattle.asm86_line_types.specs.declared.line.Line86.{Line86}
use Rattle.asm80_types.specs.Program.{Program}
use Rattle.cpu80_tagged.specs.State.{State80}
use Rattle.cpu80_tagged.specs.Step.{replied80, machine80}
use Rattle.cpu86.specs.State.{State86}
use Rattle.cpu86.specs.Call.{Stop, replied86}
use Rattle.cpu86.specs.Step.{step86, machine86}
use Rattle.sym_block_def.specs.BlockMatch.{Keeps}
use Rattle.simulation_def.specs.Steps.{RunsOn}
use Rattle.simulation_def.specs.Runs86.{offsets_of}
use Rattle.simulation_def.specs.Runtime.{EndsAfter}
use Rattle.simulation_def.specs.Linked.{Paired, linked, ended, waiting}
use Rattle.simulation_law.specs.Linking.{WriteBytes, BlocksAreBytes}
use Rattle.simulation_law.proofs.Running.{moved, turn_is, run_turns}
use Rattle.simulation_law.proofs.Standing.{StatesStand, are_linked}

-- a run that waits, or is over
abbrev pub asks_in_vain : {S X : Type 0} → Run S X → Run S X
asks_in_vain r = record r { status = Waiting }

-- a program and a text beside it: where its blocks begin, what is kept at each, how its instructions are fetched, and the choices
pub record Beside : Type 0 where
  pub p : Program
  pub lines : List Line86
  pub cut : List (ℕ × ℕ)
  pub keeps : Keeps
  pub fetch : ℕ → Option Instr86
  pub choices : List ℕ

module _ (beside : Beside) (limit : ℕ) where
  open beside use {p, lines, cut, keeps, fetch, choices}

  abbrev M80 : Machine State80 Rule
  M80 = machine80 p

  abbrev M86 : Machine State86 Stop
  M86 = machine86 fetch

  abbrev pub Pairs : Run State80 Rule → Run State86 Stop → Type 0
  Pairs x y = IsNotStopped x.status → Paired p (offsets_of lines) cut keeps x y

  -- some turns of the 8086, at most so many, after which the runs are paired
  pub record Follows (x : Run State80 Rule) (y : Run State86 Stop) : Type 0 where
    pub count : ℕ
    pub some : 1 ≤ count
    pub few : count ≤ limit
    pub paired : Pairs x (turns M86 choices count y)

  -- what becomes of both after a reply, a few steps of the 8086 on
  pub record Lands (t : State80) (u : State86) (used : ℕ) : Type 0 where
    pub more : ℕ
    pub few : more ≤ 3
    pub arrived : State86
    pub runs : RunsOn M86 choices more used u arrived
    pub stand : StatesStand p (offsets_of lines) cut keeps t arrived

  -- The 8080 is about to take the last turn of a block in a run `x`, and with it comes to a state `t`, or asks or ends there; the
  -- 8086 has taken so many steps from `y` and is at `w`.
  module _ (x : Run State80 Rule) (y : Run State86 Stop) (going80 : x.status ≡ Going) (going86 : y.status ≡ Going) (dialogue : y.dialogue ≡ x.dialogue) (replies : y.replies ≡ x.replies) (steps : ℕ) (w : State86) (runs : RunsOn M86 choices steps y.used y.state w) where
    pub here : (k : ℕ) × (turns M86 choices steps y ≡ moved M86 choices y w k)
    here = run_turns M86 choices steps y w going86 runs

    -- so many turns more
    goes : (x' : Run State80 Rule) (j : ℕ) (z : Run State86 Stop) → turns M86 choices j (moved M86 choices y w here.0) ≡ z → 1 ≤ steps + j → steps + j ≤ limit → Pairs x' z → Follows x' y
    goes x' j z e some few h = record {
      count = steps + j;
      some = some;
      few = few;
      paired = λ n. subst (λ (r : Run State86 Stop). Paired p (offsets_of lines) cut keeps x' r) (sym (turns_add M86 choices steps j y ∙ ap (turns M86 choices j) here.1 ∙ e)) (h n);
    }

    -- it runs on
    pub ran_follows : (t : State80) → StatesStand p (offsets_of lines) cut keeps t w → 1 ≤ steps → steps ≤ limit → Follows (settle M80 [] x (Ran t)) y
    ran_follows t s some few =
        goes (settle M80 [] x (Ran t)) 0 (moved M86 choices y w here.0) refl (omega (arith, some)) (omega (arith, few))
        (λ n. linked (are_linked p (offsets_of lines) cut keeps (settle M80 [] x (Ran t)) (moved M86 choices y w here.0) going80 going86 s dialogue replies))

    -- it ends
    pub ends_follow : (more : ℕ) → EndsAfter fetch choices here.0 more w → steps + (more + 1) ≤ limit → Follows (settle M80 [] x Ends) y
    ends_follow more e few =
        let r = run_turns M86 choices more (moved M86 choices y w here.0) e.last going86 e.runs in
        let last = moved M86 choices y e.last r.0 in
        goes (settle M80 [] x Ends) (more + 1) (settle M86 choices last Ends)
        (turns_add M86 choices more 1 (moved M86 choices y w here.0) ∙ ap (turns M86 choices 1) r.1 ∙ turn_is M86 choices last going86 ∙ ap (settle M86 choices last) (e.ends (choice_at choices r.0)))
        (omega arith) few
        (λ n. ended refl refl (ap (λ d. d ++ EndEvent ∷ []) dialogue))

    -- it asks: `v` is the 8086 where it asks, some steps on, and `after` what becomes of both with a reply that fits
    pub asks_follow : (e : Event) (t : State80) (more : ℕ) (v : State86) (u : ℕ → State86) → RunsOn M86 choices more here.0 w v → ((choice : ℕ) → step86 fetch v choice ≡ Asks e (u choice)) → steps + (more + 1) + 3 ≤ limit → WriteBytes x.replies → ((answer : Reply) (asked choice used : ℕ) → fits_event e answer ≡ true → BlocksAreBytes answer.writes → Lands (replied80 p t e answer) (replied86 (u asked) e answer choice) used) → Follows (settle M80 [] x (Asks e t)) y
    asks_follow e t more v u on asks few bytes after = by_replies x.replies refl bytes
      where
        r : (k : ℕ) × (turns M86 choices more (moved M86 choices y w here.0) ≡ moved M86 choices y v k)
        r = run_turns M86 choices more (moved M86 choices y w here.0) v going86 on

        x1 : Run State80 Rule
        x1 = record x { state = t; dialogue = x.dialogue ++ e ∷ []; used = suc x.used }

        now : ℕ
        now = choice_at choices r.0

        y1 : Run State86 Stop
        y1 = record y { state = u now; dialogue = y.dialogue ++ e ∷ []; used = suc r.0 }

        asked : turns M86 choices (more + 1) (moved M86 choices y w here.0) ≡ take_reply M86 choices y1 e y.replies
        asked =
            turns_add M86 choices more 1 (moved M86 choices y w here.0) ∙ ap (turns M86 choices 1) r.1 ∙ turn_is M86 choices (moved M86 choices y v r.0) going86
            ∙ ap (settle M86 choices (moved M86 choices y v r.0)) (asks now)

        same : y1.dialogue ≡ x1.dialogue
        same = ap (λ d. d ++ e ∷ []) dialogue

        in_vain : (ys : List Reply) → x.replies ≡ ys → take_reply M80 [] x1 e ys ≡ asks_in_vain x1 → take_reply M86 choices y1 e ys ≡ asks_in_vain y1 → Follows (settle M80 [] x (Asks e t)) y
        in_vain ys is a b =
            subst (λ (z : Run State80 Rule). Follows z y) (sym (ap (take_reply M80 [] x1 e) is ∙ a))
            (goes (asks_in_vain x1) (more + 1) (asks_in_vain y1) (asked ∙ ap (take_reply M86 choices y1 e) (replies ∙ is) ∙ b) (omega arith) (omega (arith, few)) (λ n. waiting refl refl same))

        taken : (answer : Reply) (ys : List Reply) → x.replies ≡ answer ∷ ys → fits_event e answer ≡ true → BlocksAreBytes answer.writes → Follows (settle M80 [] x (Asks e t)) y
        taken answer ys is fit ab =
            let x2 : Run State80 Rule = record x1 { state = replied80 p t e answer; replies = ys; used = suc x1.used } in
            let y2 : Run State86 Stop = record y1 { state = replied86 (u now) e answer (choice_at choices y1.used); replies = ys; used = suc y1.used } in
            let l = after answer now (choice_at choices y1.used) y2.used fit ab in
            let z = run_turns M86 choices l.more y2 l.arrived going86 l.runs in
            let three = l.few in
            subst (λ (z : Run State80 Rule). Follows z y) (sym (ap (take_reply M80 [] x1 e) is ∙ ap (λ b. cond b x2 (asks_in_vain x1)) fit))
            (goes x2 (more + 1 + l.more) (moved M86 choices y2 l.arrived z.0)
            (turns_add M86 choices (more + 1) l.more (moved M86 choices y w here.0) ∙ ap (turns M86 choices l.more) (asked ∙ ap (take_reply M86 choices y1 e) (replies ∙ is) ∙ ap (λ b. cond b y2 (asks_in_vain y1)) fit) ∙ z.1)
            (omega arith) (omega (arith, few, three))
            (λ n. linked (are_linked p (offsets_of lines) cut keeps x2 (moved M86 choices y2 l.arrived z.0) going80 going86 l.stand same refl)))

        by_fit : (answer : Reply) (ys : List Reply) → x.replies ≡ answer ∷ ys → BlocksAreBytes answer.writes → (b : Bool) → fits_event e answer ≡ b → Follows (settle M80 [] x (Asks e t)) y
        by_fit answer ys is ab true f = taken answer ys is f ab
        by_fit answer ys is ab false f =
            in_vain (answer ∷ ys) is
            (ap (λ b. cond b (record x1 { state = replied80 p t e answer; replies = ys; used = suc x1.used }) (asks_in_vain x1)) f)
            (ap (λ b. cond b (record y1 { state = replied86 (u now) e answer (choice_at choices y1.used); replies = ys; used = suc y1.used }) (asks_in_vain y1)) f)

        by_replies : (ys : List Reply) → x.replies ≡ ys → WriteBytes ys → Follows (settle M80 [] x (Asks e t)) y
        by_replies [] is b = in_vain [] is refl refl
        by_replies (answer ∷ ys) is b = by_fit answer ys is b.0 (fits_event e answer) refl
