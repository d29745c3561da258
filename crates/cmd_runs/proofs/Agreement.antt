-- All that the 8080 says over devices the 8086 says first, over devices of the same bytes.
use Rattle.std.proofs.Common.{◌≡◌, ℕ, ◌+◌, ◌*◌, ◌^◌, ◌<◌, ◌≤◌, ◌%◌, List, [], ◌∷◌, refl, sym, ap, subst, arith, Option}
use Rattle.std.specs.Prelude.{All}
use Rattle.std.proofs.lemmas.Nat.{mod_below}
use Rattle.std.proofs.lemmas.List.Elements.{All-nil, All-cons, All-weaker}
use Rattle.i86.specs.declared.Instr86.{Instr86}
use Rattle.i86.specs.Code.{ReadsCode}
use Rattle.dialogue.specs.declared.blocks.Block.{Block}
use Rattle.dialogue.specs.declared.request.Reply.{Reply}
use Rattle.dialogue.specs.Run.{Status, Going, Waiting, Over, Stopped, IsNotStopped, IsFrontOf}
use Rattle.dialogue.specs.Same.{SameDialogue}
use Rattle.cells.specs.declared.Rule.{Rule}
use Rattle.asm80_types.specs.Program.{Program}
use Rattle.asm86_line_types.specs.Image.{Image}
use Rattle.host.specs.Host.{HostState}
use Rattle.cpu80_tagged.specs.State.{State80}
use Rattle.cpu80_tagged.specs.Start.{IsPage, run80}
use Rattle.cpu86.specs.State.{State86}
use Rattle.cpu86.specs.Call.{Stop}
use Rattle.dialogue.specs.Fill.{IsFill}
use Rattle.cpu86.specs.Start.{IsStart, AreChoices, run86}
use Rattle.bdos_small.specs.Supply.{Supply}
use Rattle.emulator_loop.specs.declared.emulator.Why.{Why}
use Rattle.emulator_loop.specs.declared.running.Conversation.{Conversation}
use Rattle.dialogue.specs.Replies.{IsReplyBlock as IsBlock, IsReply}
use Rattle.emulator_loop.specs.Talk.{SeenRun, told_status, replies_to, HasOneRun, SaysRun}
use Rattle.emulators.specs.Courses.{why80, course80, course86}
use Rattle.emulators.specs.Starts.{start_by}
use Rattle.templates_law.specs.Names.{IsReplyBlock as SameBlock, IsReply as SameReply, Same}
use Rattle.cmd_arguments.specs.Words.{Both}
use Rattle.cmd_runs.specs.Supplies.{fill_by}
use Rattle.cmd_runs.specs.Settings.{RunComesTo, IsCourse80, IsCourse86}
use Rattle.cmd_runs.specs.BothRuns.{prefix80, prefix86, limit86, first_setting, second_setting}

-- what a choice gives is in its ranges
word_of : (choice : ℕ) → choice % 0x10000 < 0x10000
word_of choice = mod_below choice 0x10000 (omega arith)

flags_of : (choice : ℕ) → choice % 32 < 256
flags_of choice = let few : choice % 32 < 32 = mod_below choice 32 (omega arith) in omega (arith, few)

starts : (choice : ℕ) → IsStart (start_by choice)
starts choice = record {
  ax = word_of choice;
  cx = word_of choice;
  dx = word_of choice;
  bx = word_of choice;
  sp = word_of choice;
  si = word_of choice;
  ds = omega arith;
  ss = omega arith;
  flags = flags_of choice;
}

choices : (choice : ℕ) → choice < 2 ^ 128 → AreChoices (choice ∷ [])
choices choice small = record {
  some = λ e. cc;
  small = All-cons (λ c. c < 2 ^ 128) choice [] small (All-nil (λ c. c < 2 ^ 128));
}

-- replies of words and bytes are replies
block_is : (b : Block) → IsBlock b → SameBlock b
block_is b h = record { at = h.at; bytes = h.bytes }

reply_is : (y : Reply) → IsReply y → SameReply y
reply_is y h = record { answer = h.answer; writes = All-weaker IsBlock SameBlock block_is y.writes h.writes }

told_goes : {X : Type 0} (why : X → Why) (st : Status X) → IsNotStopped (told_status why st) → IsNotStopped st
told_goes why Going h = tt
told_goes why Waiting h = tt
told_goes why Over h = tt
told_goes why (Stopped x) h = h

-- the limit of the 8086's run as a number
pub limit_is : (steps : ℕ) → 16 * steps + 16 ≡ limit86 steps
unfolding limit86
limit_is steps = refl

enough : (steps : ℕ) → 16 * steps + 16 ≤ limit86 steps
enough steps = let e = limit_is steps in omega (arith, e)

module _ (p : Program) (image : Image) (fetch : ℕ → Option Instr86) (page : List ℕ) (choice : ℕ) (same : Same p image) (reads : ReadsCode image.code fetch) (is_page : IsPage page) (is_fill : IsFill (fill_by choice)) (small : choice < 2 ^ 128) where
  -- where the 8080 has not stopped
  follows : (n : ℕ) (ys : List Reply) → All SameReply ys → IsNotStopped (course80 p page ys n).status → IsFrontOf (course80 p page ys n).dialogue (course86 fetch image page (fill_by choice) (start_by choice) (choice ∷ []) ys (limit86 n)).dialogue
  unfolding Same
  follows n ys lawful goes =
      let both : SameDialogue State80 Rule State86 Stop (run80 p page ys) (run86 fetch image page (fill_by choice) (start_by choice) (choice ∷ []) ys) = same fetch page (fill_by choice) (start_by choice) (choice ∷ []) ys reads is_page is_fill (starts choice) (choices choice small) lawful in
      both.follows n (limit86 n) (told_goes (why80 (run80 p page ys n).state) (run80 p page ys n).status goes) (enough n)

-- two courses of which the one follows the other, where both are given the replies that the devices give to the first
module _ (course80 course86 : List Reply → ℕ → SeenRun) (supply left left86 : Supply) (prefix other : List ℕ) (limit limit86 : ℕ) (o next : Conversation) (start mid new : HostState) where
  agrees_by : HasOneRun course86 → ((ys : List Reply) → All SameReply ys → IsNotStopped (course80 ys o.steps).status → IsFrontOf (course80 ys o.steps).dialogue (course86 ys limit86).dialogue) → (x : SaysRun course80 supply limit prefix o left start mid) (y : SaysRun course86 supply limit86 other next left86 mid new) → IsFrontOf x.run.dialogue y.run.dialogue
  agrees_by one step x y =
      let ran = x.outcome.ran in
      let w : SeenRun = ran.run in
      let whole : x.run.dialogue ≡ w.dialogue = ran.whole x.run x.outcome.at in
      let ys = replies_to supply w.dialogue in
      let lawful : All SameReply ys = All-weaker IsReply SameReply reply_is ys (subst (λ d. All IsReply (replies_to supply d)) whole x.replies) in
      let goes : IsNotStopped (course80 ys o.steps).status = subst (λ (v : SeenRun). IsNotStopped v.status) ran.at ran.not_stopped in
      let said : w.dialogue ≡ (course80 ys o.steps).dialogue = ap (λ (v : SeenRun). v.dialogue) ran.at in
      let reached : IsFrontOf w.dialogue (course86 ys limit86).dialogue = subst (λ d. IsFrontOf d (course86 ys limit86).dialogue) (sym said) (step ys lawful goes) in
      subst (λ d. IsFrontOf d y.run.dialogue) (sym whole) (one.reaches supply limit86 w.dialogue y.run reached y.outcome.at)

module _ (c : Both) (p : Program) (image : Image) (supply left left86 : Supply) (start mid new : HostState) (o next : Conversation) where
  -- the dialogue of the 8080 is the first of the 8086's
  pub agrees : ((fetch : ℕ → Option Instr86) → HasOneRun (course86 fetch image c.run.page (fill_by c.choice) (start_by c.choice) (c.choice ∷ []))) → Same p image → IsPage c.run.page → IsFill (fill_by c.choice) → c.choice < 2 ^ 128 → (first : RunComesTo (first_setting c p) supply o left start mid) (second : RunComesTo (second_setting c image o.steps) supply next left86 mid new) (course other : List Reply → ℕ → SeenRun) (is : IsCourse80 c.run.page p course) (also : IsCourse86 c.run.page c.choice image other) → IsFrontOf (first.says course is).run.dialogue (second.says other also).run.dialogue
  agrees one same is_page is_fill small first second course other is also =
      let theirs : List Reply → ℕ → SeenRun = course86 also.fetch image c.run.page (fill_by c.choice) (start_by c.choice) (c.choice ∷ []) in
      let Follows : (List Reply → ℕ → SeenRun) → (List Reply → ℕ → SeenRun) → Type 0 = λ a b. (ys : List Reply) → All SameReply ys → IsNotStopped (a ys o.steps).status → IsFrontOf (a ys o.steps).dialogue (b ys (limit86 o.steps)).dialogue in
      let step : Follows course other = subst (λ a. Follows a other) (sym is) (subst (λ b. Follows (course80 p c.run.page) b) (sym also.is) (follows p image also.fetch c.run.page c.choice same also.reads is_page is_fill small o.steps)) in
      agrees_by course other supply left left86 prefix80 prefix86 c.run.steps (limit86 o.steps) o next start mid new (subst (λ (b : List Reply → ℕ → SeenRun). HasOneRun b) (sym also.is) (one also.fetch)) step (first.says course is) (second.says other also)
