-- What the runs come to after the files.
use Rattle.std.proofs.Common.{◌≡◌, ℕ, ◌^◌, ◌<◌, ◌∙◌, List, [], ◌∷◌, Option, Some, refl, subst}
use Rattle.std.specs.Prelude.{All, length}
use Rattle.i86.specs.declared.Instr86.{Instr86}
use Rattle.asm80_types.specs.Program.{Program}
use Rattle.asm86_line_types.specs.Image.{Image}
use Rattle.host.specs.Host.{HostState}
use Rattle.cpu80_tagged.specs.Start.{IsPage}
use Rattle.dialogue.specs.Fill.{IsFill}
use Rattle.bdos_small.specs.Supply.{Supply}
use Rattle.emulator_loop.specs.declared.fault.TalkFault.{TalkFault}
use Rattle.emulator_loop.specs.declared.running.Conversation.{Conversation}
use Rattle.emulator_loop.specs.Talk.{HasOneRun}
use Rattle.emulators.specs.Courses.{course86}
use Rattle.emulators.specs.Starts.{start_by}
use Rattle.cmd_arguments.specs.Words.{Both}
use Rattle.cmd_runs.specs.Ends.{halt_of_talk}
use Rattle.cmd_runs.specs.Supplies.{fill_by}
use Rattle.cmd_runs.specs.Settings.{setting86, RunComesTo, IsRunCutOff}
use Rattle.cmd_runs.specs.Kinds.{HasRead}
use Rattle.cmd_runs.specs.Works.{WorkHalts}
use Rattle.cmd_runs.proofs.Working.{FilesStay, cut_halts}
use Rattle.cmd_runs.specs.Runs80.{IsLineOf}
use Rattle.cmd_runs.proofs.Leaving.{line_stands}
use Rattle.cmd_runs.specs.BothLoads.{source_of, AreToRun}
use Rattle.cmd_runs.specs.BothRuns.{prefix80, prefix86, limit86, first_setting, second_setting, AreBothMade, IsEitherCut, in_first, in_second, work_both}
use Rattle.cmd_runs.proofs.Agreement.{agrees}

-- the bytes that fill the memory
pub filled : (choice : ℕ) (bytes : List ℕ) → bytes ≡ fill_by choice → length bytes ≡ 0x10000 → All (λ n. n < 256) bytes → IsFill (fill_by choice)
filled choice bytes is size small = subst IsFill is (record { size = size; bytes = small })

-- no file changes in the runs
pub both_stay : (c : Both) → FilesStay (work_both c)
both_stay c = record { made = λ old new m h name. h.second.only.files name ∙ h.first.only.files name ∙ h.read.reads.files name; cut = cut_stays }
  where
    cut_stays : (old new : HostState) (fault : TalkFault) → IsEitherCut c old new fault → (name : List ℕ) → new.file name ≡ old.file name
    cut_stays old new fault (in_first h) name = h.cut.only.files name ∙ h.read.reads.files name
    cut_stays old new fault (in_second h) name = h.cut.only.files name ∙ h.first.only.files name ∙ h.read.reads.files name

module _ (c : Both) (old start : HostState) (program : Program) (image : Image) (supply : Supply) (read : HasRead (AreToRun c old program image supply) old start) where
  -- a fault cut the 8080's run off
  pub first_halts : (new : HostState) (fault : TalkFault) → IsRunCutOff (first_setting c program) supply fault start new → WorkHalts (work_both c) old new (halt_of_talk fault)
  first_halts new fault cut = cut_halts (work_both c) old new fault (in_first (record { program = program; image = image; supply = supply; start = start; read = read; cut = cut }))

  module _ (mid new : HostState) (o : Conversation) (left second : Supply) (limit : ℕ) (first : RunComesTo (first_setting c program) supply o left start mid) (same : second ≡ supply) (is : limit ≡ limit86 o.steps) where
    -- or the 8086's
    pub second_halts : (fault : TalkFault) → IsRunCutOff (setting86 c.run.page c.choice image limit prefix86) second fault mid new → WorkHalts (work_both c) old new (halt_of_talk fault)
    second_halts fault cut = cut_halts (work_both c) old new fault (in_second (record {
      program = program;
      image = image;
      supply = supply;
      start = start;
      read = read;
      end80 = o;
      left = left;
      mid = mid;
      first = first;
      cut = subst (λ n. IsRunCutOff (setting86 c.run.page c.choice image n prefix86) supply fault mid new) is (subst (λ s. IsRunCutOff (setting86 c.run.page c.choice image limit prefix86) s fault mid new) same cut);
    }))

    -- both were made, and the 8086 says first what the 8080 said
    pub both_made : IsPage c.run.page → IsFill (fill_by c.choice) → c.choice < 2 ^ 128 → ((fetch : ℕ → Option Instr86) → HasOneRun (course86 fetch image c.run.page (fill_by c.choice) (start_by c.choice) (c.choice ∷ []))) → (line : ℕ) → ((n : ℕ) → IsLineOf program o.end n → line ≡ n) → (next : Conversation) (left86 : Supply) → RunComesTo (setting86 c.run.page c.choice image limit prefix86) second next left86 mid new → AreBothMade c old new (record { end = o; line = line; second = Some next.steps; left = left })
    both_made is_page is_fill small one line line_is next left86 run =
        let after : RunComesTo (second_setting c image o.steps) supply next left86 mid new =
        subst (λ n. RunComesTo (setting86 c.run.page c.choice image n prefix86) supply next left86 mid new) is (subst (λ s. RunComesTo (setting86 c.run.page c.choice image limit prefix86) s next left86 mid new) same run) in
        record {
          program = program;
          image = image;
          supply = supply;
          start = start;
          read = read;
          mid = mid;
          first = first;
          end86 = next;
          left86 = left86;
          second = after;
          agree = agrees c program image supply left left86 start mid new o next one read.stands.lean.same is_page is_fill small first after;
          at = line_stands (source_of c) program read.stands.source.named.gives.program.program.lawful prefix80 supply left o start mid first line line_is;
          count = refl;
        }
