-- The two runs of `both`: the 8080's over devices, and after it the 8086's over devices that the same bytes make, each from its first
-- byte on. Each line of a run begins with its machine's number. The status is that of the 8080's run, and the disk that is kept is the
-- one that it left.
use Rattle.std.specs.Prelude.{◌≡◌, ℕ, ◌+◌, ◌*◌, codes, List, Some}
use Rattle.dialogue.specs.declared.request.Reply.{Reply}
use Rattle.dialogue.specs.Run.{IsFrontOf}
use Rattle.asm80_types.specs.Program.{Program}
use Rattle.asm86_line_types.specs.Image.{Image}
use Rattle.host.specs.Host.{HostState}
use Rattle.bdos_small.specs.Supply.{Supply}
use Rattle.emulator_loop.specs.declared.fault.TalkFault.{TalkFault}
use Rattle.emulator_loop.specs.declared.running.Conversation.{Conversation}
use Rattle.emulator_loop.specs.Talk.{SeenRun}
use Rattle.cmd_arguments.specs.Words.{Both}
use Rattle.cmd_runs.specs.Names.{run_names}
use Rattle.cmd_runs.specs.Settings.{RunSetting, setting86, RunComesTo, IsRunCutOff}
use Rattle.cmd_runs.specs.Kinds.{HasRead, run_setting}
use Rattle.cmd_runs.specs.Works.{RunsMade, RunWork}
use Rattle.cmd_runs.specs.Runs80.{kind80, IsLineOf}
use Rattle.cmd_runs.specs.BothLoads.{source_of, AreToRun, NeitherToRun}

abbrev pub prefix80 : List ℕ
prefix80 = codes "80 "

abbrev pub prefix86 : List ℕ
prefix86 = codes "86 "

-- how many instructions of the 8086 may run, by how many of the 8080 ran
unfoldable pub limit86 : ℕ → ℕ
limit86 steps = 16 * steps + 16

-- the 8080 runs as in `run80`, and the 8086 as in `run86`, up to so many instructions
abbrev pub first_setting : Both → Program → RunSetting
first_setting c program = run_setting (kind80 (source_of c)) prefix80 program

abbrev pub second_setting : Both → Image → ℕ → RunSetting
second_setting c image steps = setting86 c.run.page c.choice image (limit86 steps) prefix86

module _ (c : Both) (old new : HostState) where
  -- the files were read, and then the 8080's run was made, and then the 8086's, over the same supply. Both machines agree: all that the
  -- 8080 said the 8086 says first
  pub record AreBothMade (m : RunsMade) : Type 0 where
    pub program : Program
    pub image : Image
    pub supply : Supply
    pub start : HostState
    pub read : HasRead (AreToRun c old program image supply) old start
    pub mid : HostState
    pub first : RunComesTo (first_setting c program) supply m.end m.left start mid
    pub end86 : Conversation
    pub left86 : Supply
    pub second : RunComesTo (second_setting c image m.end.steps) supply end86 left86 mid new
    pub agree : (course other : List Reply → ℕ → SeenRun) (is : (first_setting c program).IsCourse course) (also : (second_setting c image m.end.steps).IsCourse other) → IsFrontOf (first.says course is).run.dialogue (second.says other also).run.dialogue
    pub at : IsLineOf program m.end.end m.line
    pub count : m.second ≡ Some end86.steps

  -- the 8080's run was cut off by a fault
  pub record IsFirstCut (fault : TalkFault) : Type 0 where
    pub program : Program
    pub image : Image
    pub supply : Supply
    pub start : HostState
    pub read : HasRead (AreToRun c old program image supply) old start
    pub cut : IsRunCutOff (first_setting c program) supply fault start new

  -- the 8080's was made, and the 8086's was cut off
  pub record IsSecondCut (fault : TalkFault) : Type 0 where
    pub program : Program
    pub image : Image
    pub supply : Supply
    pub start : HostState
    pub read : HasRead (AreToRun c old program image supply) old start
    pub end80 : Conversation
    pub left : Supply
    pub mid : HostState
    pub first : RunComesTo (first_setting c program) supply end80 left start mid
    pub cut : IsRunCutOff (second_setting c image end80.steps) supply fault mid new

  pub data IsEitherCut (fault : TalkFault) : Type 0 where
    in_first : IsFirstCut fault → IsEitherCut fault
    in_second : IsSecondCut fault → IsEitherCut fault

abbrev pub work_both : Both → RunWork
work_both c = record {
  HasNothing = λ old new stop. NeitherToRun c old new stop;
  AreMade = λ old new m. AreBothMade c old new m;
  AreCutOff = λ old new fault. IsEitherCut c old new fault;
  limit = c.run.steps;
  names = run_names c.source c.run;
  out_disk = c.run.out_disk;
}
