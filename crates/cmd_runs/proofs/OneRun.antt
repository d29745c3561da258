-- A command that makes one run: what its run comes to after its files, and that it changes no file.
use Rattle.std.proofs.Common.{◌≡◌, ℕ, List, [], Option, None, refl, subst, ◌∙◌}
use Rattle.std.specs.Prelude.{Result, IfOk, IfErr, IsErrAnd}
use Rattle.host.specs.Host.{HostState}
use Rattle.bdos_small.specs.Stored.{Stored}
use Rattle.bdos_small.specs.Supply.{Supply}
use Rattle.emulator_loop.specs.declared.fault.TalkFault.{TalkFault}
use Rattle.emulator_loop.specs.declared.running.Conversation.{Conversation}
use Rattle.cmd_common.specs.declared.stop.Stop.{Stop}
use Rattle.cmd_common.specs.declared.stop.Stop.TheVariants.{OutOfMemory}
use Rattle.cmd_common.proofs.Told.{handed_on}
use Rattle.cmd_runs.specs.declared.halt.Halt.{Halt}
use Rattle.cmd_runs.specs.declared.halt.Halt.TheVariants.{By}
use Rattle.cmd_runs.specs.declared.last.Last.{Last}
use Rattle.cmd_runs.specs.Ends.{Halts, came_to, halt_of_talk}
use Rattle.cmd_runs.specs.Keeping.{kept_disk_name}
use Rattle.cmd_runs.specs.Finishing.{RunsAreLeft, LeaveStops}
use Rattle.cmd_runs.specs.Settings.{RunSetting, RunComesTo, IsRunCutOff}
use Rattle.cmd_runs.specs.Kinds.{RunKind, run_setting, HasRead, IsToRun, no_memory}
use Rattle.cmd_runs.specs.Works.{RunsMade, WorkHalts, HasLastFrom, HaltsFrom, IsRunMade, unloaded, work_of_one}
use Rattle.cmd_runs.proofs.Working.{FilesStay, cut_halts, left_has, left_halts}

module _ {Loaded : Type 0} (k : RunKind Loaded) where
  -- what is known of a run that was made
  abbrev one_made : Conversation → ℕ → Supply → RunsMade
  one_made end line left = record { end = end; line = line; second = None; left = left }

  module _ (old start new : HostState) (loaded : Loaded) (supply : Supply) (read : HasRead (IsToRun k old loaded supply) old start) where
    run_is_made : (end : Conversation) (line : ℕ) (left : Supply) → RunComesTo (run_setting k [] loaded) supply end left start new → k.IsStopLine loaded end.end line → IsRunMade k old new (one_made end line left)
    run_is_made end line left run at = record {
      loaded = loaded;
      supply = supply;
      start = start;
      read = read;
      run = run;
      at = at;
      alone = refl;
    }

    run_cut_halts : (fault : TalkFault) → IsRunCutOff (run_setting k [] loaded) supply fault start new → WorkHalts (work_of_one k) old new (halt_of_talk fault)
    run_cut_halts fault cut = cut_halts (work_of_one k) old new fault (record { loaded = loaded; supply = supply; start = start; read = read; cut = cut })

  pub one_stays : FilesStay (work_of_one k)
  one_stays = record {
    made = λ old new m h name. h.run.only.files name ∙ h.read.reads.files name;
    cut = λ old new fault h name. h.cut.only.files name ∙ h.read.reads.files name;
  }

  -- ---- the run over devices, wherever the command began

  -- how it runs, up to a limit
  abbrev limited : Loaded → ℕ → RunSetting
  limited loaded limit = record { IsCourse = k.IsCourse loaded; limit = limit; prefix = [] }

  module _ (start : HostState) (loaded : Loaded) (supply : Supply) where
    -- there was no memory for what fills the machine's
    pub fill_halts : (r : Result Last Halt) → IsErrAnd r (λ e. e ≡ By OutOfMemory) → IfErr r (HaltsFrom (work_of_one k) (λ begin. IsToRun k begin loaded supply) start start)
    fill_halts r e =
        handed_on r (By OutOfMemory) (HaltsFrom (work_of_one k) (λ begin. IsToRun k begin loaded supply) start start) e (λ begin read. unloaded read.reads no_memory)

    module _ (mid : HostState) (limit : ℕ) (is : limit ≡ k.options.steps) where
      -- a fault cut it off
      pub ran_halts : (r : Result Last Halt) (fault : TalkFault) → IsErrAnd r (λ e. e ≡ halt_of_talk fault) → IsRunCutOff (limited loaded limit) supply fault start mid → IfErr r (HaltsFrom (work_of_one k) (λ begin. IsToRun k begin loaded supply) start mid)
      ran_halts r fault e cut =
          handed_on r (halt_of_talk fault) (HaltsFrom (work_of_one k) (λ begin. IsToRun k begin loaded supply) start mid) e
          (λ begin read. run_cut_halts begin start mid loaded supply read fault (subst (λ n. IsRunCutOff (limited loaded n) supply fault start mid) is cut))

      -- or it was made, and what is left to do was done
      module _ (new : HostState) (o : Conversation) (line : ℕ) (left : Supply) (run : RunComesTo (limited loaded limit) supply o left start mid) (at : (begin : HostState) → HasRead (IsToRun k begin loaded supply) begin start → RunComesTo (run_setting k [] loaded) supply o left start mid → k.IsStopLine loaded o.end line)
          (came : Result ℕ Stop) (name : Option (List ℕ)) (disk : List Stored) (came_is : came ≡ came_to k.options.steps line o) (name_is : name ≡ kept_disk_name k.options.out_disk o.end) (disk_is : disk ≡ left.system.disk) (r : Result Last Halt) where
        made : (begin : HostState) → HasRead (IsToRun k begin loaded supply) begin start → IsRunMade k begin mid (one_made o line left)
        made begin read =
            let whole : RunComesTo (run_setting k [] loaded) supply o left start mid = subst (λ n. RunComesTo (limited loaded n) supply o left start mid) is run in
            run_is_made begin start mid loaded supply read o line left whole (at begin read whole)

        pub ran_has : IfOk r (RunsAreLeft came None name disk mid new) → IfOk r (HasLastFrom (work_of_one k) (λ begin. IsToRun k begin loaded supply) start new)
        ran_has = left_has (work_of_one k) (λ begin. IsToRun k begin loaded supply) start mid new (one_made o line left) made came name disk came_is name_is disk_is r

        pub left_halted : IfErr r (Halts (LeaveStops name disk mid new)) → IfErr r (HaltsFrom (work_of_one k) (λ begin. IsToRun k begin loaded supply) start new)
        left_halted = left_halts (work_of_one k) (λ begin. IsToRun k begin loaded supply) start mid new (one_made o line left) made came name disk came_is name_is disk_is r
