-- A run that was made, by what each of its calls gave.
use Rattle.std.proofs.Common.{ℕ, List}
use Rattle.std.specs.Prelude.{Result, Ok, Err, IfOk, IfErr, OnOk}
use Rattle.host.specs.Host.{HostState, SameFaults, OnlySays}
use Rattle.dialogue.specs.declared.request.Reply.{Reply}
use Rattle.bdos_small.specs.Supply.{Supply}
use Rattle.emulator_loop.specs.declared.fault.TalkFault.{TalkFault}
use Rattle.emulator_loop.specs.declared.running.Conversation.{Conversation}
use Rattle.emulator_loop.specs.Talk.{SeenRun, SaysRun, IsCutOff}
use Rattle.cmd_runs.specs.Settings.{RunSetting, RunComesTo, IsRunCutOff}

module _ (setting : RunSetting) (supply left : Supply) (old new : HostState) where
  pub run_came : (r : Result Conversation TalkFault) → IfOk r (λ end. (course : List Reply → ℕ → SeenRun) → setting.IsCourse course → SaysRun course supply setting.limit setting.prefix end left old new) → OnlySays old new → OnOk r (SameFaults old new) → IfOk r (λ end. RunComesTo setting supply end left old new)
  run_came (Ok end) says only counted = record { says = says; only = only; counted = counted }
  run_came (Err fault) says only counted = says

  pub run_cut : (r : Result Conversation TalkFault) → IfErr r (λ fault. (course : List Reply → ℕ → SeenRun) → setting.IsCourse course → IsCutOff course supply setting.limit setting.prefix old new fault) → OnlySays old new → IfErr r (λ fault. IsRunCutOff setting supply fault old new)
  run_cut (Ok end) cut only = cut
  run_cut (Err fault) cut only = record { cut = cut; only = only }
