-- From the work of `sample` and the last line to what the command gives.
use Rattle.std.proofs.Common.{◌≡◌, ℕ, List, sym, subst, refl}
use Rattle.host.specs.declared.HostFault.TheVariants.{Failed, Memory}
use Rattle.host.specs.Host.{HostState}
use Rattle.host.proofs.HostLemmas.{SameFaults-trans, risen_on, fault_after}
use Rattle.cmd_arguments.specs.Words.{Sample}
use Rattle.cmd_common.specs.Names.{FileNames}
use Rattle.cmd_common.specs.declared.stop.Stop.{Stop}
use Rattle.cmd_common.specs.Lines.{memory_line}
use Rattle.cmd_common.specs.Said.{SaysLast, IsDone, whole, failed, no_memory, Closes, said, unsaid}
use Rattle.cmd_sample.specs.Sample.{sample_text}
use Rattle.cmd_sample.specs.Samples.{SampleGives, made, unwritten, unsaid as line_unsaid, no_memory as no_room, no_memory_to_write, no_memory_to_say, Completes}
use Rattle.cmd_sample.specs.SampleWork.{Works, StopsBy, no_memory as stop_no_memory, unwritten as stop_unwritten}
use Rattle.cmd_common.proofs.WriteEnds.{said_on, cut_on, writes_on, write_end}

module _ (c : Sample) (old mid new : HostState) where
  -- the source was written
  pub worked : (line : List ℕ) → Works c old mid line → (status : ℕ) → IsDone line mid new status → SampleGives c old new status
  worked line w _ (whole only s faults) =
      made line w.is (writes_on old mid new c.output (sample_text c.count) only w.writes) (said_on old mid new line w.quiet s)
      (SameFaults-trans w.counted faults)
  worked line w _ (failed s) =
      line_unsaid line w.is (writes_on old mid new c.output (sample_text c.count) s.only w.writes)
      (fault_after old mid new Failed w.counted s.cause) (cut_on old mid new line w.quiet s.cut)
  worked line w _ (no_memory s) =
      no_memory_to_say line w.is (writes_on old mid new c.output (sample_text c.count) s.only w.writes)
      (fault_after old mid new Memory w.counted s.cause) (cut_on old mid new line w.quiet s.cut)

  memory_end : mid ≡ old → SaysLast memory_line mid new → SampleGives c old new 5
  memory_end same l = no_room (subst (λ h. SaysLast memory_line h new) same l)

  -- the work ended early
  pub stopped : (names : FileNames) (stop : Stop) → StopsBy c old mid stop → (status : ℕ) → Closes names stop mid new status → SampleGives c old new status
  stopped names _ (stop_no_memory same) status (said e l) = subst (SampleGives c old new) (sym e) (memory_end same l)
  stopped names _ (stop_no_memory same) status (unsaid n e l) = subst (SampleGives c old new) (sym e) (memory_end same l)
  stopped names stop (stop_unwritten w) status closes =
      write_end old mid new c.output (sample_text c.count) names (SampleGives c old new) unwritten no_memory_to_write
      w.fault w.fails status (subst (λ s. Closes names s mid new status) w.is closes)

-- want of memory aside, only a call that failed gives another status than 0
pub completes : (c : Sample) (old new : HostState) (status : ℕ) → SampleGives c old new status → Completes c old new status
completes c old new _ (made line is w s f) none memory = refl
completes c old new _ (unwritten w s) none memory =
    absurd (none.writes (risen_on old.write_faults s.mid.write_faults new.write_faults s.cause s.only.writes))
completes c old new _ (line_unsaid line is w f s) none memory = absurd (none.writes f)
completes c old new _ (no_room l) none memory = absurd (memory refl)
completes c old new _ (no_memory_to_write w s) none memory = absurd (memory refl)
completes c old new _ (no_memory_to_say line is w f s) none memory = absurd (memory refl)
