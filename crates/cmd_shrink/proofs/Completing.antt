-- The status of `shrink` is that of the one thing that it comes to.
use Rattle.std.proofs.Common.{◌≡◌, ◌∙◌, ℕ, ◌-◌, inl, ⊎_elim, List, length, refl, sym, ap, arith}
use Rattle.std.specs.Prelude.{Result, Ok, Err}
use Rattle.host.specs.declared.HostFault.{HostFault}
use Rattle.host.specs.declared.HostFault.TheVariants.{Failed, Memory}
use Rattle.host.specs.Host.{HostState, WriteFault}
use Rattle.host.proofs.HostLemmas.{risen_on}
use Rattle.asm86_line_types.specs.declared.line.Line86.{Line86}
use Rattle.asm80_types.specs.Program.{Program}
use Rattle.sym_block_def.specs.declared.reason.Reason.{Reason}
use Rattle.xlt_core.specs.Names.{Shown, NotShown as NotFound}
use Rattle.shrink.specs.Laws.{OneShrunk}
use Rattle.cmd_arguments.specs.Words.{Shrink}
use Rattle.cmd_common.specs.Names.{FileNames, two_names}
use Rattle.cmd_common.specs.declared.stop.Stop.{Stop}
use Rattle.cmd_common.specs.declared.stop.Stop.TheVariants.{OutOfMemory, NotShown, TooManyStatements}
use Rattle.cmd_common.specs.Said.{IsDone, whole, failed, no_memory, Closes, said, unsaid}
use Rattle.cmd_common.specs.Files.{NoneFailed, FileIsTold, input_limit, text_limit}
use Rattle.cmd_common.specs.OneEnd.{HasStatus}
use Rattle.cmd_common.specs.Writing.{stop_of_write}
use Rattle.cmd_common.proofs.Told.{not_unsaid, closes_status, memory_status}
use Rattle.cmd_check.specs.Checks.{not_shown as is_not_shown, no_memory as memory_to_find}
use Rattle.cmd_check.specs.Laws.{CheckLaws}
use Rattle.cmd_check.specs.Completes.{found_count, FilesComeTo}
use Rattle.cmd_check.proofs.Files.{by_loading, by_load_stop}
use Rattle.cmd_shrink.specs.Shrinks.{check_of_text, too_many, unlike, no_memory as no_room, HasShrunk, Stops, unloaded, unshrunk, unwritten, ShrinkGives, shrunk, stopped}
use Rattle.cmd_shrink.specs.Completes.{LeavesOut, too_many as too_many_left, not_shown, shrunk as is_shrunk, ShrinkCompletes}

-- what is known of a check, and of what is left
pub record Laws : Type 0 where
  pub check : CheckLaws
  pub left : OneShrunk

module _ (law : Laws) (p : Program) (lines : List Line86) where
  unlike_shown : (at : ℕ) (reason : Reason) (blocks : ℕ) → NotFound at reason ≡ Shown blocks → ⊥
  unlike_shown at reason blocks e = cc

  pub one : (r s : Result ℕ Stop) → LeavesOut p lines r → LeavesOut p lines s → r ≡ s
  one r s (too_many_left many e) (too_many_left more f) = e ∙ sym f
  one r s (too_many_left many e) (not_shown at reason few h f) = absurd (omega (arith, many, few))
  one r s (too_many_left many e) (is_shrunk blocks left few h i f) = absurd (omega (arith, many, few))
  one r s (not_shown at reason few h e) (too_many_left many f) = absurd (omega (arith, many, few))
  one r s (not_shown at reason few h e) (not_shown other why less k f) = e ∙ ap found_count (law.check.finding p lines (NotFound at reason) (NotFound other why) h k) ∙ sym f
  one r s (not_shown at reason few h e) (is_shrunk blocks left less k i f) = absurd (unlike_shown at reason blocks (law.check.finding p lines (NotFound at reason) (Shown blocks) h k))
  one r s (is_shrunk blocks left few h i e) (too_many_left many f) = absurd (omega (arith, many, few))
  one r s (is_shrunk blocks left few h i e) (not_shown at reason less k f) = absurd (unlike_shown at reason blocks (law.check.finding p lines (NotFound at reason) (Shown blocks) k h))
  one r s (is_shrunk blocks left few h i e) (is_shrunk others kept less k j f) = e ∙ ap left_out (law.left p lines left kept i j) ∙ sym f
    where
      left_out : List Line86 → Result ℕ Stop
      left_out ys = Ok (length lines - length ys)

module _ (law : Laws) (c : Shrink) (old new : HostState) (none : NoneFailed old new) (source text : List ℕ) (first : FileIsTold old c.source input_limit source) (second : FileIsTold old c.text text_limit text) (status : ℕ) where
  abbrev names : FileNames
  names = two_names c.source c.text

  abbrev Answer : Type 0
  Answer = HasStatus (FilesComeTo (check_of_text c) LeavesOut source text) status

  -- a write that failed counts as such
  by_write : (mid : HostState) (stop : Stop) (fault : HostFault) → WriteFault old mid fault → stop ≡ stop_of_write fault → Closes names stop mid new status → Answer
  by_write mid stop Memory cause e closes = inl (memory_status names stop mid new status e closes)
  by_write mid stop Failed cause e (said s l) = absurd (none.writes (risen_on old.write_faults mid.write_faults new.write_faults cause l.only.writes))
  by_write mid stop Failed cause e (unsaid n s l) = inl s

  by_stop : (mid : HostState) (stop : Stop) → Stops c old mid stop → Closes names stop mid new status → Answer
  by_stop mid stop (unloaded s) closes = by_load_stop law.check.files (check_of_text c) LeavesOut (one law) old new none source text first second status mid stop s closes
  by_stop mid _ (unshrunk p lines l (too_many many)) closes =
      ⊎_elim (λ e. inl e)
      (λ e. by_loading law.check.files (check_of_text c) LeavesOut (one law) old new none source text first second status mid p lines l (Err (TooManyStatements (length lines))) (too_many_left many refl) e)
      (closes_status names (TooManyStatements (length lines)) mid new status closes)
  by_stop mid _ (unshrunk p lines l (unlike few (is_not_shown {at = at} {reason = reason} h))) closes =
      ⊎_elim (λ e. inl e)
      (λ e. by_loading law.check.files (check_of_text c) LeavesOut (one law) old new none source text first second status mid p lines l (Err (NotShown at reason)) (not_shown at reason few h refl) e)
      (closes_status names (NotShown at reason) mid new status closes)
  by_stop mid _ (unshrunk p lines l (unlike few memory_to_find)) closes = inl (memory_status names OutOfMemory mid new status refl closes)
  by_stop mid _ (unshrunk p lines l no_room) closes = inl (memory_status names OutOfMemory mid new status refl closes)
  by_stop mid stop (unwritten read p lines left l is w) closes = by_write mid stop w.fault w.fails.cause w.is closes

  done : (mid : HostState) (line : List ℕ) → HasShrunk c old mid line → (n : ℕ) → n ≡ status → IsDone line mid new n → Answer
  done mid line h _ e (whole only s same) =
      by_loading law.check.files (check_of_text c) LeavesOut (one law) old new none source text first second status h.read h.program h.lines h.loads (Ok (length h.lines - length h.left))
      (is_shrunk h.is_left.blocks h.left h.is_left.few h.is_left.finding h.is_left.is refl) (sym e)
  done mid line h _ e (failed s) = absurd (not_unsaid old mid new none h.counted s.cause)
  done mid line h _ e (no_memory s) = inl (sym e)

  by_gift : ShrinkGives c old new status → Answer
  by_gift (shrunk mid line h d) = done mid line h status refl d
  by_gift (stopped mid stop s closes) = by_stop mid stop s closes

pub completes : Laws → (c : Shrink) (old new : HostState) (status : ℕ) → ShrinkGives c old new status → ShrinkCompletes c old new status
completes law c old new status gives none source text first second = by_gift law c old new none source text first second status gives
