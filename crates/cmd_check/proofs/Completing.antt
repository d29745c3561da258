-- The status of `check` is that of the one thing that it comes to.
use Rattle.std.proofs.Common.{◌≡◌, ◌∙◌, ℕ, inl, ⊎_elim, List, refl, sym, ap}
use Rattle.std.specs.Prelude.{Result}
use Rattle.host.specs.Host.{HostState}
use Rattle.asm86_line_types.specs.declared.line.Line86.{Line86}
use Rattle.asm80_types.specs.Program.{Program}
use Rattle.xlt_core.specs.Names.{Shown, NotShown as NotFound, OneFinding}
use Rattle.cmd_arguments.specs.Words.{Check}
use Rattle.cmd_common.specs.Names.{FileNames, two_names}
use Rattle.cmd_common.specs.declared.stop.Stop.{Stop}
use Rattle.cmd_common.specs.declared.stop.Stop.TheVariants.{OutOfMemory, NotShown}
use Rattle.cmd_common.specs.Said.{IsDone, whole, failed, no_memory, Closes}
use Rattle.cmd_common.specs.Files.{NoneFailed, FileIsTold, input_limit, text_limit}
use Rattle.cmd_common.specs.OneEnd.{HasStatus}
use Rattle.cmd_common.proofs.Told.{not_unsaid, closes_status, memory_status}
use Rattle.cmd_check.specs.Checks.{Shows, not_shown, no_memory as memory_wanting, Stops, unloaded, unlike, CheckGives, shown, stopped}
use Rattle.cmd_check.specs.Laws.{CheckLaws}
use Rattle.cmd_check.specs.Completes.{found_count, FilesComeTo, CountIsFound, CheckCompletes}
use Rattle.cmd_check.proofs.Files.{by_loading, by_load_stop}

pub one_found : OneFinding → (p : Program) (lines : List Line86) (r s : Result ℕ Stop) → CountIsFound p lines r → CountIsFound p lines s → r ≡ s
one_found one p lines r s h k = h.2 ∙ ap found_count (one p lines h.0 k.0 h.1 k.1) ∙ sym k.2

module _ (law : CheckLaws) (c : Check) (old new : HostState) (none : NoneFailed old new) (source text : List ℕ) (first : FileIsTold old c.source input_limit source) (second : FileIsTold old c.text text_limit text) (status : ℕ) where
  abbrev names : FileNames
  names = two_names c.source c.text

  abbrev Answer : Type 0
  Answer = HasStatus (FilesComeTo c CountIsFound source text) status

  by_stop : (mid : HostState) (stop : Stop) → Stops c old mid stop → Closes names stop mid new status → Answer
  by_stop mid stop (unloaded s) closes = by_load_stop law.files c CountIsFound (one_found law.finding) old new none source text first second status mid stop s closes
  by_stop mid _ (unlike p lines l (not_shown {at = at} {reason = reason} h)) closes =
      ⊎_elim (λ e. inl e)
      (λ e. by_loading law.files c CountIsFound (one_found law.finding) old new none source text first second status mid p lines l (found_count (NotFound at reason)) (NotFound at reason, h, refl) e)
      (closes_status names (NotShown at reason) mid new status closes)
  by_stop mid _ (unlike p lines l memory_wanting) closes = inl (memory_status names OutOfMemory mid new status refl closes)

  pub done : (mid : HostState) (line : List ℕ) → Shows c old mid line → (n : ℕ) → n ≡ status → IsDone line mid new n → Answer
  done mid line h _ e (whole only s same) =
      by_loading law.files c CountIsFound (one_found law.finding) old new none source text first second status mid h.program h.lines h.loads (found_count (Shown h.blocks)) (Shown h.blocks, h.shown.finding, refl) (sym e)
  done mid line h _ e (failed s) = absurd (not_unsaid old mid new none h.loads.reads.counted s.cause)
  done mid line h _ e (no_memory s) = inl (sym e)

  by_gift : CheckGives c old new status → Answer
  by_gift (shown mid line h d) = done mid line h status refl d
  by_gift (stopped mid stop s closes) = by_stop mid stop s closes

pub completes : CheckLaws → (c : Check) (old new : HostState) (status : ℕ) → CheckGives c old new status → CheckCompletes c old new status
completes law c old new status gives none source text first second = by_gift law c old new none source text first second status gives
