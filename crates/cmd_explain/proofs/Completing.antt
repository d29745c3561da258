-- The status of `explain` is that of the one thing that a check of both files comes to.
use Rattle.std.proofs.Common.{◌≡◌, ◌∙◌, ℕ, inl, ⊎_elim, List, refl, sym}
use Rattle.host.specs.Host.{HostState}
use Rattle.asm86_line_types.specs.declared.line.Line86.{Line86}
use Rattle.asm80_types.specs.Program.{Program}
use Rattle.sym_block_def.specs.declared.reason.Reason.{Reason}
use Rattle.xlt_core.specs.Names.{NotShown as NotFound}
use Rattle.cmd_arguments.specs.Words.{Check}
use Rattle.cmd_common.specs.Names.{FileNames, two_names}
use Rattle.cmd_common.specs.declared.stop.Stop.TheVariants.{NotShown}
use Rattle.cmd_common.specs.Files.{NoneFailed, FileIsTold, input_limit, text_limit}
use Rattle.cmd_common.specs.OneEnd.{HasStatus}
use Rattle.cmd_common.proofs.Told.{not_unsaid, closes_status}
use Rattle.cmd_check.specs.Checks.{Loads}
use Rattle.cmd_check.specs.Laws.{CheckLaws}
use Rattle.cmd_check.specs.Completes.{found_count, FilesComeTo, CountIsFound, CheckCompletes}
use Rattle.cmd_check.proofs.Files.{by_loading, by_load_stop}
use Rattle.cmd_check.proofs.Completing.{one_found, done}
use Rattle.cmd_explain.specs.Explains.{IsNotShown, SaysBefore, whole, failed, no_memory, ExplainGives, shown, stopped, explained}

module _ (law : CheckLaws) (c : Check) (old new : HostState) (none : NoneFailed old new) (source text : List ℕ) (first : FileIsTold old c.source input_limit source) (second : FileIsTold old c.text text_limit text) (status : ℕ) where
  abbrev names : FileNames
  names = two_names c.source c.text

  abbrev Answer : Type 0
  Answer = HasStatus (FilesComeTo c CountIsFound source text) status

  said : (mid : HostState) (p : Program) (lines : List Line86) (at : ℕ) (reason : Reason) (why : List ℕ) → Loads c old mid p lines → IsNotShown p lines at reason why → (n : ℕ) → n ≡ status → SaysBefore names why (NotShown at reason) mid new n → Answer
  said mid p lines at reason why l u n e (whole told only says same closes) =
      ⊎_elim (λ five. inl (sym e ∙ five))
      (λ is. by_loading law.files c CountIsFound (one_found law.finding) old new none source text first second status mid p lines l (found_count (NotFound at reason)) (NotFound at reason, u.finding, refl) (sym e ∙ is))
      (closes_status names (NotShown at reason) told new n closes)
  said mid p lines at reason why l u _ e (failed s) = absurd (not_unsaid old mid new none l.reads.counted s.cause)
  said mid p lines at reason why l u _ e (no_memory s) = inl (sym e)

  by_gift : ExplainGives c old new status → Answer
  by_gift (shown mid line h d) = done law c old new none source text first second status mid line h status refl d
  by_gift (stopped mid stop s closes) = by_load_stop law.files c CountIsFound (one_found law.finding) old new none source text first second status mid stop s closes
  by_gift (explained {at = at} {reason = reason} mid p lines why l u s) = said mid p lines at reason why l u status refl s

pub completes : CheckLaws → (c : Check) (old new : HostState) (status : ℕ) → ExplainGives c old new status → CheckCompletes c old new status
completes law c old new status gives none source text first second = by_gift law c old new none source text first second status gives
