-- The files of a text's run, of which the text has no image.
use Rattle.std.proofs.Common.{◌≡◌, ◌⊎◌, ⊎_elim, ℕ, List, sym, subst}
use Rattle.host.specs.Host.{HostState, SameFaults}
use Rattle.cmd_arguments.specs.Words.{Run86}
use Rattle.cmd_common.specs.declared.stop.Stop.{Stop}
use Rattle.cmd_common.specs.declared.stop.Stop.TheVariants.{OutOfMemory}
use Rattle.cmd_common.specs.Files.{IsWholeFile, text_limit}
use Rattle.cmd_common.specs.Texts.{TextIsRefused}
use Rattle.cmd_runs.specs.Supplies.{Given, IsSupplied}
use Rattle.cmd_runs.specs.Kinds.{NothingToRun, is_refused, no_memory}
use Rattle.cmd_runs.specs.Runs86.{kind86}

-- the text is refused, or memory ran out
pub image_stops : (c : Run86) (old new : HostState) (text : List ℕ) (given : Given) → IsWholeFile old c.text text_limit text → IsSupplied c.run old given → SameFaults old new →
    (stop : Stop) → TextIsRefused text stop ⊎ (stop ≡ OutOfMemory) → NothingToRun (kind86 c) old new stop
image_stops c old new text given file supplied same stop h =
    ⊎_elim (λ r. is_refused text given file supplied same r) (λ m. subst (NothingToRun (kind86 c) old new) (sym m) no_memory) h
