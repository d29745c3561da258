-- A source that is refused stops a command that makes something of its program.
use Rattle.std.proofs.Common.{◌≡◌, ℕ, List, sym, subst}
use Rattle.std.specs.Prelude.{Result, Err}
use Rattle.host.specs.Host.{HostState, OnlyReads, SameFaults}
use Rattle.asm80_types.specs.Reading.{Reading}
use Rattle.asm80_types.specs.Program.{Program}
use Rattle.cmd_common.specs.declared.stop.Stop.{Stop}
use Rattle.cmd_common.specs.Files.{input_limit, IsWholeFile}
use Rattle.cmd_common.specs.Sources.{SourceStops, SourceGives, ReadsSource}
use Rattle.cmd_common.specs.Kinds.{MakeKind}
use Rattle.cmd_common.specs.Makes.{MakeStops, unmade, is_refused}

-- the source was read, and the kind refuses what is none
pub source_stop : {Made : Type 0} (k : MakeKind Made) (reading : Reading) (top : ℕ) (old new : HostState) → k.most ≡ input_limit → ((bytes : List ℕ) (stop : Stop) → SourceStops reading bytes top stop → k.IsRefused bytes stop) → OnlyReads old new → SameFaults old new → (outcome : Result Program Stop) (stop : Stop) → ReadsSource reading old k.file top outcome → outcome ≡ Err stop → MakeStops k old new stop
source_stop k reading top old new most refuses only counted outcome stop read was =
    let file : IsWholeFile old k.file k.most read.bytes = subst (λ n. IsWholeFile old k.file n read.bytes) (sym most) read.file in
    unmade only (is_refused read.bytes file counted (refuses read.bytes stop (subst (SourceGives reading read.bytes top) was read.gives)))
