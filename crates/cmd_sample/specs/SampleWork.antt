-- What the work of `sample` comes to, before its last line is said.
use Rattle.std.specs.Prelude.{◌≡◌, ℕ, List}
use Rattle.host.specs.Host.{HostState, SameSaid, SameFaults}
use Rattle.cmd_arguments.specs.Words.{Sample}
use Rattle.cmd_common.specs.declared.stop.Stop.{Stop}
use Rattle.cmd_common.specs.declared.stop.Stop.TheVariants.{OutOfMemory}
use Rattle.cmd_sample.specs.SampleReport.{SampleCounts, IsSampleLine}
use Rattle.cmd_sample.specs.declared.counts.Counts.{Counts as ReadCounts}
use Rattle.cmd_common.specs.Writing.{Writes, WriteStops}
use Rattle.cmd_sample.specs.Sample.{sample_text}

abbrev pub counts_read : ReadCounts → SampleCounts
counts_read n = record {
  routines = n.routines;
  lines = n.lines;
  instructions = n.instructions;
  cells = n.cells;
  code = n.code;
  saved = n.saved;
  sums = n.sums;
}

module _ (c : Sample) (old new : HostState) where
  -- the made source was written; the line says what it has
  pub record Works (line : List ℕ) : Type 0 where
    pub is : IsSampleLine c.count line
    pub writes : Writes c.output (sample_text c.count) old new
    pub quiet : SameSaid old new
    pub counted : SameFaults old new

  -- why the work ended early: memory ran out before anything was done, or a write failed
  pub data StopsBy : Stop → Type 0 where
    no_memory : new ≡ old → StopsBy OutOfMemory
    unwritten : {stop : Stop} → WriteStops c.output (sample_text c.count) old new stop → StopsBy stop
