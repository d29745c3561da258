-- What `sample` gives, by its status: the causes, the file, and what is said.
use Rattle.std.specs.Prelude.{◌≡◌, ◌≢◌, ◌≤◌, ℕ, List, codes}
use Rattle.host.specs.declared.HostFault.TheVariants.{Failed, Memory}
use Rattle.host.specs.Host.{HostState, Says, SameFaults, WriteFailed, MemoryWanted}
use Rattle.host_files.specs.Transfer.{CutsLine}
use Rattle.cmd_arguments.specs.Words.{Sample}
use Rattle.cmd_common.specs.Lines.{memory_line}
use Rattle.cmd_common.specs.Said.{SaysLast}
use Rattle.cmd_common.specs.Files.{NoneFailed}
use Rattle.cmd_sample.specs.Sample.{sample_text}
use Rattle.cmd_common.specs.Writing.{Writes, WritesPart, SaysOfWrite}
use Rattle.cmd_sample.specs.SampleReport.{IsSampleLine}

-- so many routines may be asked for
pub record IsCount (K : ℕ) : Type 0 where
  pub some : 1 ≤ K
  pub most : K ≤ 500

module _ (c : Sample) (old new : HostState) where
  -- each way to a status
  pub data SampleGives : ℕ → Type 0 where
    -- the made source is written, and its line said, and no call failed
    made : (line : List ℕ) → IsSampleLine c.count line → Writes c.output (sample_text c.count) old new → Says old new line → SameFaults old new → SampleGives 0
    -- it was not written, or its line not said
    unwritten : WritesPart c.output (sample_text c.count) old new → SaysOfWrite old new Failed (codes "write failed\n") → SampleGives 4
    unsaid : (line : List ℕ) → IsSampleLine c.count line → Writes c.output (sample_text c.count) old new → WriteFailed old new → CutsLine line old new → SampleGives 4
    -- memory ran out: before it is written, while the host writes it, or while the host says its line
    no_memory : SaysLast memory_line old new → SampleGives 5
    no_memory_to_write : WritesPart c.output (sample_text c.count) old new → SaysOfWrite old new Memory memory_line → SampleGives 5
    no_memory_to_say : (line : List ℕ) → IsSampleLine c.count line → Writes c.output (sample_text c.count) old new → MemoryWanted old new → CutsLine line old new → SampleGives 5

  -- want of memory aside, the status is 0 where no call failed
  abbrev pub Completes : ℕ → Type 0
  Completes status = NoneFailed old new → status ≢ 5 → status ≡ 0
