-- From a write to what is said of it.
use Rattle.std.proofs.Common.{◌≡◌, ℕ, true, false, inl, inr, ⊎_elim, List, take, ap, sym, ◌∙◌, subst}
use Rattle.std.specs.Prelude.{codes}
use Rattle.host.specs.declared.HostFault.{HostFault}
use Rattle.host.specs.declared.HostFault.TheVariants.{Failed, Memory}
use Rattle.host.specs.Host.{HostState, OnlyFileChanged, OnlyReads, OnlySays, OnlyWrites, SameSaid, Says, Rewrites, WriteFault, said_more, rewritten}
use Rattle.host.proofs.HostLemmas.{fault_after_reads}
use Rattle.host_files.specs.Transfer.{IsBeforeOrPart, CutsLine}
use Rattle.cmd_common.specs.Names.{FileNames}
use Rattle.cmd_common.specs.Lines.{memory_line}
use Rattle.cmd_common.specs.Said.{SaysLast, Closes, said, unsaid}
use Rattle.cmd_common.specs.Writing.{Writes, WritesPart, FailsToWrite, SaysOfWrite, stop_of_write}

module _ (old mid new : HostState) where
  pub said_on : (line : List ℕ) → SameSaid old mid → Says mid new line → Says old new line
  said_on line quiet s = s ∙ ap (λ o. said_more o line) quiet

  pub cut_on : (line : List ℕ) → SameSaid old mid → CutsLine line mid new → CutsLine line old new
  cut_on line quiet k = record { count = k.count; short = k.short; said = said_on (take k.count line) quiet k.said }

  module _ (name text : List ℕ) where
    -- a line was said behind
    others_on : OnlySays mid new → OnlyFileChanged old mid name → OnlyFileChanged old new name
    others_on only others = λ other ne. only.files other ∙ others other ne

    pub writes_on : OnlySays mid new → Writes name text old mid → Writes name text old new
    writes_on only w = record { text = only.files name ∙ w.text; others = others_on only w.others }

    pub part_on : OnlySays mid new → WritesPart name text old mid → WritesPart name text old new
    part_on only w = record {
      text = ⊎_elim (λ s. inl (only.files name ∙ s)) (λ k. inr (k.0, k.1, only.files name ∙ k.2)) w.text;
      others = others_on only w.others;
    }

    pub of_write : (line : List ℕ) (fault : HostFault) → FailsToWrite name text old mid fault → SaysLast line mid new → SaysOfWrite old new fault line
    of_write line fault w l = record { mid = mid; quiet = w.quiet; cause = w.cause; only = l.only; says = l.line }

    -- files were read before
    rewrites_behind : (bytes : List ℕ) → OnlyReads old mid → Rewrites mid new name bytes → Rewrites old new name bytes
    rewrites_behind bytes reads w = w ∙ ap (λ told. rewritten told bytes) (reads.files name)

    others_behind : OnlyReads old mid → OnlyFileChanged mid new name → OnlyFileChanged old new name
    others_behind reads others = λ other ne. others other ne ∙ reads.files other

    pub writes_behind : OnlyReads old mid → Writes name text mid new → Writes name text old new
    writes_behind reads w = record { text = rewrites_behind text reads w.text; others = others_behind reads w.others }

    pub fails_behind : (fault : HostFault) → OnlyReads old mid → FailsToWrite name text mid new fault → FailsToWrite name text old new fault
    fails_behind fault reads w = record {
      part = record {
        text = ⊎_elim (λ s. inl (s ∙ reads.files name)) (λ k. inr (k.0, k.1, rewrites_behind (take k.0 text) reads k.2)) w.part.text;
        others = others_behind reads w.part.others;
      };
      quiet = w.quiet ∙ reads.said;
      cause = fault_after_reads old mid new fault reads w.cause;
    }

    -- what is said where the write was the end
    pub write_end : (names : FileNames) (gives : ℕ → Type 0) → (WritesPart name text old new → SaysOfWrite old new Failed (codes "write failed\n") → gives 4) → (WritesPart name text old new → SaysOfWrite old new Memory memory_line → gives 5) → (fault : HostFault) → FailsToWrite name text old mid fault → (status : ℕ) → Closes names (stop_of_write fault) mid new status → gives status
    write_end names gives refused wanting Failed w status (unsaid n e l) = let fixed : true ≡ false = n in absurd cc
    write_end names gives refused wanting Memory w status (unsaid n e l) = let fixed : true ≡ false = n in absurd cc
    write_end names gives refused wanting Failed w status (said e l) = subst gives (sym e) (refused (part_on l.only w.part) (of_write (codes "write failed\n") Failed w l))
    write_end names gives refused wanting Memory w status (said e l) = subst gives (sym e) (wanting (part_on l.only w.part) (of_write memory_line Memory w l))

-- what the writing of a file comes to
pub wrote : (name text : List ℕ) (old new : HostState) → OnlyWrites old new name → Rewrites old new name text → Writes name text old new
wrote name text old new only file = record { text = file; others = only.files }

pub failed_to_write : (name text : List ℕ) (old new : HostState) (fault : HostFault) → OnlyWrites old new name → IsBeforeOrPart old new name text → WriteFault old new fault → FailsToWrite name text old new fault
failed_to_write name text old new fault only part cause = record { part = record { text = part; others = only.files }; quiet = only.said; cause = cause }
