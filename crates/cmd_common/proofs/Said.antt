-- A line that was said, whole or in part.
use Rattle.std.proofs.Common.{◌≡◌, ℕ, ◌<◌, inl, inr, ⊎_elim, List, length, take, arith, ap, subst, sym, ◌∙◌}
use Rattle.std.specs.Prelude.{Result, Ok, Err, IfErr, OnOk, OnErr}
use Rattle.std.proofs.lemmas.List.{take_all}
use Rattle.host.specs.declared.HostFault.{HostFault}
use Rattle.host.specs.declared.HostFault.TheVariants.{Failed, Memory}
use Rattle.host.specs.Host.{HostState, SameFiles, Says, said_more, OnlyReads, OnlySays, SameFaults, WriteFault}
use Rattle.host.proofs.HostLemmas.{fault_after_reads}
use Rattle.host_files.specs.Transfer.{CutsLine}
use Rattle.cmd_common.specs.Names.{FileNames}
use Rattle.cmd_common.specs.declared.stop.Stop.{Stop}
use Rattle.cmd_common.specs.declared.stop.Stop.TheVariants.{SourceLine, SourceProgram, ReadFailed, WriteFailed as Unwritten, OutOfMemory, LeftProfile, StepLimit, NotShown, InputEnded, TextLine, ShortJump, NoInstruction, StackSegment, OddCall, BadDisk, NoDrive, CodeTooLarge, FileTooLong, BadCommandFile, BadHex, TooManyStatements}
use Rattle.cmd_common.specs.Lines.{status_of, line_of_stop}
use Rattle.cmd_common.specs.Said.{SaysLine, SaysLast, IsDone, whole, failed, no_memory, said_status, Closes, said, unsaid}

-- what saying a line answers is what a last line says
pub said_last : (line : List ℕ) (old new : HostState) (result : Result Unit HostFault) → OnlySays old new →
    OnOk result (Says old new line) →
    OnErr result (CutsLine line old new) →
    IfErr result (WriteFault old new) →
    SaysLast line old new
said_last line old new (Ok _) only all part fails =
    record {
      only = only;
      line = record {
        count = length line;
        said = subst (Says old new) (sym (take_all (length line) line (omega arith))) all;
        whole = inl (omega arith);
      };
    }
said_last line old new (Err fault) only all part fails =
    record { only = only; line = record { count = part.count; said = part.said; whole = inr (fault, fails) } }

-- what was said after reads alone
pub line_after : (line : List ℕ) (old mid new : HostState) → OnlyReads old mid → SaysLine mid new line → SaysLine old new line
line_after line old mid new only s = record {
  count = s.count;
  said = s.said ∙ ap (λ told. said_more told (take s.count line)) only.said;
  whole = ⊎_elim (λ all. inl all) (λ f. inr (f.0, fault_after_reads old mid new f.0 only f.1)) s.whole;
}

-- what saying lines answers is what is said with status 0
pub done_by : (text : List ℕ) (old new : HostState) (result : Result Unit HostFault) → OnlySays old new →
    OnOk result (Says old new text) →
    OnOk result (SameFaults old new) →
    OnErr result (CutsLine text old new) →
    IfErr result (WriteFault old new) →
    IsDone text old new (said_status result)
done_by text old new (Ok _) only all counted part fails = whole only all counted
done_by text old new (Err Failed) only all counted part fails = failed (record { only = only; cut = part; cause = fails })
done_by text old new (Err Memory) only all counted part fails = no_memory (record { only = only; cut = part; cause = fails })

-- a stop's line, said last, closes by it
pub closed : (names : FileNames) (stop : Stop) (line : List ℕ) (old new : HostState) (status given : ℕ) → line ≡ line_of_stop names stop → status ≡ given → given ≡ status_of stop →
    SaysLast line old new → Closes names stop old new status
closed names stop line old new status given is_line is_given is_status last =
    said (is_given ∙ is_status) (subst (λ l. SaysLast l old new) is_line last)

-- the names are those that others are
pub named : {given names : FileNames} {stop : Stop} {old new : HostState} {status : ℕ} → given ≡ names → Closes given stop old new status → Closes names stop old new status
named {stop = stop} {old = old} {new = new} {status = status} e h = subst (λ n. Closes n stop old new status) e h

-- what is said last changes no file
pub closes_files : (names : FileNames) (stop : Stop) (old new : HostState) (status : ℕ) → Closes names stop old new status → SameFiles old new
closes_files names stop old new status (said e s) = s.only.files
closes_files names stop old new status (unsaid n e s) = s.only.files

-- the line of a stop is not empty
pub line_some : (names : FileNames) (stop : Stop) → 0 < length (line_of_stop names stop)
line_some names (SourceLine line rule) = omega arith
line_some names (SourceProgram line rule) = omega arith
line_some names (ReadFailed file) = omega arith
line_some names Unwritten = omega arith
line_some names OutOfMemory = omega arith
line_some names (LeftProfile line rule) = omega arith
line_some names (StepLimit steps) = omega arith
line_some names (NotShown at reason) = omega arith
line_some names InputEnded = omega arith
line_some names (TextLine line rule) = omega arith
line_some names (ShortJump line) = omega arith
line_some names (NoInstruction offset) = omega arith
line_some names (StackSegment offset) = omega arith
line_some names (OddCall offset function) = omega arith
line_some names (BadDisk place) = omega arith
line_some names (NoDrive function) = omega arith
line_some names (CodeTooLarge size) = omega arith
line_some names (FileTooLong file) = omega arith
line_some names (BadCommandFile place) = omega arith
line_some names (BadHex line) = omega arith
line_some names (TooManyStatements count) = omega arith

-- no stop is status 0
stop_not_0 : (stop : Stop) → status_of stop ≡ 0 → ⊥
stop_not_0 (SourceLine line rule) e = absurd (omega arith)
stop_not_0 (SourceProgram line rule) e = absurd (omega arith)
stop_not_0 (ReadFailed file) e = absurd (omega arith)
stop_not_0 Unwritten e = absurd (omega arith)
stop_not_0 OutOfMemory e = absurd (omega arith)
stop_not_0 (LeftProfile line rule) e = absurd (omega arith)
stop_not_0 (StepLimit steps) e = absurd (omega arith)
stop_not_0 (NotShown at reason) e = absurd (omega arith)
stop_not_0 InputEnded e = absurd (omega arith)
stop_not_0 (TextLine line rule) e = absurd (omega arith)
stop_not_0 (ShortJump line) e = absurd (omega arith)
stop_not_0 (NoInstruction offset) e = absurd (omega arith)
stop_not_0 (StackSegment offset) e = absurd (omega arith)
stop_not_0 (OddCall offset function) e = absurd (omega arith)
stop_not_0 (BadDisk place) e = absurd (omega arith)
stop_not_0 (NoDrive function) e = absurd (omega arith)
stop_not_0 (CodeTooLarge size) e = absurd (omega arith)
stop_not_0 (FileTooLong file) e = absurd (omega arith)
stop_not_0 (BadCommandFile place) e = absurd (omega arith)
stop_not_0 (BadHex line) e = absurd (omega arith)
stop_not_0 (TooManyStatements count) e = absurd (omega arith)

pub never_0 : (names : FileNames) (stop : Stop) (old new : HostState) (status : ℕ) → Closes names stop old new status → status ≡ 0 → ⊥
never_0 names stop old new status (said e s) z = stop_not_0 stop (sym e ∙ z)
never_0 names stop old new status (unsaid n e s) z = omega (arith, e, z)
