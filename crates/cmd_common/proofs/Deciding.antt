-- From what a command gives to what it decides, and to the files that it leaves alone.
use Rattle.std.proofs.Common.{◌≡◌, ℕ, inl, inr, List, Option, Some, None, refl, sym, ap, ◌∙◌, subst}
use Rattle.host.specs.declared.HostFault.{HostFault}
use Rattle.host.specs.declared.HostFault.TheVariants.{Failed, Memory}
use Rattle.host.specs.Host.{HostState, OnlyReads, SameFiles, SameSaid, Says, WriteFault, said_more}
use Rattle.host.proofs.HostLemmas.{risen_on}
use Rattle.cmd_common.specs.Names.{FileNames, one_name}
use Rattle.cmd_common.specs.declared.names.InputFile.TheVariants.{First}
use Rattle.cmd_common.specs.declared.stop.Stop.{Stop}
use Rattle.cmd_common.specs.declared.stop.Stop.TheVariants.{OutOfMemory}
use Rattle.cmd_common.specs.Lines.{status_of, line_of_stop}
use Rattle.cmd_common.specs.Said.{SaysLine, IsDone, whole, failed, no_memory as no_memory_to_say, Closes, said, unsaid}
use Rattle.cmd_common.specs.Files.{NoneFailed, FileIsTold, IsWholeFile}
use Rattle.cmd_common.specs.Writing.{stop_of_write}
use Rattle.cmd_common.proofs.Told.{told_whole, read_stops, not_unsaid, closes_reads, memory_status, done_files}
use Rattle.cmd_common.proofs.Said.{line_after, closes_files}
use Rattle.cmd_common.specs.Kinds.{MakeKind, KindLaws}
use Rattle.cmd_common.specs.Makes.{IsOutput, LosesOutput, NothingMade, no_file, is_refused, no_memory, MakeStops, unmade, unwritten, HasMade, MakeGives, made, stopped, Decides, MakeCompletes}

-- nothing is said before the last line
quiet : (output : Option (List ℕ)) (bytes : List ℕ) (old new : HostState) → IsOutput output bytes old new → SameSaid old new
quiet None bytes old new only = only.said
quiet (Some name) bytes old new h = h.1

module _ {Made : Type 0} (k : MakeKind Made) (old new : HostState) where
  abbrev names : FileNames
  names = one_name k.file

  -- ---- what is decided

  module _ (laws : KindLaws k) (none : NoneFailed old new) (bytes : List ℕ) (told : FileIsTold old k.file k.most bytes) (status : ℕ) (memory : status ≡ 5 → ⊥) where
    by_line : (mid : HostState) (line : List ℕ) → HasMade k old mid line → status ≡ 0 → Says mid new line → Decides k old new bytes status
    by_line mid line h e s =
        let same = told_whole old k.file k.most bytes h.is.bytes told h.is.file in
        let gives : k.IsGiven bytes h.made = subst (λ b. k.IsGiven b h.made) same h.is.gives in
        let says : Says old new line = s ∙ ap (λ o. said_more o line) (quiet k.output (k.content h.made) old mid h.output) in
        record {
          accepted = λ m is. (e, subst (Says old new) (h.line_is ∙ ap k.report (laws.one bytes h.made m gives is)) says);
          refused = λ stop is. absurd (laws.apart bytes h.made stop gives is);
          one = inl (e, h.made, gives);
        }

    done : (mid : HostState) (line : List ℕ) → HasMade k old mid line → (n : ℕ) → n ≡ status → IsDone line mid new n → Decides k old new bytes status
    done mid line h _ e (whole only s same) = by_line mid line h (sym e) s
    done mid line h _ e (failed s) = absurd (not_unsaid old mid new none h.counted s.cause)
    done mid line h _ e (no_memory_to_say s) = absurd (memory (sym e))

    by_refusal : (mid : HostState) (read : List ℕ) (stop : Stop) → IsWholeFile old k.file k.most read → OnlyReads old mid → k.IsRefused read stop → Closes names stop mid new status → Decides k old new bytes status
    by_refusal mid read stop w only is (unsaid n e l) = absurd (memory e)
    by_refusal mid read stop w only is (said e l) =
        let same = told_whole old k.file k.most bytes read told w in
        let refused : k.IsRefused bytes stop = subst (λ b. k.IsRefused b stop) same is in
        record {
          accepted = λ m gives. absurd (laws.apart bytes m stop gives refused);
          refused = λ other also.
              let one = laws.refusal bytes stop other refused also in
              (e ∙ ap status_of one, subst (λ s. SaysLine old new (line_of_stop names s)) one (line_after (line_of_stop names stop) old mid new only l.line));
          one = inr (stop, refused, e);
        }

    by_nothing : (mid : HostState) (stop : Stop) → OnlyReads old mid → NothingMade k old mid stop → Closes names stop mid new status → Decides k old new bytes status
    by_nothing mid stop only (no_file s) closes =
        absurd (memory (memory_status names stop mid new status (read_stops old mid new First k.file k.most bytes stop none (closes_reads names stop mid new status closes) told s) closes))
    by_nothing mid stop only (is_refused read w counted is) closes = by_refusal mid read stop w only is closes
    by_nothing mid _ only no_memory closes = absurd (memory (memory_status names OutOfMemory mid new status refl closes))

    -- a write that failed counts as such
    write_failed : (mid : HostState) (stop : Stop) (fault : HostFault) → WriteFault old mid fault → stop ≡ stop_of_write fault → Closes names stop mid new status → ⊥
    write_failed mid stop Memory cause e closes = memory (memory_status names stop mid new status e closes)
    write_failed mid stop Failed cause e (said s l) = none.writes (risen_on old.write_faults mid.write_faults new.write_faults cause l.only.writes)
    write_failed mid stop Failed cause e (unsaid n s l) = memory s

    by_loss : (output : Option (List ℕ)) (content : List ℕ) (mid : HostState) (stop : Stop) → LosesOutput output content old mid stop → Closes names stop mid new status → ⊥
    by_loss None content mid stop h closes = h
    by_loss (Some name) content mid stop h closes = write_failed mid stop h.fault h.fails.cause h.is closes

    by_stop : (mid : HostState) (stop : Stop) → MakeStops k old mid stop → Closes names stop mid new status → Decides k old new bytes status
    by_stop mid stop (unmade only s) closes = by_nothing mid stop only s closes
    by_stop mid stop (unwritten m is s) closes = absurd (by_loss k.output (k.content m) mid stop s closes)

    decides : MakeGives k old new status → Decides k old new bytes status
    decides (made mid line h d) = done mid line h status refl d
    decides (stopped mid stop s c) = by_stop mid stop s c

  pub completes : KindLaws k → (status : ℕ) → MakeGives k old new status → MakeCompletes k old new status
  completes laws status gives = λ none bytes told memory. decides laws none bytes told status memory gives

  -- ---- the files, where none is written

  made_files : (output : Option (List ℕ)) (content : List ℕ) (mid : HostState) → output ≡ None → IsOutput output content old mid → SameFiles old mid
  made_files None content mid e only = only.files
  made_files (Some name) content mid e h = absurd (cc)

  lost_files : (output : Option (List ℕ)) (content : List ℕ) (mid : HostState) (stop : Stop) → output ≡ None → LosesOutput output content old mid stop → SameFiles old mid
  lost_files None content mid stop e h = absurd h
  lost_files (Some name) content mid stop e h = absurd (cc)

  pub files_stay : k.output ≡ None → (status : ℕ) → MakeGives k old new status → SameFiles old new
  files_stay e status (made mid line h d) = λ name. done_files line mid new status d name ∙ made_files k.output (k.content h.made) mid e h.output name
  files_stay e status (stopped mid stop (unmade only s) c) = λ name. closes_files names stop mid new status c name ∙ only.files name
  files_stay e status (stopped mid stop (unwritten m is s) c) = λ name. closes_files names stop mid new status c name ∙ lost_files k.output (k.content m) mid stop e s name
