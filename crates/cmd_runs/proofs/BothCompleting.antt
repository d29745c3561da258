-- The status of `both` is that of the one thing that it comes to.
use Rattle.std.proofs.Common.{◌≡◌, ℕ, ◌⊎◌, inl, inr, ⊎_elim, ◌<◌, List, [], ◌∷◌, refl, sym, ap, ◌∙◌, subst, arith}
use Rattle.std.specs.Prelude.{Result, Err}
use Rattle.asm80_source_def.specs.Source.{IsSource, SourceRule, IsNoSource, OfLine, OfProgram}
use Rattle.asm80_types.specs.Program.{Program}
use Rattle.asm86_line_types.specs.declared.line.Line86.{Line86}
use Rattle.host.specs.declared.HostFault.TheVariants.{Failed as CallFailed}
use Rattle.host.proofs.HostLemmas.{SameFaults-trans}
use Rattle.host.specs.Host.{HostState, SameFaults}
use Rattle.bdos_small.specs.declared.fault.DiskFault.{DiskFault}
use Rattle.bdos_small.specs.declared.fault.DiskFault.TheVariants.{Bad, Memory}
use Rattle.bdos_small.specs.DiskFile.{IsBadAt}
use Rattle.bdos_small.specs.Reading.{IsDiskFaultOf}
use Rattle.bdos_small.specs.Supply.{Supply}
use Rattle.emulator_loop.specs.declared.fault.TalkFault.TheVariants.{Unsaid as Untold}
use Rattle.emulators.specs.Courses.{course80, course86}
use Rattle.emulators.specs.Starts.{start_by}
use Rattle.cmd_arguments.specs.Words.{Both}
use Rattle.cmd_common.specs.declared.names.InputFile.TheVariants.{First}
use Rattle.cmd_common.specs.declared.stop.Stop.{Stop}
use Rattle.cmd_common.specs.declared.stop.Stop.TheVariants.{CodeTooLarge, OutOfMemory}
use Rattle.cmd_common.specs.Lines.{status_of}
use Rattle.cmd_common.specs.Said.{Closes}
use Rattle.cmd_common.specs.Files.{input_limit, NoneFailed, FileIsTold}
use Rattle.cmd_common.specs.OneEnd.{IsOnlyEnd, HasStatus}
use Rattle.cmd_common.specs.Sources.{SourceStops, of_line as LineStops, of_program as ProgramStops, reading_of, SourceLaw}
use Rattle.cmd_common.proofs.Told.{told_whole, read_stops, not_unsaid, closes_reads, closes_status, memory_status}
use Rattle.cmd_runs.specs.Names.{run_names}
use Rattle.cmd_runs.specs.Supplies.{Given, SupplyIsTold, HasDisk, stop_of_disk, fill_by}
use Rattle.cmd_runs.specs.Kinds.{NothingToRun, no_file, no_supply, is_refused, no_disk, no_memory as no_room_to_load}
use Rattle.cmd_runs.specs.Outcomes.{FilesComeTo}
use Rattle.cmd_runs.specs.Works.{RunsMade, came_by, WorkGives}
use Rattle.cmd_runs.proofs.Told.{told_given, supply_stops}
use Rattle.cmd_runs.proofs.Disks.{DiskLaw, disk_or_none}
use Rattle.cmd_runs.proofs.Completing.{work_completes}
use Rattle.cmd_runs.proofs.OneOutcome as kind
use Rattle.cmd_runs.specs.Runs80.{kind80}
use Rattle.cmd_runs.proofs.Laws80.{laws80}
use Rattle.templates.specs.declared.translation.Mode.TheVariants.{Lean}
use Rattle.templates.specs.Translation.{IsText, code_size, CodeFits, IsTooLarge}
use Rattle.templates_law.proofs.OneText.{OneText}
use Rattle.cmd_runs.specs.BothLoads.{source_of, LeanStops, is_large, no_room, NeitherToRun, unloaded, no_image, no_memory}
use Rattle.cmd_runs.specs.BothRuns.{prefix80, AreBothMade, IsEitherCut, in_first, in_second, work_both}
use Rattle.cmd_runs.specs.BothCompletes.{LeanFits, BothComeTo, as_run80, too_large, BothComplete}

module _ (c : Both) (law : SourceLaw (reading_of c.zilog)) (disks : DiskLaw) (text_is : OneText) where
  module _ (source : List ℕ) (given : Given) where
    -- a text that fits is none that is too large
    not_large : (size : ℕ) (p : Program) (supply : Supply) → LeanFits c source given → IsSource (reading_of c.zilog) source c.top p → HasDisk given supply → IsTooLarge Lean p size → ⊥
    not_large size p supply fits is has large =
        let few : code_size large.lines < 0x10000 = fits p supply large.lines is has large.text in
        let many = large.large in
        let same = large.is in
        omega (arith, few, many, same)

    -- what `run80` comes to is what this does, where the code fits
    other_fit : (r : Result ℕ Stop) → LeanFits c source given → IsOnlyEnd (FilesComeTo (kind80 (source_of c)) source given) r → (other : Result ℕ Stop) → BothComeTo c source given other → other ≡ r
    other_fit r fits one other (as_run80 f h) = one.only other h
    other_fit r fits one _ (too_large p supply size is has large) = absurd (not_large size p supply fits is has large)

    only_fit : (r : Result ℕ Stop) → LeanFits c source given → IsOnlyEnd (FilesComeTo (kind80 (source_of c)) source given) r → IsOnlyEnd (BothComeTo c source given) r
    only_fit r fits one = record { comes = as_run80 fits one.comes; only = other_fit r fits one }

    status_fit : (status : ℕ) → LeanFits c source given → HasStatus (FilesComeTo (kind80 (source_of c)) source given) status → HasStatus (BothComeTo c source given) status
    status_fit status fits s = ⊎_elim (λ e. inl e) (λ h. inr (h.0, only_fit h.0 fits h.1, h.2)) s

    -- the code of a program fits, if that of one does
    fits_by : (p : Program) (lines : List Line86) → IsSource (reading_of c.zilog) source c.top p → IsText Lean p lines → CodeFits lines → LeanFits c source given
    fits_by p lines is text fits q supply others other has also =
        let program : q ≡ p = law.program source c.top q p other is in
        let same : others ≡ lines = text_is Lean p others lines (subst (λ x. IsText Lean x others) program also) text in
        subst CodeFits (sym same) fits

    -- no program, or no disk
    fits_nowhere : (line : ℕ) (rule : SourceRule) → IsNoSource (reading_of c.zilog) source c.top line rule → LeanFits c source given
    fits_nowhere line rule none p supply lines is has text = absurd (law.apart source c.top line p rule is none)

    fits_no_disk : (k : ℕ) → IsBadAt given.disk k → LeanFits c source given
    fits_no_disk k bad p supply lines is has text = absurd (disk_or_none disks given supply k has bad)

    by_rule : (stop : Stop) → SourceStops (reading_of c.zilog) source c.top stop → LeanFits c source given
    by_rule _ (LineStops {line = line} {rule = rule} h) = fits_nowhere line (OfLine rule) h
    by_rule _ (ProgramStops {line = line} {rule = rule} h) = fits_nowhere line (OfProgram rule) h

    -- the code is too large
    other_large : (p : Program) (supply : Supply) (size : ℕ) → IsSource (reading_of c.zilog) source c.top p → HasDisk given supply → IsTooLarge Lean p size → (other : Result ℕ Stop) → BothComeTo c source given other → other ≡ Err (CodeTooLarge size)
    other_large p supply size is has large other (as_run80 fits h) = absurd (not_large size p supply fits is has large)
    other_large p supply size is has large _ (too_large q s n also there more) =
        let program : q ≡ p = law.program source c.top q p also is in
        let lines : more.lines ≡ large.lines = text_is Lean p more.lines large.lines (subst (λ x. IsText Lean x more.lines) program more.text) large.text in
        let size_is : n ≡ size = more.is ∙ ap code_size lines ∙ sym large.is in
        ap (λ x. Err (CodeTooLarge x)) size_is

    large_status : (p : Program) (supply : Supply) (status : ℕ) (stop : Stop) → IsSource (reading_of c.zilog) source c.top p → HasDisk given supply → LeanStops p stop → (status ≡ 5) ⊎ (status ≡ status_of stop) → HasStatus (BothComeTo c source given) status
    large_status p supply status _ is has (is_large {size = size} large) s =
        ⊎_elim (λ e. inl e) (λ e. inr (Err (CodeTooLarge size), record { comes = too_large p supply size is has large; only = other_large p supply size is has large }, e)) s
    large_status p supply status _ is has no_room s = ⊎_elim (λ e. inl e) (λ e. inl e) s

    -- the disk's file is none
    disk_status : (p : Program) (fault : DiskFault) (status : ℕ) → IsSource (reading_of c.zilog) source c.top p → IsDiskFaultOf given.disk fault → (status ≡ 5) ⊎ (status ≡ status_of (stop_of_disk fault)) → HasStatus (BothComeTo c source given) status
    disk_status p (Bad k) status is bad s =
        status_fit status (fits_no_disk k bad) (kind.disk_status (kind80 (source_of c)) (laws80 (source_of c) law) disks source given p (Bad k) status is bad s)
    disk_status p Memory status is bad s = ⊎_elim (λ e. inl e) (λ e. inl e) s

  module _ (old new : HostState) (none : NoneFailed old new) (source : List ℕ) (given : Given) (told : FileIsTold old c.source input_limit source) (fed : SupplyIsTold c.run old given) where
    laws : kind.KindLaws (kind80 (source_of c))
    laws = laws80 (source_of c) law

    -- the runs that were made are those of these bytes
    only_both : (mid : HostState) (m : RunsMade) → AreBothMade c old mid m → IsOnlyEnd (BothComeTo c source given) (came_by (work_both c) m)
    only_both mid m h =
        let stands = h.read.stands in
        let n = stands.source.named in
        let lean = stands.lean in
        let same = told_whole old c.source input_limit source n.bytes told n.file in
        let is : IsSource (reading_of c.zilog) source c.top h.program = subst (λ b. IsSource (reading_of c.zilog) b c.top h.program) same n.gives in
        only_fit source given (came_by (work_both c) m) (fits_by source given h.program lean.lines is lean.text lean.fits)
        (kind.only_made (kind80 (source_of c)) laws disks old new none source given told fed prefix80 h.program h.supply m.left m.end m.line h.start h.mid stands.source h.first h.at)

    unread : (mid : HostState) (stop : Stop) (status : ℕ) → NothingToRun (kind80 (source_of c)) old mid stop → Closes (run_names c.source c.run) stop mid new status → HasStatus (BothComeTo c source given) status
    unread mid stop status (no_file s) closes =
        inl (memory_status (run_names c.source c.run) stop mid new status (read_stops old mid new First c.source input_limit source stop none (closes_reads (run_names c.source c.run) stop mid new status closes) told s) closes)
    unread mid stop status (no_supply bytes w s) closes =
        inl (memory_status (run_names c.source c.run) stop mid new status (supply_stops old mid new c.run given stop none (closes_reads (run_names c.source c.run) stop mid new status closes) fed s) closes)
    unread mid stop status (is_refused bytes i w with_these same stops) closes =
        let e = told_whole old c.source input_limit source bytes told w in
        let these : SourceStops (reading_of c.zilog) source c.top stop = subst (λ b. SourceStops (reading_of c.zilog) b c.top stop) e stops in
        status_fit source given status (by_rule source given stop these) (kind.refusal_status (kind80 (source_of c)) laws disks source given stop status these (closes_status (run_names c.source c.run) stop mid new status closes))
    unread mid stop status (no_disk program i n same stops) closes =
        let e = told_whole old c.source input_limit source n.bytes told n.file in
        let whose = told_given old c.run given i fed n.supplied in
        disk_status source given program stops.0 status (subst (λ b. IsSource (reading_of c.zilog) b c.top program) e n.gives) (subst (λ (x : Given). IsDiskFaultOf x.disk stops.0) whose stops.1)
        (subst (λ s. (status ≡ 5) ⊎ (status ≡ status_of s)) stops.2 (closes_status (run_names c.source c.run) stop mid new status closes))
    unread mid _ status no_room_to_load closes = inl (memory_status (run_names c.source c.run) OutOfMemory mid new status refl closes)

    unmade : (mid : HostState) (stop : Stop) (status : ℕ) → NeitherToRun c old mid stop → Closes (run_names c.source c.run) stop mid new status → HasStatus (BothComeTo c source given) status
    unmade mid stop status (unloaded s) closes = unread mid stop status s closes
    unmade mid stop status (no_image program supply l same s) closes =
        let e = told_whole old c.source input_limit source l.named.bytes told l.named.file in
        let whose = told_given old c.run given l.given fed l.named.supplied in
        large_status source given program supply status stop (subst (λ b. IsSource (reading_of c.zilog) b c.top program) e l.named.gives) (subst (λ x. HasDisk x supply) whose l.devices) s (closes_status (run_names c.source c.run) stop mid new status closes)
    unmade mid _ status no_memory closes = inl (memory_status (run_names c.source c.run) OutOfMemory mid new status refl closes)

    both_counted : (mid : HostState) (m : RunsMade) → AreBothMade c old mid m → SameFaults old mid
    both_counted mid m h =
        let before = h.read.counted in
        let first = h.first.counted in
        let after = h.second.counted in
        SameFaults-trans before (SameFaults-trans first after)

    both_uncut : IsEitherCut c old new (Untold CallFailed) → ⊥
    both_uncut (in_first h) = not_unsaid old h.start new none h.read.counted (h.cut.cut (course80 h.program c.run.page) refl).1
    both_uncut (in_second h) =
        let reader = h.read.stands.lean.reader in
        let before = h.read.counted in
        let after = h.first.counted in
        not_unsaid old h.mid new none (SameFaults-trans before after)
        (h.cut.cut (course86 reader.0 h.image c.run.page (fill_by c.choice) (start_by c.choice) (c.choice ∷ [])) (record { fetch = reader.0; reads = reader.1.0; is = refl })).1

  pub completes_both : (old new : HostState) (status : ℕ) → WorkGives (work_both c) old new status → BothComplete c old new status
  completes_both old new status gives none source given told fed =
      work_completes (work_both c) old new none (BothComeTo c source given)
      (both_counted old new none source given told fed)
      (both_uncut old new none source given told fed)
      (only_both old new none source given told fed)
      (unmade old new none source given told fed) status gives
