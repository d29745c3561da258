-- What a command that makes one run comes to by the whole bytes of its files is one thing.
use Rattle.std.proofs.Common.{◌≡◌, ℕ, ◌⊎◌, inl, inr, ⊎_elim, List, [], refl, ap, ◌∙◌, subst}
use Rattle.std.specs.Prelude.{Result, Err}
use Rattle.dialogue.specs.declared.request.Reply.{Reply}
use Rattle.host.specs.declared.HostFault.TheVariants.{Failed as CallFailed}
use Rattle.host.proofs.HostLemmas.{SameFaults-trans}
use Rattle.host.specs.Host.{HostState, SameFaults}
use Rattle.bdos_small.specs.declared.fault.DiskFault.{DiskFault}
use Rattle.bdos_small.specs.declared.fault.DiskFault.TheVariants.{Bad, Memory}
use Rattle.base.proofs.Fronts.{one_place}
use Rattle.bdos_small.specs.DiskFile.{IsBadAt}
use Rattle.bdos_small.specs.Reading.{IsDiskFaultOf}
use Rattle.bdos_small.specs.Supply.{Supply}
use Rattle.emulator_loop.specs.declared.fault.TalkFault.TheVariants.{Unsaid as Untold}
use Rattle.emulator_loop.specs.declared.running.Conversation.{Conversation}
use Rattle.emulator_loop.specs.declared.running.RunEnd.{RunEnd}
use Rattle.emulator_loop.specs.Talk.{SeenRun}
use Rattle.cmd_common.specs.declared.names.InputFile.TheVariants.{First}
use Rattle.cmd_common.specs.declared.stop.Stop.{Stop}
use Rattle.cmd_common.specs.declared.stop.Stop.TheVariants.{BadDisk, OutOfMemory}
use Rattle.cmd_common.specs.Lines.{status_of}
use Rattle.cmd_common.specs.Said.{Closes}
use Rattle.cmd_common.specs.Files.{NoneFailed, FileIsTold}
use Rattle.cmd_common.specs.OneEnd.{IsOnlyEnd, HasStatus}
use Rattle.cmd_common.proofs.Told.{told_whole, read_stops, not_unsaid, closes_reads, closes_status, memory_status}
use Rattle.cmd_runs.specs.Names.{run_names}
use Rattle.cmd_runs.specs.Ends.{came_to}
use Rattle.cmd_runs.specs.Supplies.{Given, SupplyIsTold, HasDisk, stop_of_disk}
use Rattle.cmd_runs.specs.Settings.{RunComesTo}
use Rattle.cmd_runs.specs.Kinds.{RunKind, run_setting, IsToRun, NothingToRun, no_file, no_supply, is_refused, no_disk, no_memory}
use Rattle.cmd_runs.specs.Outcomes.{ComesTo, FilesComeTo, refuses, of_disk, runs, RunCompletes}
use Rattle.cmd_runs.specs.Works.{RunsMade, WorkGives, IsRunMade, IsRunCut, work_of_one}
use Rattle.cmd_runs.proofs.Told.{told_given, supply_stops}
use Rattle.cmd_runs.proofs.Disks.{DiskLaw, one_supply, disk_or_none}
use Rattle.cmd_runs.proofs.Completing.{work_completes}

-- what is known of a kind: its bytes give one thing or are refused by one stop, what can be read has a course, an end has one line
pub record KindLaws {Loaded : Type 0} (k : RunKind Loaded) : Type 0 where
  pub one : (bytes : List ℕ) (a b : Loaded) → k.IsGiven bytes a → k.IsGiven bytes b → a ≡ b
  pub refusal : (bytes : List ℕ) (s t : Stop) → k.IsRefused bytes s → k.IsRefused bytes t → s ≡ t
  pub apart : (bytes : List ℕ) (a : Loaded) (s : Stop) → k.IsGiven bytes a → k.IsRefused bytes s → ⊥
  pub course : (a : Loaded) → k.IsReadable a → (course : List Reply → ℕ → SeenRun) × k.IsCourse a course
  pub line : (a : Loaded) (end : RunEnd) (m n : ℕ) → k.IsStopLine a end m → k.IsStopLine a end n → m ≡ n

module _ {Loaded : Type 0} (k : RunKind Loaded) (laws : KindLaws k) (disks : DiskLaw) where
  -- a run is the one thing that the files come to
  module _ (bytes : List ℕ) (given : Given) (loaded : Loaded) (supply left : Supply) (prefix : List ℕ) (o : Conversation) (line : ℕ) (start new : HostState) (is : k.IsGiven bytes loaded) (readable : k.IsReadable loaded) (has : HasDisk given supply) (run : RunComesTo (run_setting k prefix loaded) supply o left start new)
      (at : k.IsStopLine loaded o.end line) where
    other_end : (l : Loaded) (course : List Reply → ℕ → SeenRun) (e : Conversation) → l ≡ loaded → k.IsCourse l course → ComesTo course supply k.options.steps e → e ≡ o
    other_end l course e same is_course to = ((run.says course (subst (λ x. k.IsCourse x course) same is_course)).only e to.0 to.1).0

    other_run : (r : Result ℕ Stop) → FilesComeTo k bytes given r → r ≡ came_to k.options.steps line o
    other_run _ (refuses {stop = s} h) = absurd (laws.apart bytes loaded s is h)
    other_run _ (of_disk l place h bad) = absurd (disk_or_none disks given supply place has bad)
    other_run r (runs l course s e n there is_course devices to at_line same) =
        let one : l ≡ loaded = laws.one bytes l loaded there is in
        let same_end : e ≡ o = other_end l course e one is_course (subst (λ x. ComesTo course x k.options.steps e) (one_supply disks given s supply devices has) to) in
        let here : k.IsStopLine loaded o.end n = subst (λ (x : Conversation). k.IsStopLine loaded x.end n) same_end (subst (λ x. k.IsStopLine x e.end n) one at_line) in
        same ∙ ap (λ x. came_to k.options.steps n x) same_end ∙ ap (λ x. came_to k.options.steps x o) (laws.line loaded o.end n line here at)

    pub only_run : IsOnlyEnd (FilesComeTo k bytes given) (came_to k.options.steps line o)
    only_run =
        let way = laws.course loaded readable in
        let made = run.says way.0 way.1 in
        record { comes = runs loaded way.0 supply o line is way.1 has (made.run, made.outcome) at refl; only = other_run }

  module _ (bytes : List ℕ) (given : Given) where
    -- a refusal is the one thing that the bytes come to
    other_refusal : (stop : Stop) → k.IsRefused bytes stop → (r : Result ℕ Stop) → FilesComeTo k bytes given r → r ≡ Err stop
    other_refusal stop is _ (refuses {stop = s} h) = ap Err (laws.refusal bytes s stop h is)
    other_refusal stop is _ (of_disk l place there bad) = absurd (laws.apart bytes l stop there is)
    other_refusal stop is r (runs l course s e n there is_course devices to at_line same) = absurd (laws.apart bytes l stop there is)

    pub refusal_status : (stop : Stop) (status : ℕ) → k.IsRefused bytes stop → (status ≡ 5) ⊎ (status ≡ status_of stop) → HasStatus (FilesComeTo k bytes given) status
    refusal_status stop status is s =
        ⊎_elim (λ e. inl e) (λ e. inr (Err stop, record { comes = refuses is; only = other_refusal stop is }, e)) s

    -- and so is a disk's file that is none
    other_disk : (loaded : Loaded) (place : ℕ) → k.IsGiven bytes loaded → IsBadAt given.disk place → (r : Result ℕ Stop) → FilesComeTo k bytes given r → r ≡ Err (BadDisk place)
    other_disk loaded place is bad _ (refuses {stop = s} h) = absurd (laws.apart bytes loaded s is h)
    other_disk loaded place is bad _ (of_disk l other there also) = ap (λ n. Err (BadDisk n)) (one_place given.disk other place also bad)
    other_disk loaded place is bad r (runs l course s e n there is_course devices to at_line same) = absurd (disk_or_none disks given s place devices bad)

    pub disk_status : (loaded : Loaded) (fault : DiskFault) (status : ℕ) → k.IsGiven bytes loaded → IsDiskFaultOf given.disk fault → (status ≡ 5) ⊎ (status ≡ status_of (stop_of_disk fault)) → HasStatus (FilesComeTo k bytes given) status
    disk_status loaded (Bad place) status is bad s =
        ⊎_elim (λ e. inl e) (λ e. inr (Err (BadDisk place), record { comes = of_disk loaded place is bad; only = other_disk loaded place is bad }, e)) s
    disk_status loaded Memory status is bad s = ⊎_elim (λ e. inl e) (λ e. inl e) s

  module _ (old new : HostState) (none : NoneFailed old new) (bytes : List ℕ) (given : Given) (told : FileIsTold old k.file k.most bytes) (fed : SupplyIsTold k.options old given) where
    -- the run that was made is that of these bytes
    pub only_made : (prefix : List ℕ) (loaded : Loaded) (supply left : Supply) (o : Conversation) (line : ℕ) (start mid : HostState) → IsToRun k old loaded supply → RunComesTo (run_setting k prefix loaded) supply o left start mid → k.IsStopLine loaded o.end line → IsOnlyEnd (FilesComeTo k bytes given) (came_to k.options.steps line o)
    only_made prefix loaded supply left o line start mid stands run at =
        let n = stands.named in
        let same = told_whole old k.file k.most bytes n.bytes told n.file in
        let whose = told_given old k.options given stands.given fed n.supplied in
        subst (λ b. IsOnlyEnd (FilesComeTo k b given) (came_to k.options.steps line o)) same
        (subst (λ x. IsOnlyEnd (FilesComeTo k n.bytes x) (came_to k.options.steps line o)) whose
        (only_run n.bytes stands.given loaded supply left prefix o line start mid n.gives stands.readable stands.devices run at))

    pub nothing_to_run : (mid : HostState) (stop : Stop) (status : ℕ) → NothingToRun k old mid stop → Closes (run_names k.file k.options) stop mid new status → HasStatus (FilesComeTo k bytes given) status
    nothing_to_run mid stop status (no_file s) closes =
        inl (memory_status (run_names k.file k.options) stop mid new status (read_stops old mid new First k.file k.most bytes stop none (closes_reads (run_names k.file k.options) stop mid new status closes) told s) closes)
    nothing_to_run mid stop status (no_supply read file s) closes =
        inl (memory_status (run_names k.file k.options) stop mid new status (supply_stops old mid new k.options given stop none (closes_reads (run_names k.file k.options) stop mid new status closes) fed s) closes)
    nothing_to_run mid stop status (is_refused read with_these file supplied same is) closes =
        let e = told_whole old k.file k.most bytes read told file in
        refusal_status bytes given stop status (subst (λ b. k.IsRefused b stop) e is) (closes_status (run_names k.file k.options) stop mid new status closes)
    nothing_to_run mid stop status (no_disk loaded with_these n same stops) closes =
        let e = told_whole old k.file k.most bytes n.bytes told n.file in
        let whose = told_given old k.options given with_these fed n.supplied in
        disk_status bytes given loaded stops.0 status (subst (λ b. k.IsGiven b loaded) e n.gives) (subst (λ (x : Given). IsDiskFaultOf x.disk stops.0) whose stops.1)
        (subst (λ s. (status ≡ 5) ⊎ (status ≡ status_of s)) stops.2 (closes_status (run_names k.file k.options) stop mid new status closes))
    nothing_to_run mid _ status no_memory closes = inl (memory_status (run_names k.file k.options) OutOfMemory mid new status refl closes)

    one_counted : (mid : HostState) (m : RunsMade) → IsRunMade k old mid m → SameFaults old mid
    one_counted mid m h =
        let before = h.read.counted in
        let after = h.run.counted in
        SameFaults-trans before after

    one_uncut : IsRunCut k old new (Untold CallFailed) → ⊥
    one_uncut h =
        let way = laws.course h.loaded h.read.stands.readable in
        not_unsaid old h.start new none h.read.counted (h.cut.cut way.0 way.1).1

  pub one_completes : (old new : HostState) (status : ℕ) → WorkGives (work_of_one k) old new status → RunCompletes k old new status
  one_completes old new status given none bytes supplied told fed =
      work_completes (work_of_one k) old new none (FilesComeTo k bytes supplied)
      (one_counted old new none bytes supplied told fed)
      (one_uncut old new none bytes supplied told fed)
      (λ mid m h. only_made old new none bytes supplied told fed [] h.loaded h.supply m.left m.end m.line h.start mid h.read.stands h.run h.at)
      (nothing_to_run old new none bytes supplied told fed) status given
