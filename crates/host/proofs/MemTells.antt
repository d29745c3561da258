-- What the exact clauses of a host in memory are to a caller that knows a host alone.
use Rattle.std.proofs.Common.{◌≡◌, ◌≢◌, ℕ, ◌+◌, ◌-◌, ◌<◌, ◌≤◌, List, [], ◌++◌, min, take, drop, length, Option, Some, None, unwrap_or, Result, Ok, Err, IfOk, IfErr, IfSome, ◌↔◌, OnErr, refl, ap, ◌∙◌, inl, inr, arith}
use Rattle.std.proofs.lemmas.List.{length-append, length-drop, length-take-le, take-append-le, take-take}
use Rattle.host.specs.declared.HostFault.{HostFault}
use Rattle.host.specs.declared.HostFault.TheVariants.{Failed, Memory}
use Rattle.host.specs.declared.mem.MemHost.{MemHost}
use Rattle.host.specs.Host.{Missing, ReadsFile, HostState, rewritten, appended, CountsAlone, ReadFailed, SameFaults}
use Rattle.host.specs.MemHost.{file_in_mem_host, told_of, read_count_after, piece_of, KeepsFiles, PutsFile}
use Rattle.host.proofs.Counting.{failures_kept, failed_risen}
use Rattle.host.proofs.MemCalls.{unlike}

-- a file that was written is told as such
pub rewritten_told : (file : Option (List ℕ)) (bytes : List ℕ) → told_of (Some bytes) ≡ rewritten (told_of file) bytes
rewritten_told None bytes = refl
rewritten_told (Some held) bytes = refl

pub appended_told : (file : Option (List ℕ)) (bytes : List ℕ) → told_of (Some (unwrap_or file [] ++ bytes)) ≡ appended (told_of file) bytes
appended_told None bytes = refl
appended_told (Some held) bytes = refl

-- the other files, by the answer
pub others_kept : {T : Type 0} (old new : MemHost) (name : List ℕ) (r : Result T HostFault) (bytes : T → List ℕ) → IfOk r (λ k. PutsFile old new name (bytes k)) → OnErr r (KeepsFiles old new)
    → (other : List ℕ) → other ≢ name → told_of (file_in_mem_host new other) ≡ told_of (file_in_mem_host old other)
others_kept old new name (Ok k) bytes put kept other apart = ap told_of (put.others other apart)
others_kept old new name (Err d) bytes put kept other apart = ap told_of (kept other)

-- a piece of some bytes has some of them, and no more
pub piece_some : (n k : ℕ) → 0 < n → k ≡ piece_of n → 0 < k
piece_some n k some is = omega arith

pub piece_within : (n k : ℕ) → k ≡ piece_of n → k ≤ n
piece_within n k is = omega arith

left_le : (n m : ℕ) → n ≤ n + m
left_le n m = omega arith

pub no_less : {n m : ℕ} → m ≡ n → n ≤ m
no_less is = omega arith

-- what a read counts, by whether there is a file
pub reads_kept : {T : Type 0} (file : Option (List ℕ)) (r : Result T HostFault) (n m : ℕ) → m ≡ read_count_after file r n → n ≤ m
reads_kept None r n m is = no_less is
reads_kept (Some held) r n m is = failures_kept r n m is

pub read_failed : {T : Type 0} (a b : HostState) (name : List ℕ) (file : Option (List ℕ)) (r : Result T HostFault) → a.file name ≡ told_of file → b.read_faults ≡ read_count_after file r a.read_faults → r ≡ Err Failed → ReadFailed a b name
read_failed a b name None r told counts is = inr told
read_failed a b name (Some held) r told counts is = inl (failed_risen a.read_faults b.read_faults r counts is)

pub read_missing : {T : Type 0} (file : Option (List ℕ)) (r : Result T HostFault) (n m : ℕ) → m ≡ read_count_after file r n → told_of file ≡ Missing → m ≡ n
read_missing None r n m is missing = is
read_missing (Some held) r n m is missing = cc

pub read_counted : {T : Type 0} (a b : HostState) (file : Option (List ℕ)) (r : Result T HostFault) → b.read_faults ≡ read_count_after file r a.read_faults → b.write_faults ≡ a.write_faults → b.memory_faults ≡ a.memory_faults → IfOk r (λ _. SameFaults a b)
read_counted a b None (Ok k) reads writes memory = record { reads = reads; writes = writes; memory = memory }
read_counted a b (Some held) (Ok k) reads writes memory = record { reads = reads; writes = writes; memory = memory }
read_counted a b file (Err d) reads writes memory = tt

pub read_alone_told : {T : Type 0} (a b : HostState) (r : Result T HostFault) → b.memory_faults ≡ a.memory_faults → r ≢ Err Memory → IfErr r (CountsAlone a b)
read_alone_told a b (Ok k) memory other = tt
read_alone_told a b (Err Failed) memory other = memory
read_alone_told a b (Err Memory) memory other = absurd (other refl)

-- how many bytes of a file a piece has that is no longer than the place for it
piece_fits : (room rest k : ℕ) → k ≡ piece_of (min room rest) → (k ≤ room) × (k ≤ rest)
piece_fits room rest k is = (omega arith, omega arith)

piece_ends : (room len at k : ℕ) → 0 < room → k ≡ piece_of (min room (len - at)) → (k ≡ 0) ↔ (len ≤ at)
piece_ends room len at k some is = (λ none. omega arith, λ past. omega arith)

piece_held : (rest more : List ℕ) (k : ℕ) → k ≤ length rest → (k ≤ length (take k rest ++ more)) × (take k (take k rest ++ more) ≡ take k rest)
piece_held rest more k fits =
    let whole = length-take-le k rest fits in (
      rw (length-append (take k rest) more ∙ ap (λ n. n + length more) whole) (left_le k (length more)),
      take-append-le k (take k rest) more (no_less whole) ∙ take-take k k rest (no_less refl),
    )

-- what was read, where there is a file; where there is none, the read failed
pub bytes_read : (file : Option (List ℕ)) (r : Result ℕ HostFault) (at : ℕ) (old new : List ℕ) → 0 < length old → (file ≡ None → r ≡ Err Failed)
    → IfOk r (λ k. IfSome file (λ held. k ≡ piece_of (min (length old) (length held - at)))) → IfOk r (λ k. IfSome file (λ held. new ≡ take k (drop at held) ++ drop k old))
    → IfOk r (λ k. (k ≤ length new) × ReadsFile (told_of file) at k new)
bytes_read file (Err d) at old new some missing count bytes = tt
bytes_read None (Ok k) at old new some missing count bytes = absurd (unlike k Failed (missing refl))
bytes_read (Some held) (Ok k) at old new some missing count bytes =
    let fits = piece_fits (length old) (length held - at) k count in
    let kept = piece_held (drop at held) (drop k old) k (rw (length-drop at held) (fits.1)) in (
      rw bytes (kept.0),
      record { same = rw bytes (kept.1); within = fits.1; ends = piece_ends (length old) (length held) at k some count },
    )
