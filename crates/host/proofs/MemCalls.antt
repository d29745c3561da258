-- What the calls of a host in memory answer, put together.
use Rattle.std.proofs.Common.{◌≡◌, ℕ, Bool, true, false, ◌+◌, ◌<◌, min, arith, List, [], ◌++◌, take, length, Some, unwrap_or, ◌↔◌, Result, Ok, Err, IsOk, IfErr, OnOk, OnErr, refl, ap, sym, subst, ◌∙◌}
use Rattle.std.specs.Prelude.{is_ok, if◌then◌else◌, IsErrAnd}
use Rattle.std.proofs.lemmas.Bool.{false≢true}
use Rattle.std.proofs.lemmas.List.{length-take}
use Rattle.std.proofs.lemmas.Bool.Decides.{nat_tests}
use Rattle.host.specs.declared.HostFault.{HostFault}
use Rattle.host.specs.declared.HostFault.TheVariants.{Failed, Memory}
use Rattle.host.specs.declared.mem.MemHost.{MemHost}
use Rattle.host.specs.Host.{one_more, failures_after, wants_by, wants_after}
use Rattle.host.specs.MemHost.{file_in_mem_host, said_of, fails_of, calls_of, read_faults_of, write_faults_of, memory_faults_of, piece_of, CountsCall, CountsNothing}

-- a count after one more
pub counted_on : (n r : ℕ) → n < 18446744073709551616 → r ≡ min (n + 1) 18446744073709551615 → r ≡ one_more n
counted_on n r fits is = grind (arith, nat_tests)

pub at_ok : {T E P : Type 0} (r : Result T E) → IsOk r → OnOk r P → P
at_ok (Ok x) ok p = p
at_ok (Err d) ok p = absurd (false≢true ok)

pub at_err : {T E P : Type 0} (r : Result T E) → (IsOk r → ⊥) → OnErr r P → P
at_err (Ok x) other p = absurd (other refl)
at_err (Err d) other p = p

-- the result is that a call failed
abbrev pub Fault : (T : Type 0) → Result T HostFault → Type 0
Fault T r = r ≡ Err Failed

-- no answer is a fault
pub unlike : {T : Type 0} (x : T) (d : HostFault) → ◌≡◌ {A = Result T HostFault} (Ok x) (Err d) → ⊥
unlike x d e = false≢true (sym (ap is_ok e))

-- the fault of an error
fault_is : {T : Type 0} (d e : HostFault) → ◌≡◌ {A = Result T HostFault} (Err d) (Err e) → d ≡ e
fault_is d e q = subst (λ r. IfErr r (λ x. d ≡ x)) q refl

failure_is_no_want : Failed ≡ Memory → ⊥
failure_is_no_want e = cc

pub failed_not_wanted : {T : Type 0} → ◌≡◌ {A = Result T HostFault} (Err Failed) (Err Memory) → ⊥
failed_not_wanted e = failure_is_no_want (fault_is Failed Memory e)

-- a fault that is handed on, one that the first call did not meet, and no fault
pub same_fault : {T U : Type 0} (d : HostFault) (P : Type 0) → Fault T (Err d) ↔ P → Fault U (Err d) ↔ P
same_fault d P h = (λ q. h.0 (ap Err (fault_is d Failed q)), λ p. ap Err (fault_is d Failed (h.1 p)))

pub other_fault : (d : HostFault) (u : Unit {0}) (P : Type 0) → (Fault (Unit {0}) (Err d) → ⊥) → Fault (Unit {0}) (Ok u) ↔ P → Fault ℕ (Err d) ↔ P
other_fault d u P other h = (λ q. absurd (other (ap Err (fault_is d Failed q))), λ p. absurd (unlike u Failed (h.1 p)))

pub no_fault : (n : ℕ) (u : Unit {0}) (P : Type 0) → Fault (Unit {0}) (Ok u) ↔ P → Fault ℕ (Ok n) ↔ P
no_fault n u P h = (λ q. absurd (unlike n Failed q), λ p. absurd (unlike u Failed (h.1 p)))

-- want of memory is no failure, and a failure is no want of memory
pub no_failed_call : {T : Type 0} (d : HostFault) → d ≡ Memory → Fault T (Err d) → ⊥
no_failed_call d is q = failure_is_no_want (sym (fault_is d Failed q) ∙ is)

pub no_want : (d : HostFault) (n : ℕ) → (d ≡ Memory → ⊥) → n ≡ wants_by d n
no_want Failed n other = refl
no_want Memory n other = absurd (other refl)

-- what keeps its count after a call of a write that went through or wanted memory
pub no_failure : {T : Type 0} (r : Result T HostFault) (n : ℕ) → IfErr r (λ d. d ≡ Memory) → n ≡ failures_after r n
no_failure (Ok x) n want = refl
no_failure (Err Failed) n want = absurd (failure_is_no_want want)
no_failure (Err Memory) n want = refl

-- no such call is one that fails, where the first did not
pub not_failed : {T : Type 0} (r : Result T HostFault) (u : Unit {0}) (P : Type 0) → IfErr r (λ d. d ≡ Memory) → Fault (Unit {0}) (Ok u) ↔ P → Fault T r ↔ P
not_failed (Ok x) u P want h = (λ q. absurd (unlike x Failed q), λ p. absurd (unlike u Failed (h.1 p)))
not_failed (Err d) u P want h = (λ q. absurd (failure_is_no_want (sym (fault_is d Failed q) ∙ want)), λ p. absurd (unlike u Failed (h.1 p)))

-- what an answer promises, by whether it is one
pub on_ok_then : {T E P : Type 0} (r : Result T E) → (IsOk r → P) → OnOk r P
on_ok_then (Ok x) f = f refl
on_ok_then (Err d) f = tt

pub on_err_then : {T E P : Type 0} (r : Result T E) → ((IsOk r → ⊥) → P) → OnErr r P
on_err_then (Ok x) f = tt
on_err_then (Err d) f = f (λ ok. false≢true ok)

-- how many bytes a piece has
pub piece_length : (m : ℕ) (bytes : List ℕ) → m ≡ min 4096 (length bytes) → length (take m bytes) ≡ piece_of (length bytes)
piece_length m bytes is = omega (arith, length-take m bytes)

-- what a list is that took more, and one that did not
pub taken : (ok : Bool) (old more new : List ℕ) → new ≡ if ok then more else old → ok ≡ true → new ≡ more
taken true old more new is done = is
taken false old more new is done = absurd (false≢true done)

pub not_taken : (ok : Bool) (old more new : List ℕ) → new ≡ if ok then more else old → (ok ≡ true → false ≡ true) → new ≡ old
not_taken true old more new is failed = absurd (false≢true (failed refl))
not_taken false old more new is failed = is

-- the fault that a call hands on
pub handed_fault : {T : Type 0} (r : Result T HostFault) (d : HostFault) → IsErrAnd r (λ x. x ≡ d) → r ≡ Err d
handed_fault (Ok x) d is = absurd is
handed_fault (Err e) d is = ap Err is

-- what a write changes that was begun, went on without a count, and was counted
module _ (old started went new : MemHost) (first last : Result (Unit {0}) HostFault) (begun : started ≡ record old { calls = one_more old.calls; write_faults = failures_after first old.write_faults }) (ended : new ≡ record went { memory_faults = wants_after last went.memory_faults }) where
  module _ (on : CountsNothing started went) where
    pub write_called : CountsCall old new
    write_called = record { calls = ap calls_of ended ∙ on.calls ∙ ap calls_of begun; fails = ap fails_of ended ∙ on.fails ∙ ap fails_of begun }

    pub reads_same : read_faults_of new ≡ read_faults_of old
    reads_same = ap read_faults_of ended ∙ on.read_faults ∙ ap read_faults_of begun

    pub writes_counted : write_faults_of new ≡ failures_after first (write_faults_of old)
    writes_counted = ap write_faults_of ended ∙ on.write_faults ∙ ap write_faults_of begun

    pub wants_counted : memory_faults_of new ≡ wants_after last (memory_faults_of old)
    wants_counted = ap memory_faults_of ended ∙ ap (wants_after last) (on.memory_faults ∙ ap memory_faults_of begun)

  pub said_same : said_of went ≡ said_of started → said_of new ≡ said_of old
  said_same same = ap said_of ended ∙ same ∙ ap said_of begun

  pub file_same : (name : List ℕ) → file_in_mem_host went name ≡ file_in_mem_host started name → file_in_mem_host new name ≡ file_in_mem_host old name
  file_same name same = ap (λ (h : MemHost). file_in_mem_host h name) ended ∙ same ∙ ap (λ (h : MemHost). file_in_mem_host h name) begun

  pub file_added : (name more : List ℕ) → file_in_mem_host went name ≡ Some (unwrap_or (file_in_mem_host started name) [] ++ more) → file_in_mem_host new name ≡ Some (unwrap_or (file_in_mem_host old name) [] ++ more)
  file_added name more put = ap (λ (h : MemHost). file_in_mem_host h name) ended ∙ put ∙ ap (λ (h : MemHost). Some (unwrap_or (file_in_mem_host h name) [] ++ more)) begun
