-- What a call of a host counts, by its answer.
use Rattle.std.proofs.Common.{◌≡◌, ℕ, ◌≤◌, Result, Ok, Err, IfOk, IfErr, OnOk, OnErr, IsErr, MatchResult, sym, ap, subst, ◌∙◌, arith}
use Rattle.std.proofs.lemmas.Bool.{false≢true}
use Rattle.std.proofs.lemmas.Bool.Decides.{nat_tests}
use Rattle.host.specs.declared.HostFault.{HostFault}
use Rattle.host.specs.declared.HostFault.TheVariants.{Failed, Memory}
use Rattle.host.specs.Host.{Untold, Missing, HostState, HasRisen, one_more, failures_after, wants_after, SameFaults, WriteFault, CountsAlone}

one_more-le : (n : ℕ) → n ≤ one_more n
one_more-le n = grind (arith, nat_tests)

one_more-risen : (n : ℕ) → HasRisen n (one_more n)
one_more-risen n = grind (arith, nat_tests)

failures-le : {T : Type 0} (r : Result T HostFault) (n : ℕ) → n ≤ failures_after r n
failures-le (Ok x) n = omega arith
failures-le (Err Failed) n = one_more-le n
failures-le (Err Memory) n = omega arith

wants-le : {T : Type 0} (r : Result T HostFault) (n : ℕ) → n ≤ wants_after r n
wants-le (Ok x) n = omega arith
wants-le (Err Failed) n = omega arith
wants-le (Err Memory) n = one_more-le n

-- no count falls
pub failures_kept : {T : Type 0} (r : Result T HostFault) (n m : ℕ) → m ≡ failures_after r n → n ≤ m
failures_kept r n m is = rw is (failures-le r n)

pub wants_kept : {T : Type 0} (r : Result T HostFault) (n m : ℕ) → m ≡ wants_after r n → n ≤ m
wants_kept r n m is = rw is (wants-le r n)

-- no fault, and then none is counted
pub no_write_fault : {T : Type 0} (a b : HostState) (r : Result T HostFault) → b.read_faults ≡ a.read_faults → b.write_faults ≡ failures_after r a.write_faults → b.memory_faults ≡ wants_after r a.memory_faults → OnOk r (SameFaults a b)
no_write_fault a b (Ok x) reads f w = record { reads = reads; writes = f; memory = w }
no_write_fault a b (Err d) reads f w = tt

pub no_read_fault : {T : Type 0} (a b : HostState) (r : Result T HostFault) → b.write_faults ≡ a.write_faults → b.read_faults ≡ failures_after r a.read_faults → b.memory_faults ≡ wants_after r a.memory_faults → OnOk r (SameFaults a b)
no_read_fault a b (Ok x) writes f w = record { reads = f; writes = writes; memory = w }
no_read_fault a b (Err d) writes f w = tt

-- a fault is counted as what it is
pub write_fault : {T : Type 0} (a b : HostState) (r : Result T HostFault) → b.write_faults ≡ failures_after r a.write_faults → b.memory_faults ≡ wants_after r a.memory_faults → IfErr r (WriteFault a b)
write_fault a b (Ok x) f w = tt
write_fault a b (Err Failed) f w = rw f (one_more-risen a.write_faults)
write_fault a b (Err Memory) f w = rw w (one_more-risen a.memory_faults)

pub write_alone : {T : Type 0} (a b : HostState) (r : Result T HostFault) → b.read_faults ≡ a.read_faults → b.write_faults ≡ failures_after r a.write_faults → b.memory_faults ≡ wants_after r a.memory_faults → IfErr r (CountsAlone a b)
write_alone a b (Ok x) reads f w = tt
write_alone a b (Err Failed) reads f w = w
write_alone a b (Err Memory) reads f w = (reads, f)

pub read_alone : {T : Type 0} (a b : HostState) (r : Result T HostFault) → b.write_faults ≡ a.write_faults → b.read_faults ≡ failures_after r a.read_faults → b.memory_faults ≡ wants_after r a.memory_faults → IfErr r (CountsAlone a b)
read_alone a b (Ok x) writes f w = tt
read_alone a b (Err Failed) writes f w = w
read_alone a b (Err Memory) writes f w = (f, writes)

pub failed_risen : {T : Type 0} (count failures : ℕ) (r : Result T HostFault) → failures ≡ failures_after r count → r ≡ Err Failed → HasRisen count failures
failed_risen count failures r f is = rw (f ∙ ap (λ x. failures_after x count) is) (one_more-risen count)

pub wanted_risen : {T : Type 0} (count wanted : ℕ) (r : Result T HostFault) → wanted ≡ wants_after r count → r ≡ Err Memory → HasRisen count wanted
wanted_risen count wanted r w is = rw (w ∙ ap (λ x. wants_after x count) is) (one_more-risen count)

-- what holds of each value and of any fault, and what holds of the value that is handed on
pub of_each : {T E : Type 0} (r : Result T E) (P : T → Type 0) → ((x : T) → P x) → IfOk r P
of_each (Ok x) P all = all x
of_each (Err d) P all = tt

pub any_err : {T E P : Type 0} (r : Result T E) → P → OnErr r P
any_err (Ok x) p = tt
any_err (Err d) p = p

pub of_handed : {T E F : Type 0} (done : Result T E) (r : Result T F) (P : T → Type 0) → MatchResult done (λ x. r ≡ Ok x) (λ _. IsErr r) → IfOk done P → IfOk r P
of_handed (Ok x) r P is p = subst (λ q. IfOk q P) (sym is) p
of_handed (Err e) (Ok x) P err p = absurd (false≢true err)
of_handed (Err e) (Err d) P err p = tt

-- what is not told is not told to be missing
pub not_missing : Untold ≡ Missing → ⊥
not_missing is = cc
