-- What several calls of a host give together.
use Rattle.std.proofs.Common.{◌≡◌, ℕ, ◌+◌, ◌≤◌, List, [], ◌++◌, take, drop, Option, Some, None, Result, Ok, Err, refl, ap, ◌∙◌, sym, subst, inl, inr, ⊎_elim, append_assoc, append-nil, arith}
use Rattle.std.specs.Prelude.{IsErrAnd, IfErr}
use Rattle.std.proofs.Math.Seq.{take-add}
use Rattle.host.specs.declared.HostFault.{HostFault}
use Rattle.host.specs.declared.HostFault.TheVariants.{Failed, Memory}
use Rattle.host.specs.Host.{FileTold, Untold, Missing, Holds, HostState, HasRisen, rewritten, appended, said_more, SameFaults, OnlyReads, OnlyWrites, OnlySays, WriteFault}

-- reads after reads
pub OnlyReads-trans : {a b c : HostState} → OnlyReads a b → OnlyReads b c → OnlyReads a c
OnlyReads-trans p q = record {
  files = λ name. q.files name ∙ p.files name;
  said = q.said ∙ p.said;
  writes = q.writes ∙ p.writes;
  reads = omega arith;
  memory = omega arith;
}

-- writes after writes, to one file
pub OnlyWrites-trans : {a b c : HostState} {name : List ℕ} → OnlyWrites a b name → OnlyWrites b c name → OnlyWrites a c name
OnlyWrites-trans p q = record {
  files = λ other apart. q.files other apart ∙ p.files other apart;
  said = q.said ∙ p.said;
  reads = q.reads ∙ p.reads;
  writes = omega arith;
  memory = omega arith;
}

-- saying after saying
pub OnlySays-trans : {a b c : HostState} → OnlySays a b → OnlySays b c → OnlySays a c
OnlySays-trans p q = record {
  files = λ name. q.files name ∙ p.files name;
  reads = q.reads ∙ p.reads;
  writes = omega arith;
  memory = omega arith;
}

-- nothing was done
pub OnlyReads-refl : (a : HostState) → OnlyReads a a
OnlyReads-refl a = record { files = λ name. refl; said = refl; writes = refl; reads = omega arith; memory = omega arith }

pub OnlyWrites-refl : (a : HostState) (name : List ℕ) → OnlyWrites a a name
OnlyWrites-refl a name = record { files = λ other apart. refl; said = refl; reads = refl; writes = omega arith; memory = omega arith }

pub OnlySays-refl : (a : HostState) → OnlySays a a
OnlySays-refl a = record { files = λ name. refl; reads = refl; writes = omega arith; memory = omega arith }

pub SameFaults-refl : (a : HostState) → SameFaults a a
SameFaults-refl a = record { reads = refl; writes = refl; memory = refl }

-- no fault after no fault
pub SameFaults-trans : {a b c : HostState} → SameFaults a b → SameFaults b c → SameFaults a c
SameFaults-trans p q = record { reads = q.reads ∙ p.reads; writes = q.writes ∙ p.writes; memory = q.memory ∙ p.memory }

-- a count that rose before stays risen where it does not fall, and one that did not fall before is risen where it rises
pub risen_on : (a b c : ℕ) → HasRisen a b → b ≤ c → HasRisen a c
risen_on a b c h le = ⊎_elim (λ r. inl (omega (arith, r, le))) (λ l. inr (omega (arith, l, le))) h

pub risen_after : (a b c : ℕ) → a ≤ b → HasRisen b c → HasRisen a c
risen_after a b c le h = ⊎_elim (λ r. inl (omega (arith, r, le))) (λ l. inr l) h

-- the cause of a fault after calls that met none
pub fault_after : (a b c : HostState) (fault : HostFault) → SameFaults a b → WriteFault b c fault → WriteFault a c fault
fault_after a b c Failed same h = subst (λ n. HasRisen n c.write_faults) same.writes h
fault_after a b c Memory same h = subst (λ n. HasRisen n c.memory_faults) same.memory h

-- the same after reads
pub fault_after_reads : (a b c : HostState) (fault : HostFault) → OnlyReads a b → WriteFault b c fault → WriteFault a c fault
fault_after_reads a b c Failed reads h = risen_after a.write_faults b.write_faults c.write_faults (omega (arith, reads.writes)) h
fault_after_reads a b c Memory reads h = risen_after a.memory_faults b.memory_faults c.memory_faults reads.memory h

-- the same of a fault that is handed on
pub handed_on : {T : Type 0} (a b c : HostState) (r : Result T HostFault) (fault : HostFault) → IsErrAnd r (λ e. e ≡ fault) → SameFaults a b → WriteFault b c fault → IfErr r (WriteFault a c)
handed_on a b c (Ok x) fault is same h = absurd is
handed_on a b c (Err e) fault is same h = fault_after a b c e same (subst (WriteFault b c) (sym is) h)

-- bytes added to a file after it was rewritten
pub appended-rewritten : (t : FileTold) (xs ys : List ℕ) → appended (rewritten t xs) ys ≡ rewritten t (xs ++ ys)
appended-rewritten Untold xs ys = refl
appended-rewritten Missing xs ys = refl
appended-rewritten (Holds held) xs ys = refl

-- bytes said after bytes
pub said_more-said_more : (s : Option (List ℕ)) (xs ys : List ℕ) → said_more (said_more s xs) ys ≡ said_more s (xs ++ ys)
said_more-said_more None xs ys = refl
said_more-said_more (Some said) xs ys = ap Some (append_assoc said xs ys)

-- no bytes said
pub said_more-nil : (s : Option (List ℕ)) → said_more s [] ≡ s
said_more-nil None = refl
said_more-nil (Some said) = ap Some (append-nil said)

-- a file that is rewritten in pieces
pub rewritten-take : (t : FileTold) (bytes : List ℕ) (n k : ℕ) → rewritten t (take (n + k) bytes) ≡ appended (rewritten t (take n bytes)) (take k (drop n bytes))
rewritten-take t bytes n k = ap (rewritten t) (take-add n k bytes) ∙ sym (appended-rewritten t (take n bytes) (take k (drop n bytes)))

-- bytes that are said in pieces
pub said_more-take : (s : Option (List ℕ)) (bytes : List ℕ) (n k : ℕ) → said_more s (take (n + k) bytes) ≡ said_more (said_more s (take n bytes)) (take k (drop n bytes))
said_more-take s bytes n k = ap (said_more s) (take-add n k bytes) ∙ sym (said_more-said_more s (take n bytes) (take k (drop n bytes)))

-- for `grind`: what several calls of a host give together
pub ruleset pieces = (rewritten-take, said_more-take, said_more-nil)
