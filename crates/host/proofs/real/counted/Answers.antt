use Rattle.std.proofs.Common.{refl, sym, ap, ◌∙◌, arith, rules}
use Rattle.std.proofs.lemmas.Bool.{false≢true}
use Rattle.std.specs.contracts.io.ErrorKind.{the_type}
use Rattle.std.specs.declared.io.ErrorKind.{ErrorKind}
use denote.Enum.Bare.{sameb, same_true}
use Rattle.host.proofs.MemCalls.{counted_on, failed_not_wanted}
use Rattle.host.proofs.real.counted.Goals as goal

pub returns-in-Ok : goal.returns-in-Ok
returns-in-Ok g c = rw c.in-Ok.is (record { answer = refl; fault = tt; failed = refl; wanted = refl })

-- memory ran out
pub returns-then-eq : goal.returns-then-eq
returns-then-eq g c = rw c.in-Err.is (record {
  answer = refl;
  fault = (λ _. sym c.kind.ensures ∙ same_true the_type (search rules) _ _ (sym c.if-eq.ensures), λ _. refl);
  failed = refl;
  wanted = counted_on _ _ (omega arith) c.saturating_add.ensures;
})

pub returns-else-eq : goal.returns-else-eq
returns-else-eq g c = rw c.in-Err.is (record {
  answer = refl;
  fault = (λ q. absurd (failed_not_wanted q), λ is. absurd (false≢true (c.if-eq.ensures ∙ ap (λ k. sameb the_type k ErrorKind.OutOfMemory) (c.kind.ensures ∙ is))));
  failed = counted_on _ _ (omega arith) c.saturating_add-else-eq.ensures;
  wanted = refl;
})
