use Rattle.std.proofs.Common.{ap, arith}
use Rattle.host.specs.Host.{one_more}
use Rattle.host.specs.MemHost.{fails_of}
use Rattle.host.proofs.Listed.{listed}
use Rattle.host.proofs.MemCalls.{counted_on}
use Rattle.host.proofs.mem.MemHost.next_fails.Goals as goal

pub returns-clause-fails : goal.returns-clause-fails
returns-clause-fails c =
    let calls = c.args.self.now.calls in
    let next = counted_on calls c.saturating_add-self.result (omega arith) c.saturating_add-self.ensures in
    listed (fails_of c.args.self.now) c.deref.result.now (one_more calls) c.saturating_add-self.result c.contains.result c.deref.ensures.value next c.contains.ensures.cases

pub returns-clause-calls : goal.returns-clause-calls
returns-clause-calls c =
    let calls = c.args.self.now.calls in
    ap (λ n. record c.args.self.now { calls = n }) (counted_on calls c.saturating_add-self.result (omega arith) c.saturating_add-self.ensures)
