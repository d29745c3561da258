use Rattle.std.proofs.Common.{sym, Some}
use Rattle.cases_disk.proofs.memory.request.Goals as goal

pub request_of-requires : goal.request_of-requires
request_of-requires c = record {
  function = Some c.args.function;
  d = Some c.args.d;
  e = Some c.args.e;
  dma = c.args.dma;
  given = sym c.in-Ok.ensures;
}
