use Rattle.std.proofs.Common.{sym, Some}
use Rattle.tests_parts.proofs.memory.request.Goals as goal

pub request_of-requires : goal.request_of-requires
request_of-requires c = record {
  function = Some c.args.function;
  d = Some 2;
  e = Some c.args.e;
  dma = 0x80;
  given = sym c.in-Ok.ensures;
}
