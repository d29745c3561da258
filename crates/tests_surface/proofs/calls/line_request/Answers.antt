use Rattle.std.proofs.Common.{sym, Some}
use Rattle.tests_surface.proofs.calls.line_request.Goals as goal

pub request_of-requires : goal.request_of-requires
request_of-requires c = record {
  function = Some 10;
  d = Some 2;
  e = Some 0;
  dma = 0x80;
  given = sym c.in-Ok.ensures;
}
