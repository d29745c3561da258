-- The start as the definition has it.
use Rattle.cpu86.specs.Start.{Start}
use Rattle.cpu86.specs.declared.start.Start86.{Start86}

abbrev pub start_of : Start86 → Start
start_of s = record { ax = s.ax; cx = s.cx; dx = s.dx; bx = s.bx; sp = s.sp; si = s.si; ds = s.ds; ss = s.ss; flags = s.flags }
