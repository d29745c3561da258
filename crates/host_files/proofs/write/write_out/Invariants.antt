use Rattle.std.proofs.Common.{◌<◌, ◌++◌, drop, length}
use Rattle.host.specs.Host.{OnlyWrites, SameFaults}
use Rattle.asm86_line_types.specs.Written.{written_text}
use Rattle.host_files.proofs.Waits.{Waits}
use Rattle.host_files.proofs.write.write_out.Given as goal

abbrev pub invariant-loop-line : goal.invariant-loop-line
invariant-loop-line g l = record {
  room : length l.waiting < 4096;
  only : OnlyWrites (g.H.Host.state l.fn.host) (g.H.Host.state l.host) l.name;
  counted : SameFaults (g.H.Host.state l.fn.host) (g.H.Host.state l.host);
  waits : Waits (g.H.Host.state l.fn.host) (g.H.Host.state l.host) l.name (written_text l.lines) (l.waiting ++ written_text (drop l.line-index l.lines));
}
