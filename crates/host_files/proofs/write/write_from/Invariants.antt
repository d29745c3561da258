use Rattle.std.proofs.Common.{◌+◌, ◌≤◌, ◌++◌, length}
use Rattle.host.specs.Host.{OnlyWrites, SameFaults}
use Rattle.host_files.proofs.Waits.{Waits}
use Rattle.host_files.proofs.write.write_from.Given as goal

abbrev pub invariant-loop-waiting : goal.invariant-loop-waiting
invariant-loop-waiting g l = record {
  room : length l.waiting + 512 ≤ 4096;
  only : OnlyWrites (g.H.Host.state l.fn.host) (g.H.Host.state l.host) l.name;
  counted : SameFaults (g.H.Host.state l.fn.host) (g.H.Host.state l.host);
  waits : Waits (g.H.Host.state l.fn.host) (g.H.Host.state l.host) l.name (g.P.Producer.left l.fn.producer) (l.waiting ++ g.P.Producer.left l.producer);
}

abbrev pub decreases-loop-waiting : goal.decreases-loop-waiting
decreases-loop-waiting g l = g.P.Producer.turns l.producer
