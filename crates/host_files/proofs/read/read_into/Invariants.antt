use Rattle.std.proofs.Common.{◌-◌, ◌+◌}
use Rattle.host.specs.Host.{OnlyReads, SameFaults}
use Rattle.host_files.proofs.Gives.{Gives}
use Rattle.host_files.proofs.read.read_into.Given as goal

abbrev pub invariant-loop-at : goal.invariant-loop-at
invariant-loop-at g l = record {
  only : OnlyReads (g.H.Host.state l.fn.host) (g.H.Host.state l.host);
  counted : SameFaults (g.H.Host.state l.fn.host) (g.H.Host.state l.host);
  gives : Gives g.S.Sink.has ((g.H.Host.state l.fn.host).file l.name) l.at l.fn.sink l.sink;
}

abbrev pub decreases-loop-at : goal.decreases-loop-at
decreases-loop-at g l = l.limit + 1 - l.at
