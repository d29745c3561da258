use Rattle.std.proofs.Common.{◌≡◌, ◌-◌, ◌≤◌, length, take}
use Rattle.host.specs.Host.{OnlyWrites, SameFaults}
use Rattle.host_files.specs.Transfer.{extended}
use Rattle.host_files.proofs.write.append_all.Given as goal

abbrev pub invariant-loop-done : goal.invariant-loop-done
invariant-loop-done g l = record {
  within : l.done ≤ length l.bytes;
  only : OnlyWrites (g.H.Host.state l.fn.host) (g.H.Host.state l.host) l.name;
  counted : SameFaults (g.H.Host.state l.fn.host) (g.H.Host.state l.host);
  bytes : (g.H.Host.state l.host).file l.name ≡ extended ((g.H.Host.state l.fn.host).file l.name) (take l.done l.bytes);
}

abbrev pub decreases-loop-done : goal.decreases-loop-done
decreases-loop-done g l = length l.bytes - l.done
