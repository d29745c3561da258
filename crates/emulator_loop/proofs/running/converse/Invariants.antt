use Rattle.host.specs.Host.{OnlySays, SameFaults}
use Rattle.emulator_loop.specs.Advance.{Advance}
use Rattle.emulator_loop.proofs.running.converse.Given as goal

abbrev pub invariant-loop-count : goal.invariant-loop-count
invariant-loop-count g l = record {
  runs : g.E.Emulator.runs l.machine;
  advance : Advance l.prefix l.count (g.E.Emulator.course l.fn.machine) (g.E.Emulator.course l.machine) l.fn.devices l.devices (g.H.Host.state l.fn.host) (g.H.Host.state l.host);
  only : OnlySays (g.H.Host.state l.fn.host) (g.H.Host.state l.host);
  counted : SameFaults (g.H.Host.state l.fn.host) (g.H.Host.state l.host);
}
