use Rattle.std.proofs.Common.{◌-◌, ◌≤◌, length, take}
use Rattle.host.specs.Host.{OnlySays, SameFaults, Says}
use Rattle.cmd_explain.proofs.explaining.say_lines.Given as goal

abbrev pub invariant-loop-said : goal.invariant-loop-said
invariant-loop-said g l = record {
  within : l.said ≤ length l.text;
  only : OnlySays (g.H.Host.state l.fn.host) (g.H.Host.state l.host);
  counted : SameFaults (g.H.Host.state l.fn.host) (g.H.Host.state l.host);
  bytes : Says (g.H.Host.state l.fn.host) (g.H.Host.state l.host) (take l.said l.text);
}

abbrev pub decreases-loop-said : goal.decreases-loop-said
decreases-loop-said g l = length l.text - l.said
