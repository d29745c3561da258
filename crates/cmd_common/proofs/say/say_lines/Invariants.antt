use Rattle.std.proofs.Common.{map, take}
use Rattle.std.specs.List.{concat}
use Rattle.std.specs.String.{string_bytes}
use Rattle.host.specs.Host.{OnlySays, SameFaults, Says}
use Rattle.cmd_common.proofs.say.say_lines.Given as goal

abbrev pub invariant-loop-line : goal.invariant-loop-line
invariant-loop-line g l = record {
  only : OnlySays (g.H.Host.state l.fn.host) (g.H.Host.state l.host);
  counted : SameFaults (g.H.Host.state l.fn.host) (g.H.Host.state l.host);
  said : Says (g.H.Host.state l.fn.host) (g.H.Host.state l.host) (concat (take l.line-index (map string_bytes l.lines)));
}
