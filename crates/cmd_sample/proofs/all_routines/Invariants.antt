use Rattle.std.proofs.Common.{◌≡◌, ◌≤◌, ◌-◌, ◌+◌}
use Rattle.std.specs.List.{flat_map}
use Rattle.std.specs.String.{string_bytes}
use Rattle.cmd_sample.specs.Written.{text_of_source}
use Rattle.cmd_sample.specs.Sample.{routine, up_to}
use Rattle.cmd_sample.proofs.all_routines.Given as goal

abbrev pub invariant-loop-number : goal.invariant-loop-number
invariant-loop-number l = (1 ≤ l.number) × (l.number ≤ l.fn.routines + 1) × (string_bytes l.text ≡ text_of_source (flat_map routine (up_to (l.number - 1))))
