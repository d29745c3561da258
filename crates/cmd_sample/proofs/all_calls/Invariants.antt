use Rattle.std.proofs.Common.{◌≡◌, ◌≤◌, ◌-◌, ◌+◌}
use Rattle.std.specs.Prelude.{map}
use Rattle.std.specs.String.{string_bytes}
use Rattle.cmd_sample.specs.Written.{text_of_source}
use Rattle.cmd_sample.specs.Sample.{call, up_to}
use Rattle.cmd_sample.proofs.all_calls.Given as goal

abbrev pub invariant-loop-number : goal.invariant-loop-number
invariant-loop-number l = (1 ≤ l.number) × (l.number ≤ l.fn.routines + 1) × (string_bytes l.text ≡ text_of_source (map call (up_to (l.number - 1))))
