use Rattle.std.proofs.Common.{◌≡◌, length, take}
use Rattle.std.specs.Prelude.{map}
use Rattle.std.specs.Char.{to_ascii_uppercase}
use Rattle.dialogue.proofs.start_page.in_upper_case.Given as goal

abbrev pub invariant-loop-k : goal.invariant-loop-k
invariant-loop-k l = record {
  size : length l.text ≡ 126;
  upper : take l.k l.text ≡ map to_ascii_uppercase (take l.k l.tail);
}
