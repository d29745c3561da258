use Rattle.std.proofs.Common.{◌≡◌, ◌≤◌, length}
use Rattle.asm80_text.specs.Strings.{quoted}
use Rattle.asm80_text.proofs.Quotes.{with_text}
use Rattle.asm80_text.proofs.strings.quoted.Given as goal

abbrev pub invariant-loop-b : goal.invariant-loop-b
invariant-loop-b l = record {
  value : with_text l.text.items (quoted l.rest) ≡ quoted l.bytes;
  shorter : length l.rest ≤ length l.bytes;
}

abbrev pub decreases-loop-b : goal.decreases-loop-b
decreases-loop-b l = length l.rest
