use Rattle.std.proofs.Common.{◌≡◌, ◌≤◌, ◌∷◌, length, get_or}
use Rattle.cmd_file.specs.Header.{FitsBelow}
use Rattle.cmd_file.proofs.header.check_header.Given as goal

abbrev pub invariant-loop-place : goal.invariant-loop-place
invariant-loop-place l = record {
  within : l.place ≤ length l.bytes;
  fits : FitsBelow l.place l.bytes;
  last : l.before ≡ get_or (0 ∷ l.bytes) l.place 0;
}
