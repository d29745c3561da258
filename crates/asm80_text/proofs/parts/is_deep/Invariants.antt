use Rattle.std.proofs.Common.{◌≡◌, ◌≤◌, drop, ltb}
use Rattle.asm80_text.specs.Line.{is_deep, most_open}
use Rattle.asm80_text.proofs.parts.is_deep.Given as goal

abbrev pub invariant-loop-token : goal.invariant-loop-token
invariant-loop-token l = record {
  same : ltb 16 (most_open l.count (drop l.token-index l.part)) ≡ is_deep l.part;
  few : l.count ≤ 16;
}
