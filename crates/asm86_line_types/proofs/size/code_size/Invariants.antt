use Rattle.std.proofs.Common.{◌≡◌, ◌+◌, ◌*◌, ◌≤◌, drop}
use Rattle.asm86_line_types.specs.Layout.{sizes_of}
use Rattle.asm86_line_types.specs.Image.{statements}
use Rattle.asm86_line_types.proofs.size.code_size.Given as goal

abbrev pub invariant-loop-line : goal.invariant-loop-line
invariant-loop-line l = record {
  so_far : l.total + sizes_of (statements (drop l.line-index l.lines)) ≡ sizes_of (statements l.lines);
  most : l.total ≤ 6 * l.line-index;
}
