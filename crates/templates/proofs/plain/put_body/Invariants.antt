use Rattle.std.proofs.Common.{◌≡◌, ◌+◌, ◌*◌, ◌≤◌, ◌++◌, drop, length}
use Rattle.templates.specs.Plain.{body}
use Rattle.templates.proofs.plain.put_body.Given as goal

abbrev pub invariant-loop-placed : goal.invariant-loop-placed
invariant-loop-placed l = record {
  so_far : l.text ++ body (drop l.placed-index l.instrs) ≡ l.fn.text ++ body l.instrs;
  most : length l.text ≤ length l.fn.text + 13 * l.placed-index;
}
