use Rattle.std.proofs.Common.{◌≡◌, drop}
use Rattle.cells.specs.declared.Part.{Part}
use Rattle.flow.specs.Search.{is_left}
use Rattle.flow.proofs.Sets.{left_of}
use Rattle.flow.proofs.search.without.Given as goal

abbrev pub invariant-loop-part : goal.invariant-loop-part
invariant-loop-part l = (x : Part) → left_of x l.left l.keep l.other (drop l.part-index l.part-items) ≡ is_left l.keep l.other x
