use Rattle.std.specs.Prelude.{take}
use Rattle.asm86_line_types.specs.Image.{statements}
use Rattle.sym_block_def.specs.Sorts.{StatementsAreCoded}
use Rattle.simulation_def.specs.Matches.{DataAreCoded}
use Rattle.text_check.proofs.coded.lines_are_coded.Given as goal

abbrev pub invariant-loop-line : goal.invariant-loop-line
invariant-loop-line l = record { instructions : StatementsAreCoded (statements (take l.line-index l.lines)); data_coded : DataAreCoded (statements (take l.line-index l.lines)) }
