use Rattle.sym_block_def.specs.Walk86.{surroundings, after_label}
use Rattle.sym_block_def.specs.Block80.{instrs_from}
use Rattle.sym_block_def.specs.Symbolic86.{start86}
use Rattle.asm86_line_types.specs.declared.line.Label.TheVariants.{At}
use Rattle.std.proofs.Common.{◌*◌}
use Rattle.sym_run.proofs.Refusals.{from_label}
use Rattle.sym_run.proofs.stop.ends_say_why.Goals as goal

pub returns : goal.returns
returns c = λ p text keep first count r e.
    from_label (surroundings p text first (instrs_from p first count)) (10 * count) (after_label text (At first)) (start86 keep) r e
