-- INR and DCR alike.
use Rattle.std.specs.Prelude.{Result, Ok}
use Rattle.cells.specs.declared.Cell.TheVariants.{Num}
use Rattle.cells.specs.declared.Rule.{Rule}
use Rattle.i80.specs.declared.Op.{Op}
use Rattle.i80.specs.declared.Src.{Src}
use Rattle.dialogue.specs.Tried.{try_then}
use Rattle.base.specs.Operations.{result_of, flags_of}
use Rattle.asm80_types.specs.Program.{Program}
use Rattle.cpu80_tagged.specs.State.{State80, with_flags}
use Rattle.cpu80_tagged.specs.Effect.{counted, into}

-- an operation on an operand and 1, which keeps CY: INR is by ADD, DCR by SUB
abbrev pub count_by : Program → State80 → Op → Src → Result State80 Rule
count_by p s op on =
    try_then (counted p s on) (λ x. try_then (into p s on (Num (result_of op x 1 0))) (λ t.
    Ok (with_flags t (record (flags_of op x 1 0) { cy = t.flags.cy }))))
