-- INR and DCR alike.
use Rattle.std.specs.Prelude.{ℕ}
use Rattle.i80.specs.declared.Op.{Op}
use Rattle.i80.specs.declared.Src.{Src}
use Rattle.base.specs.Operations.{result_of, flags_of}
use Rattle.cpu80.specs.Flags.{settled}
use Rattle.cpu80.specs.State.{UntaggedState, with_flags}
use Rattle.cpu80.specs.Effect.{source, into}

-- the flags of an operation on a byte and 1, which keeps CY
abbrev pub with_counted : UntaggedState → Op → ℕ → ℕ → UntaggedState
with_counted u op x choice = with_flags u (record (settled (flags_of op x 1 0) choice) { cy = u.flags.cy })

-- an operation on an operand and 1, which keeps CY: INR is by ADD, DCR by SUB
abbrev pub count_by : UntaggedState → Op → Src → ℕ → UntaggedState
count_by u op on choice = with_counted (into u on (result_of op (source u on) 1 0)) op (source u on) choice
