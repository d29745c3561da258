-- What an 8086 holds at the start of a run by a choice: all registers are the choice's lowest word, the flags its lowest five
-- bits; DS is 0 and SS is 1.
use Rattle.std.specs.Prelude.{ℕ, ◌%◌}
use Rattle.cpu86.specs.Start.{Start}

abbrev pub start_by : ℕ → Start
start_by choice =
    let word = choice % 0x10000 in
    record { ax = word; cx = word; dx = word; bx = word; sp = word; si = word; ds = 0; ss = 1; flags = choice % 32 }
