-- What is known when both runs were made.
use Rattle.std.specs.Prelude.{Some}
use Rattle.bdos_small.specs.Supply.{Supply}
use Rattle.cmd_runs.specs.Works.{RunsMade}
use Rattle.cmd_runs.specs.declared.making.Made.{Made}

-- the 8080's came to its end, which has this line, and left this
abbrev pub runs_made : Made → Supply → RunsMade
runs_made m left = record { end = m.first; line = m.line; second = Some m.second.steps; left = left }
