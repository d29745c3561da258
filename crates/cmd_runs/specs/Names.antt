-- The names of the files of a run.
use Rattle.std.specs.Prelude.{List, [], ℕ, unwrap_or}
use Rattle.cmd_arguments.specs.Words.{RunOptions}
use Rattle.cmd_common.specs.Names.{FileNames}

-- that of what runs, and those that its options give
abbrev pub run_names : List ℕ → RunOptions → FileNames
run_names file run = record { first = file; text = []; console = unwrap_or run.input []; disk = unwrap_or run.disk []; ports = unwrap_or run.ports [] }
