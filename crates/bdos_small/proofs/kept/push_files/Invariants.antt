use Rattle.std.proofs.Common.{◌≡◌, ◌++◌, take}
use Rattle.bdos_small.specs.DiskFile.{files_bytes}
use Rattle.bdos_small.proofs.kept.push_files.Given as goal

abbrev pub invariant-loop-file : goal.invariant-loop-file
invariant-loop-file l = l.bytes.items ≡ l.fn.bytes.items ++ files_bytes (take l.file-index l.files)
