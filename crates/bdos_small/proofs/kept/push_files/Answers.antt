use Rattle.bdos_small.specs.DiskFile.{file_bytes}
use Rattle.bdos_small.proofs.Pieces.{one_more, all_of}
use Rattle.bdos_small.proofs.kept.push_files.Goals as goal

pub loop-file-preserved : goal.loop-file-preserved
loop-file-preserved c = one_more file_bytes c.args.bytes.now.items _ _ c.args.files.now c.loop-file.file-index c.file-item.result c.loop-file-test.true c.file-item.is c.loop-file.invariant c.in_ok-push_file.ensures

pub returns : goal.returns
returns c = all_of file_bytes c.args.bytes.now.items _ c.args.files.now c.loop-file.file-index c.loop-file-test.false c.loop-file.invariant
