use Rattle.hex_file.proofs.Reading.{put_more}
use Rattle.hex_file.proofs.file.put_data.Goals as goal

pub loop-offset-preserved : goal.loop-offset-preserved
loop-offset-preserved c = put_more c.args.cells.now c.loop-offset.cells c.put.new.self c.address-address.result c.loop-offset.offset c.data-byte-items.result.now c.loop-offset-test.true c.loop-offset.invariant c.in_ok-put.ensures.put
