-- Replies whose numbers are in the ranges of their types.
use Rattle.std.specs.Prelude.{◌<◌, All}
use Rattle.dialogue.specs.declared.blocks.Block.{Block}
use Rattle.dialogue.specs.declared.request.Reply.{Reply}

-- bytes at an address
pub record IsReplyBlock (b : Block) : Type 0 where
  pub at : b.at < 0x10000
  pub bytes : All (λ n. n < 256) b.bytes

-- a word, and such blocks
pub record IsReply (y : Reply) : Type 0 where
  pub answer : y.answer < 0x10000
  pub writes : All IsReplyBlock y.writes
