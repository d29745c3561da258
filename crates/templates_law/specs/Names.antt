-- Words of the crates below by which what is above speaks of a program and its texts: `Same`, the replies that it is over, and what it
-- is for lines to match a program.
unfoldable pub use Rattle.simulation_def.specs.Same.{Same}
pub use Rattle.dialogue.specs.Replies.{IsReply, IsReplyBlock}
pub use Rattle.simulation_law.specs.Laws.{IsMatch}
