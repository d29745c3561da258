use Rattle.std.proofs.Common.{◌+◌, ◌*◌}
use Rattle.block_explain.proofs.terms.+words.Given as goal

-- each operation goes down by one, and what says it calls only what stands above it here
abbrev pub decreases-words_to : goal.decreases-words_to
decreases-words_to l = 8 * l.depth

abbrev pub decreases-one_words : goal.decreases-one_words
decreases-one_words l = 8 * l.depth + 1

abbrev pub decreases-two_words : goal.decreases-two_words
decreases-two_words l = 8 * l.depth + 2

abbrev pub decreases-three_words : goal.decreases-three_words
decreases-three_words l = 8 * l.depth + 3

abbrev pub decreases-alu_words : goal.decreases-alu_words
decreases-alu_words l = 8 * l.depth + 4

abbrev pub decreases-turn_words : goal.decreases-turn_words
decreases-turn_words l = 8 * l.depth + 4

abbrev pub decreases-deep_words : goal.decreases-deep_words
decreases-deep_words l = 8 * l.depth + 5
