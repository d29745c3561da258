use Rattle.std.proofs.Common.{◌≡◌, ◌+◌, drop}
use Rattle.std.specs.List.{position_or_len}
use Rattle.dialogue.specs.StartPage.{is}
use Rattle.dialogue.proofs.start_page.split_once.Given as goal

abbrev pub invariant-loop-k : goal.invariant-loop-k
invariant-loop-k l = l.k + position_or_len (is l.sign) (drop l.k l.text) ≡ position_or_len (is l.sign) l.text
