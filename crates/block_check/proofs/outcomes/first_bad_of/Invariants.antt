use Rattle.std.proofs.Common.{◌≡◌, length}
use Rattle.std.specs.List.{find}
use Rattle.block_check.specs.Kept.{wanted_parts, lost_of}
use Rattle.block_check.specs.Comparing.{first_outcome, second_of, is_bad_by}
use Rattle.block_check.proofs.outcomes.first_bad_of.Given as goal

abbrev pub invariant-loop-part : goal.invariant-loop-part
invariant-loop-part l =
    find (is_bad_by (wanted_parts l.kept) (lost_of l.back) (first_outcome l.work) (second_of l.work)) l.rest
    ≡ find (is_bad_by (wanted_parts l.kept) (lost_of l.back) (first_outcome l.work) (second_of l.work)) l.parts

abbrev pub decreases-loop-part : goal.decreases-loop-part
decreases-loop-part l = length l.rest
