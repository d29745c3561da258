use Rattle.std.proofs.Common.{◌≡◌, Bool, List, [], ◌∷◌, length, None}
use Rattle.std.specs.List.{find}
use Rattle.cells.specs.declared.Part.{Part}
use Rattle.block_check.specs.Kept.{wanted_parts, lost_of}
use Rattle.block_check.specs.Comparing.{first_outcome, second_of, is_bad_by}
use Rattle.block_check.proofs.outcomes.first_bad_of.Goals as goal

none_left : (test : Part → Bool) (rest parts : List Part) → length rest ≡ 0 → find test rest ≡ find test parts → None ≡ find test parts
none_left test [] parts h same = same
none_left test (x ∷ xs) parts h same = absurd (cc)

pub returns : goal.returns
returns c =
    none_left (is_bad_by (wanted_parts c.args.kept.now) (lost_of c.args.back) (first_outcome c.args.work.now) (second_of c.args.work.now))
    c.loop-part.rest.now c.args.parts.now c.in_default.ensures.cases c.loop-part.invariant
