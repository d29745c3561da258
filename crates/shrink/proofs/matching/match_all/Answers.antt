use Rattle.std.proofs.Common.{false, refl}
use Rattle.shrink.proofs.Steps.{not_true}
use Rattle.shrink.proofs.Matched.{found_match, found_none}
use Rattle.shrink.proofs.matching.match_all.Goals as goal

pub returns-in-Shown : goal.returns-in-Shown
returns-in-Shown c = λ n needs.
    let f = c.in-Shown.ensures.finding c.args.lines.now (record { stated = c.requires.text; made = c.in_ok-image.ensures }) in
    (λ t. found_match c.args.program.now n c.args.lines.now c.in-Shown.field-0 needs f, λ m. refl)

pub returns : goal.returns
returns c = λ n needs.
    let found = c.in-NotShown in
    let f = found.ensures.finding c.args.lines.now (record { stated = c.requires.text; made = c.in_ok-image.ensures }) in (
      λ t. absurd (not_true false refl t),
      λ m. absurd (found_none c.args.program.now n c.args.lines.now found.field-0 found.field-1 needs f m),
    )
