use Rattle.templates_law.specs.Match.Own.{StylesRespectNeeds}
use Rattle.templates_law.proofs.Styles.{StyleLaw, PlainLaw, text_matches}
use Rattle.templates_law.proofs.laws.modes_match.Goals as goal

pub returns : goal.returns
returns c =
    let t = c.own_text_stands.ensures in
    let law : StyleLaw = record { stands = t.stands; assembles = t.assembles; reader = t.reader } in
    let plain_law : PlainLaw = record { is = c.plain_is_a_style.ensures.is; reaches = c.plain_is_a_style.ensures.reaches } in
    let styles : StylesRespectNeeds = record { plain = c.styles_respect_needs.ensures.plain; lean = c.styles_respect_needs.ensures.lean } in
    text_matches law plain_law c.lean_jumps_reach.ensures c.lean_texts_are_one.ensures c.own_texts_match.ensures styles c.blocks_are_cuts.ensures c.needs_return.ensures
