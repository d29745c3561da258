use Rattle.templates_law.proofs.Styles.{StyleLaw, PlainLaw, plain_stands}
use Rattle.templates_law.proofs.Matching.{plain_matches}
use Rattle.templates_law.proofs.laws.plain_matches_alone.Goals as goal

pub returns : goal.returns
returns c =
    let t = c.own_text_stands.ensures in
    let law : StyleLaw = record { stands = t.stands; assembles = t.assembles; reader = t.reader } in
    let plain_law : PlainLaw = record { is = c.plain_is_a_style.ensures.is; reaches = c.plain_is_a_style.ensures.reaches } in
    λ p is fits. plain_matches c.ones_are_blocks.ensures c.plain_blocks_match.ensures p is (plain_stands law plain_law p is fits)
