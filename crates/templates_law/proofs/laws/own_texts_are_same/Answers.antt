use Rattle.templates_law.proofs.Styles.{StyleLaw, PlainLaw, text_stands, reads_back, one_text, text_same}
use Rattle.templates_law.proofs.laws.own_texts_are_same.Goals as goal

pub returns : goal.returns
returns c =
    let t = c.own_text_stands.ensures in
    let law : StyleLaw = record { stands = t.stands; assembles = t.assembles; reader = t.reader } in
    let plain_law : PlainLaw = record { is = c.plain_is_a_style.ensures.is; reaches = c.plain_is_a_style.ensures.reaches } in
    let stands = text_stands law plain_law c.lean_jumps_reach.ensures in
    record {
      reads_back = reads_back c.text_reads_back.ensures.plain c.text_reads_back.ensures.lean;
      assembles = λ mode p lines is text fits. (stands mode p lines is text fits).assembles;
      reader = λ mode p lines is text fits. (stands mode p lines is text fits).reader;
      same = text_same c.matches_is_same.ensures c.plain_matches_alone.ensures c.modes_match.ensures;
      one = one_text c.lean_texts_are_one.ensures;
    }
