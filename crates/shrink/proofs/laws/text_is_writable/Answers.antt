use Rattle.shrink.proofs.Given.{text_names, text_ends}
use Rattle.shrink.proofs.laws.text_is_writable.Goals as goal

pub returns : goal.returns
returns c =
    let lines = c.args.lines.now in
    record {
      written = c.lines_have_text.ensures (text_names c.lines_name_labels.ensures c.requires.gives.0 lines c.requires.gives.1);
      assembles = c.requires.assembles;
      has_end = text_ends c.requires.gives.0 lines c.requires.gives.1;
    }
