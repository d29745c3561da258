use Rattle.cmd_check.proofs.laws.checks_have_one_outcome.Goals as goal

pub returns : goal.returns
returns c = record {
  files = record {
    source = c.sources_have_one_outcome.ensures;
    reading = c.text_has_one_reading.ensures;
    refuses = c.images_exclude_refusals.ensures.one_refusal;
    not_both = c.images_exclude_refusals.ensures.not_both;
  };
  finding = c.findings_are_one.ensures;
}
