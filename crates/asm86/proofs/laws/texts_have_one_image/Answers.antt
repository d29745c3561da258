use Rattle.asm86.proofs.OneOutcome.{one_image, never_both, one_fault}
use Rattle.asm86.proofs.laws.texts_have_one_image.Goals as goal

pub returns-clause-image : goal.returns-clause-image
returns-clause-image c = one_image c.text_has_one_reading.ensures c.images_exclude_refusals.ensures.one_image

pub returns-clause-fault : goal.returns-clause-fault
returns-clause-fault c = one_fault c.text_has_one_reading.ensures c.images_exclude_refusals.ensures.one_refusal

pub returns-clause-apart : goal.returns-clause-apart
returns-clause-apart c = never_both c.text_has_one_reading.ensures c.images_exclude_refusals.ensures.not_both
