use Rattle.asm86.proofs.Exclusion.{one_refusal, not_both, has_offsets}
use Rattle.asm86.proofs.laws.images_exclude_refusals.Goals as goal

pub returns-clause-one_refusal : goal.returns-clause-one_refusal
returns-clause-one_refusal c = one_refusal

pub returns-clause-not_both : goal.returns-clause-not_both
returns-clause-not_both c = not_both

pub returns-clause-offsets : goal.returns-clause-offsets
returns-clause-offsets c = has_offsets
