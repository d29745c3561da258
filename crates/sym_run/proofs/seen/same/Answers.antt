use Rattle.std.proofs.Common.{◌∙◌}
use Rattle.sym_run.proofs.Showing.{same_is}
use Rattle.sym_run.proofs.seen.same.Goals as goal

pub returns : goal.returns
returns c = c.eq.ensures ∙ same_is c.args.terms.now c.args.s c.args.t c.mark-mark.ensures.terms c.requires.s c.requires.t
