use Rattle.std.proofs.Common.{◌<◌, sym, subst}
use Rattle.std.proofs.lemmas.List.{get_or_default}
use Rattle.cmd_runs.proofs.making.start_is_in_range.Goals as goal

pub returns-clause-page : goal.returns-clause-page
returns-clause-page c = λ k d lt. subst (λ n. n < 256) (sym (get_or_default c.args.page.now k d 0 lt)) (c.type_inv.page k).fits

pub returns-clause-fill : goal.returns-clause-fill
returns-clause-fill c = λ k d lt. subst (λ n. n < 256) (sym (get_or_default c.args.fill.now k d 0 lt)) (c.type_inv.fill k).fits
