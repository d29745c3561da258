use Rattle.std.proofs.Common.{◌∙◌, ◌||◌, Bool, ap, sym}
use Rattle.sym_terms.specs.Term.{same_term}
use Rattle.sym_terms.specs.Trees.{tree_in}
use Rattle.sym_run.proofs.Showing.{plain_agrees}
use Rattle.sym_run.proofs.agreement.agree_known.Goals as goal

pub returns : goal.returns
returns c =
    let tree = tree_in c.args.terms.now c.args.s in
    let other = tree_in c.args.terms.now c.args.t in
    c.same.ensures
    ∙ sym (ap (λ (b : Bool). b || same_term tree other) c.requires.known)
    ∙ sym (plain_agrees c.made_terms_have_sorts.ensures tree other (c.mark-mark.ensures.terms.made c.args.s c.requires.s) c.requires.plain c.requires.no_flags)
