use Rattle.std.proofs.Common.{◌≡◌, ◌∙◌, ◌||◌, Bool, false, ap, sym}
use Rattle.sym_terms.specs.Term.{Unknown, same_term}
use Rattle.sym_terms.specs.Trees.{tree_in}
use Rattle.sym_run.specs.Seen.{tree_of_seen}
use Rattle.sym_run.proofs.Showing.{plain_agrees}
use Rattle.sym_run.proofs.agreement.agree_plain.Goals as goal

pub returns-else-unknown : goal.returns-else-unknown
returns-else-unknown c =
    let tree = tree_in c.args.terms.now c.args.s in
    let other = tree_of_seen c.args.terms.now c.args.seen in
    let known : same_term tree Unknown ≡ false = sym c.is_unknown-unknown.ensures ∙ c.if-unknown.false in
    c.is-one.ensures
    ∙ sym (ap (λ (b : Bool). b || same_term tree other) known)
    ∙ sym (plain_agrees c.made_terms_have_sorts.ensures tree other (c.mark-mark.ensures.terms.made c.args.s c.requires.s) c.requires.plain c.in-None.ensures)
