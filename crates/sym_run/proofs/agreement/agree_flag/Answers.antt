use Rattle.std.proofs.Common.{◌≡◌, ◌∙◌, ◌||◌, Bool, false, ap, sym}
use Rattle.sym_terms.specs.Term.{Unknown, same_term}
use Rattle.sym_terms.specs.Making.{bit}
use Rattle.sym_terms.specs.Trees.{tree_in}
use Rattle.sym_run.specs.Seen.{tree_of_seen}
use Rattle.sym_run.proofs.Showing.{plain_agrees, bit_plain, bit_no_flags}
use Rattle.sym_run.proofs.agreement.agree_flag.Goals as goal

pub returns-else-unknown : goal.returns-else-unknown
returns-else-unknown c =
    let tree = tree_in c.args.terms.now c.args.flag in
    let other = bit (tree_of_seen c.args.terms.now c.args.seen) c.args.part in
    let known : same_term tree Unknown ≡ false = sym c.is_unknown-unknown.ensures ∙ c.if-unknown.false in
    c.is_bit_in-one.ensures
    ∙ sym (ap (λ (b : Bool). b || same_term tree other) known)
    ∙ sym (plain_agrees c.made_terms_have_sorts.ensures tree other (c.mark-mark.ensures.terms.made c.args.flag c.requires.flag.given) (bit_plain tree c.requires.flag.of_sort) (bit_no_flags tree c.requires.flag.of_sort))
