use Rattle.std.proofs.Common.{◌∙◌, not, ap, sym}
use Rattle.sym_terms.specs.Trees.{tree_in}
use Rattle.sym_run.proofs.Showing.{plain_unknown, bit_plain, bit_no_flags}
use Rattle.sym_run.proofs.known.knows_bit.Goals as goal

pub returns : goal.returns
returns c =
    let tree = tree_in c.args.terms.now c.args.bit in
    ap not
    (c.is_unknown.ensures
    ∙ sym (plain_unknown c.made_terms_have_sorts.ensures tree (c.mark-mark.ensures.terms.made c.args.bit c.requires.given) (bit_plain tree c.requires.of_sort) (bit_no_flags tree c.requires.of_sort)))
