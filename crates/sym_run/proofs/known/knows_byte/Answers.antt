use Rattle.std.proofs.Common.{◌∙◌, not, ap, sym}
use Rattle.sym_terms.specs.Trees.{tree_in}
use Rattle.sym_run.proofs.Showing.{plain_unknown, byte_plain}
use Rattle.sym_run.proofs.known.knows_byte.Goals as goal

pub returns-in-None : goal.returns-in-None
returns-in-None c =
    let tree = tree_in c.args.terms.now c.args.byte in
    ap not
    (c.is_unknown.ensures
    ∙ sym (plain_unknown c.made_terms_have_sorts.ensures tree (c.mark-mark.ensures.terms.made c.args.byte c.requires.given) (byte_plain tree c.requires.of_sort) c.in-None.ensures))
