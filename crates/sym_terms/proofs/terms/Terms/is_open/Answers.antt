use Rattle.std.proofs.Common.{◌≡◌, ◌∙◌, ◌||◌, sym, ap, false}
use Rattle.sym_terms.specs.Heads.{opens}
use Rattle.sym_terms.specs.Trees.{entries_of, tree_in}
use Rattle.sym_terms.proofs.Opening.{open_plain, open_join, open_first}
use Rattle.sym_terms.proofs.terms.Terms.is_open.Goals as goal

pub returns-else-opens-clause-open : goal.returns-else-opens-clause-open
returns-else-opens-clause-open c =
    let held = c.args.self.now in
    let t = tree_in held c.args.term in
    let first : opens c.head-in-Join.result ≡ false = sym c.opens.ensures ∙ c.if-opens.false in
    c.opens-else-opens.ensures
    ∙ ap (λ x. x || opens c.head-else-opens.result) (sym first)
    ∙ open_join (entries_of held.nodes) t c.in-Join.high c.in-Join.low c.head-in-Join.result c.head-else-opens.result (c.in-Join.ensures.terms.made c.args.term c.requires) c.in-Join.ensures.tree c.head-in-Join.ensures.tree c.head-else-opens.ensures.tree

pub returns-in_default : goal.returns-in_default
returns-in_default c =
    let held = c.args.self.now in
    let t = tree_in held c.args.term in
    record {
      «open» = c.opens-in_default.ensures ∙ open_plain (entries_of held.nodes) t c.head.result (c.head.ensures.terms.made c.args.term c.requires) c.head.ensures.tree c.in_default.not-Join;
      made = c.head.ensures.terms.made c.args.term c.requires;
      terms = c.head.ensures.terms;
    }

pub returns-then-opens : goal.returns-then-opens
returns-then-opens c =
    let held = c.args.self.now in
    let made = c.in-Join.ensures.terms.made c.args.term c.requires in
    record {
      «open» = c.if-opens.true ∙ open_first (entries_of held.nodes) (tree_in held c.args.term) c.in-Join.high c.in-Join.low c.head-in-Join.result made c.in-Join.ensures.tree c.head-in-Join.ensures.tree (sym c.opens.ensures ∙ c.if-opens.true);
      made = made;
      terms = c.in-Join.ensures.terms;
    }

pub returns-else-opens-clause-made : goal.returns-else-opens-clause-made
returns-else-opens-clause-made c = c.in-Join.ensures.terms.made c.args.term c.requires

pub returns-else-opens-clause-terms : goal.returns-else-opens-clause-terms
returns-else-opens-clause-terms c = c.in-Join.ensures.terms

pub head-requires-in-Join : goal.head-requires-in-Join
head-requires-in-Join c = c.in-Join.ensures.operands.0

pub head-requires-else-opens : goal.head-requires-else-opens
head-requires-else-opens c = c.in-Join.ensures.operands.1.0
