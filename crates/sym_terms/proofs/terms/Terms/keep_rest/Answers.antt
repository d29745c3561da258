use Rattle.std.proofs.Common.{subst, sym, ◌∷◌, []}
use Rattle.xlt_pool.specs.Contents.{Contents}
use Rattle.sym_terms.specs.Trees.{AreGiven, MakesRest, tree_in}
use Rattle.sym_terms.proofs.Interning.{interns_rest, makes_rest}
use Rattle.sym_terms.proofs.terms.Terms.keep_rest.Goals as goal

pub invariant_of-self : goal.invariant_of-self
invariant_of-self c =
    let pool = c.self.inside.pool in
    let given : AreGiven pool (c.args.ac ∷ c.args.p ∷ c.args.cy ∷ []) = subst (λ (v : Contents). AreGiven v (c.args.ac ∷ c.args.p ∷ c.args.cy ∷ [])) (sym c.self.view_is) (c.requires.ac, (c.requires.p, (c.requires.cy, tt))) in
    (interns_rest pool c.intern.new.self c.args.ac c.args.p c.args.cy c.rest_node.result c.intern.result c.rest_node.ensures c.self.invariant given c.intern.ensures.place).list

pub returns : goal.returns
returns c =
    let pool = c.self.inside.pool in
    let new = c.intern.new.self in
    let given : AreGiven pool (c.args.ac ∷ c.args.p ∷ c.args.cy ∷ []) = subst (λ (v : Contents). AreGiven v (c.args.ac ∷ c.args.p ∷ c.args.cy ∷ [])) (sym c.self.view_is) (c.requires.ac, (c.requires.p, (c.requires.cy, tt))) in
    let i = interns_rest pool new c.args.ac c.args.p c.args.cy c.rest_node.result c.intern.result c.rest_node.ensures c.self.invariant given c.intern.ensures.place in
    subst (λ (v : Contents). MakesRest v new (tree_in v c.args.ac) (tree_in v c.args.p) (tree_in v c.args.cy) c.intern.result) c.self.view_is
    (makes_rest pool new (tree_in pool c.args.ac) (tree_in pool c.args.p) (tree_in pool c.args.cy) c.intern.result i)
