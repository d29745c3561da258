use Rattle.std.proofs.Common.{◌<◌, ◌∙◌, ap, subst, sym, refl, Some, None}
use Rattle.xlt_pool.specs.Contents.{Contents}
use Rattle.sym_terms.specs.Term.{is_adjusted}
use Rattle.sym_terms.specs.Making.{IsTermMade}
use Rattle.sym_terms.specs.Heads.{operands}
use Rattle.sym_terms.specs.Trees.{Tree, tree_of_head, entries_of, AreGiven, Makes}
use Rattle.sym_terms.specs.Forms.{HasRest}
use Rattle.sym_terms.proofs.Marks.{op_below}
use Rattle.sym_terms.proofs.Interning.{Interns, interns_head, makes}
use Rattle.sym_terms.proofs.terms.Terms.keep_with.Goals as goal

pub marked-requires : goal.marked-requires
marked-requires c = subst (λ n. n.op < 32) (sym c.node_of-node.ensures) (op_below c.args.head c.args.rest.0)

pub returns-in_err-id : goal.returns-in_err-id
returns-in_err-id c =
    let pool = c.self.inside.pool in
    let new = c.intern.new.self in
    let head = c.args.head in
    let given : AreGiven pool (operands head) = subst (λ (v : Contents). AreGiven v (operands head)) (sym c.self.view_is) c.requires.given in
    let rest : HasRest (entries_of pool.nodes) head c.args.rest.0 = subst (λ (v : Contents). HasRest (entries_of v.nodes) head c.args.rest.0) (sym c.self.view_is) c.requires.rest in
    let made : IsTermMade (tree_of_head (entries_of pool.nodes) head) = subst (λ (v : Contents). IsTermMade (tree_of_head (entries_of v.nodes) head)) (sym c.self.view_is) c.requires.made in
    let adjusted = c.requires.adjusted ∙ ap (λ (v : Contents). is_adjusted (tree_of_head (entries_of v.nodes) head)) (sym c.self.view_is) in
    let i : Interns pool new (Tree (tree_of_head (entries_of pool.nodes) head)) None = interns_head pool new head c.args.rest.0 c.args.adjusted c.node_of-node.result c.marked.result None c.node_of-node.ensures adjusted c.marked.ensures c.self.invariant rest given made c.in_err-id.ensures.place in
    subst (λ (v : Contents). Makes v new 1 (tree_of_head (entries_of v.nodes) head) c.from_residual.result) c.self.view_is
    (makes pool new (tree_of_head (entries_of pool.nodes) head) None c.from_residual.result i c.from_residual.ensures)

pub invariant_of-self-2 : goal.invariant_of-self-2
invariant_of-self-2 c =
    let pool = c.self.inside.pool in
    let new = c.intern.new.self in
    let head = c.args.head in
    let given : AreGiven pool (operands head) = subst (λ (v : Contents). AreGiven v (operands head)) (sym c.self.view_is) c.requires.given in
    let rest : HasRest (entries_of pool.nodes) head c.args.rest.0 = subst (λ (v : Contents). HasRest (entries_of v.nodes) head c.args.rest.0) (sym c.self.view_is) c.requires.rest in
    let made : IsTermMade (tree_of_head (entries_of pool.nodes) head) = subst (λ (v : Contents). IsTermMade (tree_of_head (entries_of v.nodes) head)) (sym c.self.view_is) c.requires.made in
    let adjusted = c.requires.adjusted ∙ ap (λ (v : Contents). is_adjusted (tree_of_head (entries_of v.nodes) head)) (sym c.self.view_is) in
    let i : Interns pool new (Tree (tree_of_head (entries_of pool.nodes) head)) (Some c.in_ok-id.id) = interns_head pool new head c.args.rest.0 c.args.adjusted c.node_of-node.result c.marked.result (Some c.in_ok-id.id) c.node_of-node.ensures adjusted c.marked.ensures c.self.invariant rest given made c.in_ok-id.ensures.place in
    i.list

pub returns : goal.returns
returns c =
    let pool = c.self.inside.pool in
    let new = c.intern.new.self in
    let head = c.args.head in
    let given : AreGiven pool (operands head) = subst (λ (v : Contents). AreGiven v (operands head)) (sym c.self.view_is) c.requires.given in
    let rest : HasRest (entries_of pool.nodes) head c.args.rest.0 = subst (λ (v : Contents). HasRest (entries_of v.nodes) head c.args.rest.0) (sym c.self.view_is) c.requires.rest in
    let made : IsTermMade (tree_of_head (entries_of pool.nodes) head) = subst (λ (v : Contents). IsTermMade (tree_of_head (entries_of v.nodes) head)) (sym c.self.view_is) c.requires.made in
    let adjusted = c.requires.adjusted ∙ ap (λ (v : Contents). is_adjusted (tree_of_head (entries_of v.nodes) head)) (sym c.self.view_is) in
    let i : Interns pool new (Tree (tree_of_head (entries_of pool.nodes) head)) (Some c.in_ok-id.id) = interns_head pool new head c.args.rest.0 c.args.adjusted c.node_of-node.result c.marked.result (Some c.in_ok-id.id) c.node_of-node.ensures adjusted c.marked.ensures c.self.invariant rest given made c.in_ok-id.ensures.place in
    subst (λ (v : Contents). Makes v new 1 (tree_of_head (entries_of v.nodes) head) (Some (record { 0 = c.in_ok-id.id }))) c.self.view_is
    (makes pool new (tree_of_head (entries_of pool.nodes) head) (Some c.in_ok-id.id) (Some (record { 0 = c.in_ok-id.id })) i refl)
