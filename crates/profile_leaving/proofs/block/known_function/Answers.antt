use Rattle.std.proofs.Common.{◌≡◌, ◌∙◌, ap}
use Rattle.sym_terms.specs.Term.{Term}
use Rattle.sym_terms.specs.Trees.{tree_in}
use Rattle.sym_block_def.specs.Outcome.{Held}
use Rattle.sym_block_def.specs.Block80.{block80}
use Rattle.profile_leaving.specs.Leaving.{number_in}
use Rattle.profile_leaving.proofs.Walking.{number_found, some_before}
use Rattle.profile_leaving.proofs.block.known_function.Goals as goal

pub run80-requires : goal.run80-requires
run80-requires c = c.requires (some_before c.args.before c.if-before-eq0.false)

pub returns : goal.returns
returns c =
    let pool = c.run80.new.self.terms in
    let stands = c.in-Some.ensures.stands in
    let held : Term = (block80 c.args.program.now c.args.leader c.args.before).held.c in
    let is : tree_in pool c.part-held.result ≡ held = ap (tree_in pool) (c.part-held.ensures ∙ ap (λ o. o.held.c) c.first.ensures) ∙ ap (λ (h : Held). h.c) stands.held in
    number_found (tree_in pool c.part-held.result) c.number_of.result c.number_of.ensures ∙ ap number_in is
