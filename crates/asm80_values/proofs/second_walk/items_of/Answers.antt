use Rattle.std.proofs.Common.{List, ◌∙◌, ap, sym, subst}
use Rattle.asm80_first_walk.specs.declared.walked.Taken.{Taken}
use Rattle.asm80_first_walk.specs.Walked.{Stand}
use Rattle.asm80_values.specs.Second.{taken_rows}
use Rattle.asm80_values.proofs.SetAgain.{fixed}
use Rattle.asm80_values.proofs.second_walk.items_of.Goals as goal

pub items_of_taken-requires-clause-taken : goal.items_of_taken-requires-clause-taken
items_of_taken-requires-clause-taken c =
    let Standing : List Taken → Type 0 = λ ts. Stand c.args.statements.now ts (taken_rows c.args.statements.now) in
    subst Standing (sym c.deref.ensures.value) c.requires.walked.taken

pub items_of_taken-requires-clause-accepted : goal.items_of_taken-requires-clause-accepted
items_of_taken-requires-clause-accepted c = c.requires.walked.accepted

pub items_of_taken-requires-clause-names : goal.items_of_taken-requires-clause-names
items_of_taken-requires-clause-names c = c.without_settable-names.ensures ∙ ap fixed c.requires.walked.names

pub returns : goal.returns
returns c = c.items_of_taken.ensures
