use Rattle.std.proofs.Common.{ap, sym, ◌∙◌, refl}
use Rattle.cmd_arguments.specs.Asked.{has_short}
use Rattle.cmd_arguments.proofs.items.has_short.Goals as goal

pub returns-in_default : goal.returns-in_default
returns-in_default c = sym (rw c.in_default.ensures.first at c.loop-word.invariant)

pub returns-then-eq : goal.returns-then-eq
returns-then-eq c =
    let front = c.loop-word.invariant ∙ ap has_short c.in-Some.ensures.first in
    sym (front ∙ rw (sym c.eq.ensures ∙ c.if-eq.true) refl)

pub returns-then-is_short : goal.returns-then-is_short
returns-then-is_short c =
    let front = c.loop-word.invariant ∙ ap has_short c.in-Some.ensures.first in
    sym (front ∙ rw (sym c.eq.ensures ∙ c.if-eq.false, sym c.is_short.ensures ∙ c.if-is_short.true) refl)

pub loop-word-preserved : goal.loop-word-preserved
loop-word-preserved c =
    let front = c.loop-word.invariant ∙ ap has_short c.in-Some.ensures.first in
    front ∙ rw (sym c.eq.ensures ∙ c.if-eq.false, sym c.is_short.ensures ∙ c.if-is_short.false) refl
