use Rattle.std.proofs.Common.{◌∙◌, sym, ap, refl}
use Rattle.asm80_first_walk.specs.State.{State, walk_of}
use Rattle.asm80_first_walk.proofs.Nesting.{taken_with}
use Rattle.asm80_first_walk.proofs.walker.Walker.takes.Goals as goal

pub returns-then-some_skips : goal.returns-then-some_skips
returns-then-some_skips c = λ s e.
    let ifs = ap (λ (x : State). x.ifs) (sym c.self.view_is) ∙ sym c.deref.ensures.value ∙ c.in-Some.ensures.cases.0 in
    rw c.if-some_skips.true at (taken_with (walk_of c.args.self.now) c.args.self.now.ifs c.in-Some.outer.now c.in-Some.innermost.now c.some_skips.result s c.args.operation refl ifs c.some_skips.ensures e)

pub returns-then-innermost : goal.returns-then-innermost
returns-then-innermost c = λ s e.
    let ifs = ap (λ (x : State). x.ifs) (sym c.self.view_is) ∙ sym c.deref.ensures.value ∙ c.in-Some.ensures.cases.0 in
    let all = taken_with (walk_of c.args.self.now) c.args.self.now.ifs c.in-Some.outer.now c.in-Some.innermost.now c.some_skips.result s c.args.operation refl ifs c.some_skips.ensures e in
    c.if-innermost.true ∙ (rw (c.if-some_skips.false, c.if-innermost.true) at all)

pub returns-else-innermost : goal.returns-else-innermost
returns-else-innermost c = λ s e.
    let ifs = ap (λ (x : State). x.ifs) (sym c.self.view_is) ∙ sym c.deref.ensures.value ∙ c.in-Some.ensures.cases.0 in
    let all = taken_with (walk_of c.args.self.now) c.args.self.now.ifs c.in-Some.outer.now c.in-Some.innermost.now c.some_skips.result s c.args.operation refl ifs c.some_skips.ensures e in
    c.is_endif.ensures ∙ (rw (c.if-some_skips.false, c.if-innermost.false) at all)
