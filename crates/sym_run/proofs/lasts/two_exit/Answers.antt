use Rattle.std.proofs.Common.{subst, sym}
use Rattle.sym_block_def.specs.Outcome.{Two}
use Rattle.sym_block_def.specs.Walk86.{flag_of_jump, jumps_at}
use Rattle.sym_micro.specs.Stands.{trees_of_held}
use Rattle.sym_micro.specs.Exits.{FindsExit}
use Rattle.sym_run.proofs.BothWays.{last_still, first_missing, second_missing, two_found}
use Rattle.sym_run.proofs.lasts.two_exit.Goals as goal

pub returns-in_err-there : goal.returns-in_err-there
returns-in_err-there c =
    let old = c.args.terms.now in
    let new = c.way_of.new.terms in
    let flag = flag_of_jump (trees_of_held old c.args.run.now.held) c.args.jump in
    λ here there p q. subst (λ e. FindsExit old new 6 (Two flag (jumps_at c.args.jump) there here) e) (sym c.from_residual.ensures)
    (first_missing old new there (Two flag (jumps_at c.args.jump) there here) (c.in_err-there.ensures.finds there q))

pub returns-in_err-here : goal.returns-in_err-here
returns-in_err-here c =
    let old = c.args.terms.now in
    let mid = c.way_of.new.terms in
    let new = c.way_of-2.new.terms in
    let flag = flag_of_jump (trees_of_held old c.args.run.now.held) c.args.jump in
    λ here there p q.
    let first = c.in_ok-there.ensures.finds there q in
    subst (λ e. FindsExit old new 6 (Two flag (jumps_at c.args.jump) there here) e) (sym c.from_residual-in_err-here.ensures)
    (second_missing old mid new there here c.in_ok-there.there (Two flag (jumps_at c.args.jump) there here) first
    (c.in_err-here.ensures.finds here (last_still old mid 3 c.args.run.now here c.args.straight first.grows c.requires p)))

pub returns : goal.returns
returns c =
    let old = c.args.terms.now in
    let mid = c.way_of.new.terms in
    let new = c.way_of-2.new.terms in
    λ here there p q.
    let first = c.in_ok-there.ensures.finds there q in
    two_found old mid new c.args.run.now c.args.jump c.flag_of_jump.result c.jumps_at.result c.in_ok-there.there c.in_ok-here.here there here c.requires c.flag_of_jump.ensures c.jumps_at.ensures first
    (c.in_ok-here.ensures.finds here (last_still old mid 3 c.args.run.now here c.args.straight first.grows c.requires p))
