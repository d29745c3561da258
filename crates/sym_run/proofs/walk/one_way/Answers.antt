use Rattle.std.proofs.Common.{false, Some, Ok, subst, sym, lit≤}
use Rattle.sym_block_def.specs.Outcome.{One}
use Rattle.sym_block_def.specs.Walk86.{one_way}
use Rattle.sym_micro.specs.declared.outcome.Exit.TheVariants.{One as OneIds}
use Rattle.sym_micro.specs.Machine.{as86}
use Rattle.sym_micro.specs.Stands.{machine_of}
use Rattle.sym_micro.proofs.Found.{no_exit, exit_of_way}
use Rattle.sym_run.specs.declared.ends.End.{End}
use Rattle.sym_run.specs.declared.ends.Next.TheVariants.{Ends as EndsSo}
use Rattle.sym_run.specs.Ends.{Advances}
use Rattle.sym_run.proofs.Steps.{end_missing, end_found, exit_missing, exit_found}
use Rattle.sym_run.proofs.walk.one_way.Goals as goal

pub returns-in_err-way : goal.returns-in_err-way
returns-in_err-way c = λ tree h.
    let old = c.args.terms.now in
    let new = c.way_of.new.terms in
    let r = c.args.run.now in
    let t = one_way (as86 (machine_of old r)) tree in
    subst (Advances old new r r (λ on. t)) (sym c.from_residual.ensures)
    (end_missing old new 3 r r t (λ on. t) (lit≤ tt)
    (exit_missing old new 3 r (One tree) t c.requires (no_exit old new 3 tree (One tree) (c.in_err-way.ensures.finds tree h))))

pub returns : goal.returns
returns c = λ tree h.
    let old = c.args.terms.now in
    let new = c.way_of.new.terms in
    let r = c.args.run.now in
    let t = one_way (as86 (machine_of old r)) tree in
    let way = c.in_ok-way.way in
    let end : End = record { exit = OneIds way; direct = false } in
    subst (λ (e : End). Advances old new r r (λ on. t) (Some (EndsSo (Ok e)))) (sym c.by_exit.ensures)
    (end_found old new 3 r r t (Ok end) (lit≤ tt)
    (exit_found old new 3 r (One tree) (OneIds way) c.requires (exit_of_way old new 3 tree way (c.in_ok-way.ensures.finds tree h))))
