use Rattle.std.proofs.Common.{◌∙◌, ◌<◌, ℕ, List, length, sym, ap, subst}
use Rattle.cmd_common.specs.Names.{names_read}
use Rattle.cmd_common.specs.Said.{IsDone}
use Rattle.cmd_common.proofs.Said.{line_some}
use Rattle.cmd_runs.specs.Lasts.{closing_line, SaysEnd}
use Rattle.cmd_runs.proofs.Naming.{steps_some}
use Rattle.cmd_runs.proofs.last.say_end.Goals as goal

pub say_done-requires : goal.say_done-requires
say_done-requires g c =
    let names = names_read c.args.names.now in
    let second = c.args.last.now.second in
    subst (λ (l : List ℕ). 0 < length l) (sym (c.as_str.ensures.value ∙ c.requires names ∙ ap (closing_line names second) c.in-Ok.is)) (steps_some second c.in-Ok.field-0)

pub returns-in-Ok : goal.returns-in-Ok
returns-in-Ok g c =
    let names = names_read c.args.names.now in
    let second = c.args.last.now.second in
    let old = g.H.Host.state c.args.host.now in
    let new = g.H.Host.state c.say_done.new.host in
    subst (λ came. SaysEnd names second came old new c.say_done.result) (sym c.in-Ok.is)
    (subst (λ l. IsDone l old new c.say_done.result) (c.as_str.ensures.value ∙ c.requires names ∙ ap (closing_line names second) c.in-Ok.is) c.say_done.ensures)

pub say_made-requires-clause-made : goal.say_made-requires-clause-made
say_made-requires-clause-made g c =
    let names = names_read c.args.names.now in
    c.as_str-in-Err.ensures.value ∙ c.requires names ∙ ap (closing_line names c.args.last.now.second) c.in-Err.is

pub say_made-requires-clause-some : goal.say_made-requires-clause-some
say_made-requires-clause-some g c =
    let names = names_read c.args.names.now in
    subst (λ (l : List ℕ). 0 < length l) (sym (c.as_str-in-Err.ensures.value ∙ c.requires names ∙ ap (closing_line names c.args.last.now.second) c.in-Err.is)) (line_some names c.in-Err.stop)
