use Rattle.std.proofs.Common.{ℕ, List, length, map, refl, sym, subst}
use Rattle.std.specs.Prelude.{All, ◌<◌}
use Rattle.std.specs.List.{concat}
use Rattle.std.specs.String.{string_bytes}
use Rattle.cmd_arguments.specs.ReadCommands.{listing_read}
use Rattle.cmd_common.specs.Said.{IsDone}
use Rattle.cmd_common.specs.Makes.{MakeGives, made, stopped}
use Rattle.cmd_common.proofs.Said.{named}
use Rattle.cmd_common.proofs.Deciding.{completes, files_stay}
use Rattle.cmd_lists.specs.Lists.{list_kind}
use Rattle.cmd_lists.proofs.Laws.{laws_of_list}
use Rattle.cmd_lists.proofs.list.list.Given.{Over}
use Rattle.cmd_lists.proofs.list.list.Goals as goal
use Rattle.cmd_lists.proofs.list.list.Goals.{After-drop-lines, After-say_stop}

gives-in-Ok : (g : Over) (c : After-drop-lines g) → MakeGives (list_kind g.L.Listed.are_lines (listing_read c.args.command.now)) (g.H.Host.state c.args.host.now) (g.H.Host.state c.say_report.new.host) c.say_report.result
gives-in-Ok g c =
    let mid = g.H.Host.state c.work.new.host in
    let new = g.H.Host.state c.say_report.new.host in
    made mid (concat (map string_bytes c.in-Ok.lines.items)) c.in-Ok.ensures.made
    (subst (λ ls. IsDone (concat (map string_bytes ls)) mid new c.say_report.result) c.as_slice.ensures.value c.say_report.ensures)

gives-in-Err : (g : Over) (c : After-say_stop g) → MakeGives (list_kind g.L.Listed.are_lines (listing_read c.args.command.now)) (g.H.Host.state c.args.host.now) (g.H.Host.state c.say_stop.new.host) c.say_stop.result
gives-in-Err g c = stopped (g.H.Host.state c.work.new.host) c.in-Err.stop c.in-Err.ensures.stopped (named c.one.ensures c.say_stop.ensures)

pub say_report-requires : goal.say_report-requires
say_report-requires g c = subst (λ ls. All (λ (l : List ℕ). 0 < length l) (map string_bytes ls)) (sym c.as_slice.ensures.value) c.in-Ok.ensures.some

pub returns-in-Ok : goal.returns-in-Ok
returns-in-Ok g c =
    let command = listing_read c.args.command.now in
    let given = gives-in-Ok g c in
    record {
      gives = given;
      files = files_stay (list_kind g.L.Listed.are_lines (listing_read c.args.command.now)) (g.H.Host.state c.args.host.now) (g.H.Host.state c.say_report.new.host) refl c.say_report.result given;
      completes = completes (list_kind g.L.Listed.are_lines command) (g.H.Host.state c.args.host.now) (g.H.Host.state c.say_report.new.host) (laws_of_list g.L.Listed.are_lines c.lines_are_one.ensures command (c.sources_have_one_outcome.ensures command.zilog)) c.say_report.result given;
    }

pub returns-in-Err : goal.returns-in-Err
returns-in-Err g c =
    let command = listing_read c.args.command.now in
    let given = gives-in-Err g c in
    record {
      gives = given;
      files = files_stay (list_kind g.L.Listed.are_lines (listing_read c.args.command.now)) (g.H.Host.state c.args.host.now) (g.H.Host.state c.say_stop.new.host) refl c.say_stop.result given;
      completes = completes (list_kind g.L.Listed.are_lines command) (g.H.Host.state c.args.host.now) (g.H.Host.state c.say_stop.new.host) (laws_of_list g.L.Listed.are_lines c.lines_are_one.ensures command (c.sources_have_one_outcome.ensures command.zilog)) c.say_stop.result given;
    }
