use Rattle.std.proofs.Common.{subst}
use Rattle.std.specs.String.{string_bytes}
use Rattle.cmd_arguments.specs.ReadCommands.{translate_read}
use Rattle.cmd_common.specs.Said.{IsDone}
use Rattle.cmd_common.proofs.Said.{named}
use Rattle.cmd_translate.specs.Translates.{TranslateGives}
use Rattle.cmd_translate.proofs.TranslateFinish.{worked, stopped, decides}
use Rattle.cmd_translate.proofs.translation.translate.Given.{Over}
use Rattle.cmd_translate.proofs.translation.translate.Goals as goal
use Rattle.cmd_translate.proofs.translation.translate.Goals.{After-drop-line, After-say_stop}

gives-in-Ok : (g : Over) (c : After-drop-line g) → TranslateGives (translate_read c.args.command.now) (g.H.Host.state c.args.host.now) (g.H.Host.state c.say_done.new.host) c.say_done.result
gives-in-Ok g c =
    let mid = g.H.Host.state c.work.new.host in
    let new = g.H.Host.state c.say_done.new.host in
    worked (translate_read c.args.command.now) (g.H.Host.state c.args.host.now) mid new
    (record { reads = c.own_texts_are_same.ensures.reads_back; assembles = c.own_texts_are_same.ensures.assembles; reader = c.own_texts_are_same.ensures.reader; same = c.own_texts_are_same.ensures.same })
    (record { reads = c.commented_texts_read_back.ensures.reads; image = c.commented_texts_read_back.ensures.image })
    (string_bytes c.in-Ok.line) c.in-Ok.ensures.worked c.say_done.result
    (subst (λ l. IsDone l mid new c.say_done.result) c.as_str.ensures.value c.say_done.ensures)

gives-in-Err : (g : Over) (c : After-say_stop g) → TranslateGives (translate_read c.args.command.now) (g.H.Host.state c.args.host.now) (g.H.Host.state c.say_stop.new.host) c.say_stop.result
gives-in-Err g c =
    stopped (translate_read c.args.command.now) (g.H.Host.state c.args.host.now) (g.H.Host.state c.work.new.host) (g.H.Host.state c.say_stop.new.host)
    c.in-Err.stop c.in-Err.ensures.stopped c.say_stop.result (named c.one.ensures c.say_stop.ensures)

pub returns-in-Ok : goal.returns-in-Ok
returns-in-Ok g c =
    let given = gives-in-Ok g c in
    record {
      gives = given;
      completes = λ none bytes told memory. decides (translate_read c.args.command.now) (c.sources_have_one_outcome.ensures (translate_read c.args.command.now).zilog) c.own_texts_are_same.ensures.one (g.H.Host.state c.args.host.now) (g.H.Host.state c.say_done.new.host) none bytes told c.say_done.result memory given;
    }

pub returns-in-Err : goal.returns-in-Err
returns-in-Err g c =
    let given = gives-in-Err g c in
    record {
      gives = given;
      completes = λ none bytes told memory. decides (translate_read c.args.command.now) (c.sources_have_one_outcome.ensures (translate_read c.args.command.now).zilog) c.own_texts_are_same.ensures.one (g.H.Host.state c.args.host.now) (g.H.Host.state c.say_stop.new.host) none bytes told c.say_stop.result memory given;
    }
