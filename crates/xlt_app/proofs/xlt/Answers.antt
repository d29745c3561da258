use Rattle.std.proofs.Common.{map, subst}
use Rattle.std.specs.Prelude.{MatchOption}
use Rattle.std.specs.String.{string_bytes}
use Rattle.cmd_arguments.specs.ReadCommands.{command_read}
use Rattle.cmd_arguments.specs.Words.{IsCommand, IsNoCommand}
use Rattle.xlt_app.proofs.Asked.{words_ask}
use Rattle.xlt_app.proofs.Outcomes.{by_command, by_no_command, by_memory, has_headline, has_checked, has_command_file, has_hex_file, has_shrunk}
use Rattle.xlt_app.proofs.xlt.Goals as goal

pub answer-requires : goal.answer-requires
answer-requires g c =
    let words = map string_bytes c.as_slice.result.now in
    words_ask words (command_read c.in-Ok-Some.command)
    (subst (λ r. MatchOption r (IsNoCommand words) (λ k. IsCommand words (command_read k))) c.in-Ok-Some.field-0-is c.in-Ok-Some.ensures)

-- a command was answered
pub returns-in-Ok-Some : goal.returns-in-Ok-Some
returns-in-Ok-Some g c =
    let read = map string_bytes c.as_slice.result.now in
    let words = map string_bytes c.args.words.items in
    let old = g.H.Host.state c.args.host.now in
    let new = g.H.Host.state c.answer.new.host in
    let is : IsCommand read (command_read c.in-Ok-Some.command) =
    subst (λ r. MatchOption r (IsNoCommand read) (λ k. IsCommand read (command_read k))) c.in-Ok-Some.field-0-is c.in-Ok-Some.ensures in
    let outcomes =
    by_command words old new c.answer.result c.words_are_one_command.ensures (command_read c.in-Ok-Some.command)
    (subst (λ w. IsCommand (map string_bytes w) (command_read c.in-Ok-Some.command)) c.as_slice.ensures.value is) c.answer.ensures in
    record {
      headline = has_headline words old new c.answer.result outcomes;
      checked_headline = has_checked words old new c.answer.result outcomes;
      command_file = has_command_file words old new c.answer.result outcomes;
      hex_file = has_hex_file words old new c.answer.result outcomes;
      shrunk_headline = has_shrunk words old new c.answer.result outcomes;
      outcomes = outcomes;
    }

pub returns-in-Ok-None : goal.returns-in-Ok-None
returns-in-Ok-None g c =
    let read = map string_bytes c.as_slice.result.now in
    let words = map string_bytes c.args.words.items in
    let old = g.H.Host.state c.args.host.now in
    let new = g.H.Host.state c.words_refused.new.host in
    let status = c.words_refused.result in
    let none : IsNoCommand read =
    subst (λ r. MatchOption r (IsNoCommand read) (λ k. IsCommand read (command_read k))) c.in-Ok-None.field-0-is c.in-Ok-None.ensures in
    let outcomes = by_no_command words old new status (subst (λ w. IsNoCommand (map string_bytes w)) c.as_slice.ensures.value none) c.words_refused.ensures in
    record {
      headline = has_headline words old new status outcomes;
      checked_headline = has_checked words old new status outcomes;
      command_file = has_command_file words old new status outcomes;
      hex_file = has_hex_file words old new status outcomes;
      shrunk_headline = has_shrunk words old new status outcomes;
      outcomes = outcomes;
    }

-- there was no memory to read the words
pub returns : goal.returns
returns g c =
    let words = map string_bytes c.args.words.items in
    let old = g.H.Host.state c.args.host.now in
    let new = g.H.Host.state c.say_stop.new.host in
    let outcomes = by_memory words old new c.say_stop.result c.say_stop.ensures in
    record {
      headline = has_headline words old new c.say_stop.result outcomes;
      checked_headline = has_checked words old new c.say_stop.result outcomes;
      command_file = has_command_file words old new c.say_stop.result outcomes;
      hex_file = has_hex_file words old new c.say_stop.result outcomes;
      shrunk_headline = has_shrunk words old new c.say_stop.result outcomes;
      outcomes = outcomes;
    }
