use Rattle.std.proofs.Common.{◌≡◌, ap, sym, ◌∙◌, map, inl, inr}
use Rattle.std.specs.String.{string_bytes}
use Rattle.clap.specs.Words.{app_of, fault_of, found_of, is_simple, is_simple_and_free, kind_of, matches_of, rows_of}
use Rattle.cmd_arguments.specs.Asked.{clap_command}
use Rattle.cmd_arguments.proofs.Answered.{faulty_words, short_words, taken_words}
use Rattle.cmd_arguments.proofs.Commands.{given_command}
use Rattle.cmd_arguments.proofs.Rules.{asked_free, asked_simple}
use Rattle.cmd_arguments.proofs.command.read_rest.Goals as goal

pub returns-then-has_short : goal.returns-then-has_short
returns-then-has_short c = short_words c.args.name (map string_bytes c.args.words.now) (sym c.has_short.ensures ∙ c.if-has_short.true)

pub returns-in-Ok : goal.returns-in-Ok
returns-in-Ok c =
    let words = map string_bytes c.args.words.now in
    let is : app_of c.in_ok-asked.field-0 ≡ clap_command c.args.name = c.in_ok-asked.ensures in
    let rows = c.in-Ok.ensures.matches (ap is_simple is ∙ asked_simple c.args.name) in
    let clean = c.in-Ok.ensures.kinds (ap is_simple_and_free is ∙ asked_free c.args.name) in
    given_command c.args.name words _ c.command.result (taken_words c.args.name words (rows_of (found_of c.in-Ok.matches)) _ (sym c.has_short.ensures ∙ c.if-has_short.false) (ap (λ a. fault_of a words) (sym is) ∙ clean) (rows.0 ∙ ap (λ a. matches_of a words) is) c.of_matches.ensures) c.command.ensures

pub returns : goal.returns
returns c =
    let words = map string_bytes c.args.words.now in
    let is : app_of c.in_ok-asked.field-0 ≡ clap_command c.args.name = c.in_ok-asked.ensures in
    let faults = c.in-Err.ensures.kinds (ap is_simple_and_free is ∙ asked_free c.args.name) in
    elim faults [
      | inl memory ↦ absurd (c.in_default.not-OutOfMemory (c.kind.ensures ∙ memory))
      | inr among ↦ faulty_words c.args.name words (kind_of c.in-Err.error) (app_of c.in_ok-asked.field-0) is (sym c.has_short.ensures ∙ c.if-has_short.false) among
    ]
