use Rattle.std.proofs.Common.{sym, ap, ◌∙◌, refl}
use Rattle.std.specs.Prelude.{option_map}
use Rattle.cmd_arguments.specs.declared.command.Command.TheVariants as read
use Rattle.cmd_arguments.specs.ReadCommands.{check_read, listing_read}
use Rattle.cmd_arguments.specs.Words.{command_of, Checks, ExplainsText, ListsFlags, ListsLeaves}
use Rattle.cmd_arguments.proofs.Mapped.{made_of}
use Rattle.cmd_arguments.proofs.given.Given.command.Goals as goal

pub returns-in-Translate : goal.returns-in-Translate
returns-in-Translate c = c.translate.ensures ∙ ap (λ n. command_of n c.args.self.now) (sym c.in-Translate.is)

pub returns-in-Check : goal.returns-in-Check
returns-in-Check c =
    made_of check_read read.Check Checks c.check.result c.map.result (λ _. refl) c.map.ensures.cases ∙ ap (option_map Checks) c.check.ensures ∙ ap (λ n. command_of n c.args.self.now) (sym c.in-Check.is)

pub returns-in-Flags : goal.returns-in-Flags
returns-in-Flags c =
    made_of listing_read read.Flags ListsFlags c.listing.result c.map-in-Flags.result (λ _. refl) c.map-in-Flags.ensures.cases ∙ ap (option_map ListsFlags) c.listing.ensures ∙ ap (λ n. command_of n c.args.self.now) (sym c.in-Flags.is)

pub returns-in-Run80 : goal.returns-in-Run80
returns-in-Run80 c = c.run80.ensures ∙ ap (λ n. command_of n c.args.self.now) (sym c.in-Run80.is)

pub returns-in-Run86 : goal.returns-in-Run86
returns-in-Run86 c = c.run86.ensures ∙ ap (λ n. command_of n c.args.self.now) (sym c.in-Run86.is)

pub returns-in-Both : goal.returns-in-Both
returns-in-Both c = c.both.ensures ∙ ap (λ n. command_of n c.args.self.now) (sym c.in-Both.is)

pub returns-in-Sample : goal.returns-in-Sample
returns-in-Sample c = c.sample.ensures ∙ ap (λ n. command_of n c.args.self.now) (sym c.in-Sample.is)

pub returns-in-Cmd : goal.returns-in-Cmd
returns-in-Cmd c = c.cmd.ensures ∙ ap (λ n. command_of n c.args.self.now) (sym c.in-Cmd.is)

pub returns-in-CmdShow : goal.returns-in-CmdShow
returns-in-CmdShow c = c.cmd_show.ensures ∙ ap (λ n. command_of n c.args.self.now) (sym c.in-CmdShow.is)

pub returns-in-Hex80 : goal.returns-in-Hex80
returns-in-Hex80 c = c.hex80.ensures ∙ ap (λ n. command_of n c.args.self.now) (sym c.in-Hex80.is)

pub returns-in-RunHex : goal.returns-in-RunHex
returns-in-RunHex c = c.run_hex.ensures ∙ ap (λ n. command_of n c.args.self.now) (sym c.in-RunHex.is)

pub returns-in-Shrink : goal.returns-in-Shrink
returns-in-Shrink c = c.shrink.ensures ∙ ap (λ n. command_of n c.args.self.now) (sym c.in-Shrink.is)

pub returns-in-Leaves : goal.returns-in-Leaves
returns-in-Leaves c =
    made_of listing_read read.Leaves ListsLeaves c.listing-in-Leaves.result c.map-in-Leaves.result (λ _. refl) c.map-in-Leaves.ensures.cases ∙ ap (option_map ListsLeaves) c.listing-in-Leaves.ensures ∙ ap (λ n. command_of n c.args.self.now) (sym c.in-Leaves.is)

pub returns-in-Explain : goal.returns-in-Explain
returns-in-Explain c =
    made_of check_read read.Explain ExplainsText c.check-in-Explain.result c.map-in-Explain.result (λ _. refl) c.map-in-Explain.ensures.cases ∙ ap (option_map ExplainsText) c.check-in-Explain.ensures ∙ ap (λ n. command_of n c.args.self.now) (sym c.in-Explain.is)
