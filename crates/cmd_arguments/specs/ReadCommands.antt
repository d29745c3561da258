-- What the code's commands stand for.
use Rattle.std.specs.Prelude.{option_copied}
use Rattle.cmd_arguments.specs.declared.command.Command.{Command as ReadCommand}
use Rattle.cmd_arguments.specs.declared.command.Command.TheVariants as read
use Rattle.cmd_arguments.specs.declared.command.Translate.{Translate as ReadTranslate}
use Rattle.cmd_arguments.specs.declared.command.Check.{Check as ReadCheck}
use Rattle.cmd_arguments.specs.declared.command.Listing.{Listing as ReadListing}
use Rattle.cmd_arguments.specs.declared.command.Run80.{Run80 as ReadRun80}
use Rattle.cmd_arguments.specs.declared.command.Run86.{Run86 as ReadRun86}
use Rattle.cmd_arguments.specs.declared.command.Both.{Both as ReadBoth}
use Rattle.cmd_arguments.specs.declared.command.Sample.{Sample as ReadSample}
use Rattle.cmd_arguments.specs.declared.command.Cmd.{Cmd as ReadCmd}
use Rattle.cmd_arguments.specs.declared.command.CmdShow.{CmdShow as ReadCmdShow}
use Rattle.cmd_arguments.specs.declared.command.Hex80.{Hex80 as ReadHex80}
use Rattle.cmd_arguments.specs.declared.command.RunHex.{RunHex as ReadRunHex}
use Rattle.cmd_arguments.specs.declared.command.RunOptions.{RunOptions as ReadRunOptions}
use Rattle.cmd_arguments.specs.Words.{Translate, Check, Listing, RunOptions, Run80, Run86, Both, Sample, Cmd, CmdShow, Hex80, RunHex, Command, Translates, Checks, ListsFlags, Runs80, Runs86, RunsBoth, MakesSample, MakesCmd, ShowsCmd, WritesHex, RunsHex, Shrink, ShrinksText, ListsLeaves, ExplainsText}
use Rattle.cmd_arguments.specs.declared.command.Shrink.{Shrink as ReadShrink}

abbrev pub translate_read : ReadTranslate → Translate
translate_read c = record { input = c.input.now; output = c.output.now; plain = c.plain; zilog = c.zilog; comments = c.comments; top = c.top }

abbrev pub check_read : ReadCheck → Check
check_read c = record { source = c.source.now; text = c.text.now; zilog = c.zilog; top = c.top }

abbrev pub listing_read : ReadListing → Listing
listing_read c = record { source = c.source.now; zilog = c.zilog; top = c.top }

abbrev pub run_options_read : ReadRunOptions → RunOptions
run_options_read r = record { input = option_copied r.input; disk = option_copied r.disk; ports = option_copied r.ports; out_disk = option_copied r.out_disk; page = r.page; steps = r.steps }

abbrev pub run80_read : ReadRun80 → Run80
run80_read c = record { source = c.source.now; zilog = c.zilog; top = c.top; run = run_options_read c.run }

abbrev pub run86_read : ReadRun86 → Run86
run86_read c = record { text = c.text.now; choice = c.choice; run = run_options_read c.run }

abbrev pub both_read : ReadBoth → Both
both_read c = record { source = c.source.now; zilog = c.zilog; top = c.top; choice = c.choice; run = run_options_read c.run }

abbrev pub sample_read : ReadSample → Sample
sample_read c = record { count = c.count; output = c.output.now }

abbrev pub cmd_read : ReadCmd → Cmd
cmd_read c = record { text = c.text.now; output = c.output.now }

abbrev pub cmd_show_read : ReadCmdShow → CmdShow
cmd_show_read c = record { file = c.file.now }

abbrev pub hex80_read : ReadHex80 → Hex80
hex80_read c = record { source = c.source.now; output = c.output.now; zilog = c.zilog; top = c.top }

abbrev pub run_hex_read : ReadRunHex → RunHex
run_hex_read c = record { file = c.file.now; top = c.top; choice = c.choice; run = run_options_read c.run }

abbrev pub shrink_read : ReadShrink → Shrink
shrink_read c = record { source = c.source.now; text = c.text.now; output = c.output.now; top = c.top }

abbrev pub command_read : ReadCommand → Command
command_read (read.Translate c) = Translates (translate_read c)
command_read (read.Check c) = Checks (check_read c)
command_read (read.Flags c) = ListsFlags (listing_read c)
command_read (read.Run80 c) = Runs80 (run80_read c)
command_read (read.Run86 c) = Runs86 (run86_read c)
command_read (read.Both c) = RunsBoth (both_read c)
command_read (read.Sample c) = MakesSample (sample_read c)
command_read (read.Cmd c) = MakesCmd (cmd_read c)
command_read (read.CmdShow c) = ShowsCmd (cmd_show_read c)
command_read (read.Hex80 c) = WritesHex (hex80_read c)
command_read (read.RunHex c) = RunsHex (run_hex_read c)
command_read (read.Shrink c) = ShrinksText (shrink_read c)
command_read (read.Leaves c) = ListsLeaves (listing_read c)
command_read (read.Explain c) = ExplainsText (check_read c)
