use Rattle.std.proofs.Common.{◌≡◌, ℕ, sym, subst}
use Rattle.host.specs.Host.{HostState}
use Rattle.cmd_arguments.specs.declared.command.Command.{Command}
use Rattle.cmd_arguments.specs.ReadCommands.{command_read}
use Rattle.xlt_app.specs.Top.{CommandAnswers, HasLawfulValues}
use Rattle.xlt_app.proofs.answer.Goals as goal

-- a command has the values, and the answer, of the one that it is
values_of : (k is : Command) → k ≡ is → HasLawfulValues (command_read k) → HasLawfulValues (command_read is)
values_of k is e h = subst (λ c. HasLawfulValues (command_read c)) e h

answer_of : (k is : Command) (old new : HostState) (status : ℕ) → k ≡ is → CommandAnswers (command_read is) old new status → CommandAnswers (command_read k) old new status
answer_of k is old new status e h = subst (λ c. CommandAnswers (command_read c) old new status) (sym e) h

pub translate-requires : goal.translate-requires
translate-requires g c = values_of _ _ c.in-Translate.is c.requires

pub returns-in-Translate : goal.returns-in-Translate
returns-in-Translate g c =
    let e = c.translate.ensures in
    answer_of _ _ (g.H.Host.state c.args.host.now) (g.H.Host.state c.translate.new.host) c.translate.result c.in-Translate.is (record { gives = e.gives; completes = e.completes })

pub check-requires : goal.check-requires
check-requires g c = values_of _ _ c.in-Check.is c.requires

pub returns-in-Check : goal.returns-in-Check
returns-in-Check g c =
    let e = c.check.ensures in
    answer_of _ _ (g.H.Host.state c.args.host.now) (g.H.Host.state c.check.new.host) c.check.result c.in-Check.is (record { gives = e.gives; completes = e.completes; own = e.own; files = e.files })

pub flags-requires : goal.flags-requires
flags-requires g c = values_of _ _ c.in-Flags.is c.requires

pub returns-in-Flags : goal.returns-in-Flags
returns-in-Flags g c =
    let e = c.flags.ensures in
    answer_of _ _ (g.H.Host.state c.args.host.now) (g.H.Host.state c.flags.new.host) c.flags.result c.in-Flags.is (record { gives = e.gives; completes = e.completes; files = e.files })

pub run80-requires : goal.run80-requires
run80-requires g c = values_of _ _ c.in-Run80.is c.requires

pub returns-in-Run80 : goal.returns-in-Run80
returns-in-Run80 g c =
    let e = c.run80.ensures in
    answer_of _ _ (g.H.Host.state c.args.host.now) (g.H.Host.state c.run80.new.host) c.run80.result c.in-Run80.is (record { gives = e.gives; completes = e.completes; files = e.files })

pub returns-in-Run86 : goal.returns-in-Run86
returns-in-Run86 g c =
    let e = c.run86.ensures in
    answer_of _ _ (g.H.Host.state c.args.host.now) (g.H.Host.state c.run86.new.host) c.run86.result c.in-Run86.is (record { gives = e.gives; completes = e.completes; files = e.files })

pub both-requires : goal.both-requires
both-requires g c = values_of _ _ c.in-Both.is c.requires

pub returns-in-Both : goal.returns-in-Both
returns-in-Both g c =
    let e = c.both.ensures in
    answer_of _ _ (g.H.Host.state c.args.host.now) (g.H.Host.state c.both.new.host) c.both.result c.in-Both.is (record { gives = e.gives; completes = e.completes; files = e.files })

pub sample-requires : goal.sample-requires
sample-requires g c = values_of _ _ c.in-Sample.is c.requires

pub returns-in-Sample : goal.returns-in-Sample
returns-in-Sample g c =
    let e = c.sample.ensures in
    answer_of _ _ (g.H.Host.state c.args.host.now) (g.H.Host.state c.sample.new.host) c.sample.result c.in-Sample.is (record { gives = e.gives; completes = e.completes })

pub returns-in-Cmd : goal.returns-in-Cmd
returns-in-Cmd g c =
    let e = c.cmd.ensures in
    answer_of _ _ (g.H.Host.state c.args.host.now) (g.H.Host.state c.cmd.new.host) c.cmd.result c.in-Cmd.is (record { gives = e.gives; completes = e.completes; loads = e.loads })

pub returns-in-CmdShow : goal.returns-in-CmdShow
returns-in-CmdShow g c =
    let e = c.cmdshow.ensures in
    answer_of _ _ (g.H.Host.state c.args.host.now) (g.H.Host.state c.cmdshow.new.host) c.cmdshow.result c.in-CmdShow.is (record { gives = e.gives; completes = e.completes; files = e.files })

pub hex80-requires : goal.hex80-requires
hex80-requires g c = values_of _ _ c.in-Hex80.is c.requires

pub returns-in-Hex80 : goal.returns-in-Hex80
returns-in-Hex80 g c =
    let e = c.hex80.ensures in
    answer_of _ _ (g.H.Host.state c.args.host.now) (g.H.Host.state c.hex80.new.host) c.hex80.result c.in-Hex80.is (record { gives = e.gives; completes = e.completes; file = e.file })

pub runhex-requires : goal.runhex-requires
runhex-requires g c = values_of _ _ c.in-RunHex.is c.requires

pub returns-in-RunHex : goal.returns-in-RunHex
returns-in-RunHex g c =
    let e = c.runhex.ensures in
    answer_of _ _ (g.H.Host.state c.args.host.now) (g.H.Host.state c.runhex.new.host) c.runhex.result c.in-RunHex.is (record { gives = e.gives; completes = e.completes; files = e.files })

pub shrink-requires : goal.shrink-requires
shrink-requires g c = values_of _ _ c.in-Shrink.is c.requires

pub returns-in-Shrink : goal.returns-in-Shrink
returns-in-Shrink g c =
    let e = c.shrink.ensures in
    answer_of _ _ (g.H.Host.state c.args.host.now) (g.H.Host.state c.shrink.new.host) c.shrink.result c.in-Shrink.is (record { gives = e.gives; completes = e.completes; headline = e.headline })

pub leaves-requires : goal.leaves-requires
leaves-requires g c = values_of _ _ c.in-Leaves.is c.requires

pub returns-in-Leaves : goal.returns-in-Leaves
returns-in-Leaves g c =
    let e = c.leaves.ensures in
    answer_of _ _ (g.H.Host.state c.args.host.now) (g.H.Host.state c.leaves.new.host) c.leaves.result c.in-Leaves.is (record { gives = e.gives; completes = e.completes; files = e.files; left = e.left })

pub explain-requires : goal.explain-requires
explain-requires g c = values_of _ _ c.in-Explain.is c.requires

pub returns-in-Explain : goal.returns-in-Explain
returns-in-Explain g c =
    let e = c.explain.ensures in
    answer_of _ _ (g.H.Host.state c.args.host.now) (g.H.Host.state c.explain.new.host) c.explain.result c.in-Explain.is (record { gives = e.gives; completes = e.completes; files = e.files })
