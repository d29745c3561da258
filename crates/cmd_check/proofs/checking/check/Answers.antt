use Rattle.std.proofs.Common.{ℕ, List, length, ◌<◌, ◌∙◌, sym, subst}
use Rattle.std.specs.String.{string_bytes}
use Rattle.cmd_arguments.specs.ReadCommands.{check_read}
use Rattle.cmd_common.specs.Names.{two_names}
use Rattle.cmd_common.specs.Said.{IsDone, Closes}
use Rattle.cmd_common.proofs.Said.{named, closes_files}
use Rattle.cmd_common.proofs.Told.{done_files}
use Rattle.cmd_check.specs.Checks.{shown, stopped, CheckGives}
use Rattle.cmd_check.specs.Completes.{CheckCompletes}
use Rattle.cmd_check.proofs.Completing.{completes}
use Rattle.cmd_check.proofs.Loading.{line_some, stop_reads}
use Rattle.cmd_check.proofs.OwnTexts.{shows_own_text}
use Rattle.cmd_check.proofs.checking.check.Goals as goal

pub say_done-requires : goal.say_done-requires
say_done-requires g c =
    let h = c.in-Ok.ensures.worked in
    subst (λ (l : List ℕ). 0 < length l) (sym (c.as_str.ensures.value ∙ h.is)) (line_some h.blocks)

pub returns-in-Ok : goal.returns-in-Ok
returns-in-Ok g c =
    let command = check_read c.args.command.now in
    let old = g.H.Host.state c.args.host.now in
    let mid = g.H.Host.state c.work.new.host in
    let new = g.H.Host.state c.say_done.new.host in
    let status = c.say_done.result in
    let h = c.in-Ok.ensures.worked in
    let law = c.checks_have_one_outcome.ensures in
    let given : CheckGives command old new status = shown mid (string_bytes c.in-Ok.line) h (subst (λ l. IsDone l mid new status) c.as_str.ensures.value c.say_done.ensures) in
    let comes : CheckCompletes command old new status = completes law command old new status given in
    record {
      gives = given;
      files = λ name. done_files c.as_str.result.now mid new status c.say_done.ensures name ∙ h.loads.reads.only.files name;
      completes = comes;
      own = shows_own_text law
          (record {
            reads = c.own_texts_are_same.ensures.reads_back;
            assembles = c.own_texts_are_same.ensures.assembles;
            shown = λ mode p lines others f is text fits same h. (_, c.own_texts_are_shown.ensures.shown mode p lines others f is text fits same h);
            output_reads = c.commented_texts_read_back.ensures.reads;
            output_image = c.commented_texts_read_back.ensures.image;
          })
          command old new status comes;
    }

pub returns-in-Err : goal.returns-in-Err
returns-in-Err g c =
    let command = check_read c.args.command.now in
    let names = two_names c.args.command.now.source.now c.args.command.now.text.now in
    let old = g.H.Host.state c.args.host.now in
    let mid = g.H.Host.state c.work.new.host in
    let new = g.H.Host.state c.say_stop.new.host in
    let status = c.say_stop.result in
    let stop = c.in-Err.stop in
    let law = c.checks_have_one_outcome.ensures in
    let closes : Closes names stop mid new status = named c.two.ensures c.say_stop.ensures in
    let given : CheckGives command old new status = stopped mid stop c.in-Err.ensures.stopped closes in
    let comes : CheckCompletes command old new status = completes law command old new status given in
    record {
      gives = given;
      files = λ name. closes_files names stop mid new status closes name ∙ (stop_reads command old mid stop c.in-Err.ensures.stopped).files name;
      completes = comes;
      own = shows_own_text law
          (record {
            reads = c.own_texts_are_same.ensures.reads_back;
            assembles = c.own_texts_are_same.ensures.assembles;
            shown = λ mode p lines others f is text fits same h. (_, c.own_texts_are_shown.ensures.shown mode p lines others f is text fits same h);
            output_reads = c.commented_texts_read_back.ensures.reads;
            output_image = c.commented_texts_read_back.ensures.image;
          })
          command old new status comes;
    }
