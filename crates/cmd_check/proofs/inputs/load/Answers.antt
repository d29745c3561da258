use Rattle.std.proofs.Common.{◌<◌, ◌^◌, List, length, sym, subst}
use Rattle.std.specs.Prelude.{IfOk}
use Rattle.std.proofs.lemmas.Result.{IfOk-weaker, IfErr-weaker, IfOk-from_err}
use Rattle.host.proofs.HostLemmas.{OnlyReads-trans}
use Rattle.asm86_line_types.specs.declared.line.Line86.{Line86}
use Rattle.asm86_line_types.specs.Image.{IsImage}
use Rattle.cmd_arguments.specs.ReadCommands.{check_read}
use Rattle.cmd_common.specs.declared.names.InputFile.TheVariants.{Text}
use Rattle.cmd_common.specs.Files.{text_limit}
use Rattle.cmd_common.proofs.Told.{handed_on}
use Rattle.cmd_common.proofs.Before.{stops_before}
use Rattle.cmd_check.specs.Checks.{Reads, LoadStops, no_source, no_text}
use Rattle.cmd_check.proofs.Loading.{both_read, loads, load_stop}
use Rattle.cmd_check.proofs.inputs.load.Given.{Over}
use Rattle.cmd_check.proofs.inputs.load.Goals as goal
use Rattle.cmd_check.proofs.inputs.load.Goals.{After-loaded_of}

pub returns-in_err-source : goal.returns-in_err-source
returns-in_err-source g c =
    let command = check_read c.args.command.now in
    let old = g.H.Host.state c.args.host.now in
    let new = g.H.Host.state c.read_source.new.host in
    record {
      loaded = IfOk-from_err c.from_residual.result _ c.from_residual.ensures.0;
      image = IfOk-from_err c.from_residual.result _ c.from_residual.ensures.0;
      few = IfOk-from_err c.from_residual.result _ c.from_residual.ensures.0;
      stopped = handed_on c.from_residual.result c.in_err-source.field-0.0 (LoadStops command old new) c.from_residual.ensures.1
          (no_source c.in_err-source.ensures.only c.in_err-source.ensures.stopped);
    }

pub returns-in_err-text : goal.returns-in_err-text
returns-in_err-text g c =
    let command = check_read c.args.command.now in
    let old = g.H.Host.state c.args.host.now in
    let mid = g.H.Host.state c.read_source.new.host in
    let new = g.H.Host.state c.read_text.new.host in
    let first = c.in_ok-source.ensures in
    let stop = c.in_err-text.field-0.0 in
    record {
      loaded = IfOk-from_err c.from_residual-in_err-text.result _ c.from_residual-in_err-text.ensures.0;
      image = IfOk-from_err c.from_residual-in_err-text.result _ c.from_residual-in_err-text.ensures.0;
      few = IfOk-from_err c.from_residual-in_err-text.result _ c.from_residual-in_err-text.ensures.0;
      stopped = handed_on c.from_residual-in_err-text.result stop (LoadStops command old new) c.from_residual-in_err-text.ensures.1
          (no_text first.read.bytes first.read.file (OnlyReads-trans first.only c.in_err-text.ensures.only)
          (stops_before old mid new first.only first.counted Text command.text text_limit stop c.in_err-text.ensures.stopped));
    }

-- both files were read
reads : (g : Over) (c : After-loaded_of g) → Reads (check_read c.args.command.now) (g.H.Host.state c.args.host.now) (g.H.Host.state c.read_text.new.host) c.in_ok-source.ensures.read.bytes c.in_ok-text.ensures.read.bytes
reads g c =
    let first = c.in_ok-source.ensures in
    let second = c.in_ok-text.ensures in
    both_read (check_read c.args.command.now) (g.H.Host.state c.args.host.now) (g.H.Host.state c.read_source.new.host) (g.H.Host.state c.read_text.new.host) first.read.bytes second.read.bytes first.only first.counted first.read.file second.only second.counted second.read.file

pub returns : goal.returns
returns g c =
    let first = c.in_ok-source.ensures.read in
    let second = c.in_ok-text.ensures.read in
    record {
      loaded = IfOk-weaker c.loaded_of.result _ _
          (loads (check_read c.args.command.now) (g.H.Host.state c.args.host.now) (g.H.Host.state c.read_text.new.host) c.in_ok-source.source c.in_ok-text.text first.bytes second.bytes (reads g c) first.gives second.gives)
          c.loaded_of.ensures.loaded;
      image = IfOk-weaker c.loaded_of.result _ _ (λ l h. subst (λ (ls : List Line86). IsImage ls l.text.image) (sym h.same) h.image.made) c.loaded_of.ensures.loaded;
      few = IfOk-weaker c.loaded_of.result _ _
          (λ l h. subst (λ (ls : List Line86). length ls < 2 ^ 28) (sym h.same) (subst (λ t. IfOk t (λ lines. length lines.items < 2 ^ 28)) h.gives c.in_ok-text.ensures.few))
          c.loaded_of.ensures.loaded;
      stopped = IfErr-weaker c.loaded_of.result _ _
          (load_stop (check_read c.args.command.now) (g.H.Host.state c.args.host.now) (g.H.Host.state c.read_text.new.host) c.in_ok-source.source c.in_ok-text.text first.bytes second.bytes (reads g c) first.gives second.gives)
          c.loaded_of.ensures.stopped;
    }
