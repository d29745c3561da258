use Rattle.std.proofs.Common.{◌+◌, sym, ap, ◌∙◌}
use Rattle.std.proofs.lemmas.Result.{IfOk-weaker, on_err_weaker}
use Rattle.dialogue.specs.Shape.{argument_address}
use Rattle.dialogue.specs.Lawful.{first_byte}
use Rattle.bdos_small.specs.Console.{console_status, told, taking_none}
use Rattle.bdos_small.proofs.ConsoleReplies.{byte_fits, direct_fits, status_fits, version_fits, by_function, byte_takes, direct_takes, line_takes, told_takes, selected_fits, selected_takes}
use Rattle.bdos_small.proofs.console.Console.answer.Goals as goal

pub returns-in-1 : goal.returns-in-1
returns-in-1 c =
    let q = c.args.request.now in
    let input = c.args.self.now in
    let byte = c.read_byte.ensures in
    record {
      answer = byte.answer ∙ sym (by_function input q 1 c.in-1.is);
      fits = byte_fits q c.read_byte.result c.in-1.is byte.byte;
      takes = byte_takes c.read_byte.result input c.read_byte.new.self byte.answer;
      memory = tt;
      wanted = tt;
    }

pub returns-in-6 : goal.returns-in-6
returns-in-6 c =
    let q = c.args.request.now in
    let input = c.args.self.now in
    let direct = c.direct_console.ensures in
    record {
      answer = direct.answer ∙ sym (by_function input q 6 c.in-6.is);
      fits = direct_fits q c.direct_console.result c.in-6.is direct.direct;
      takes = direct_takes q.shape.arg c.direct_console.result input c.direct_console.new.self direct.direct;
      memory = tt;
      wanted = tt;
    }

pub returns-in-10 : goal.returns-in-10
returns-in-10 c =
    let q = c.args.request.now in
    let input = c.args.self.now in
    let line = c.read_line.ensures in
    record {
      answer = IfOk-weaker c.read_line.result _ _ (λ a e. e ∙ sym (by_function input q 10 c.in-10.is)) line.answer;
      fits = line.fits;
      takes = IfOk-weaker c.read_line.result _ _ (λ a e. line_takes (argument_address q.shape.arg + 1) (first_byte q.blocks) a input c.read_line.new.self e) line.answer;
      memory = line.memory;
      wanted = on_err_weaker c.read_line.result (λ some. (c.in-10.is, some)) line.wanted;
    }

pub returns-in-11 : goal.returns-in-11
returns-in-11 c =
    let q = c.args.request.now in
    let input = c.args.self.now in
    let is = c.told.ensures ∙ ap told c.status.ensures in
    record {
      answer = ap (λ a. taking_none a input) is ∙ sym (by_function input q 11 c.in-11.is);
      fits = status_fits q input c.told.result c.in-11.is is;
      takes = told_takes c.told.result (console_status input) input is;
      memory = tt;
      wanted = tt;
    }

pub returns-in-12 : goal.returns-in-12
returns-in-12 c =
    let q = c.args.request.now in
    let input = c.args.self.now in
    let is = c.told-in-12.ensures in
    record {
      answer = ap (λ a. taking_none a input) is ∙ sym (by_function input q 12 c.in-12.is);
      fits = version_fits q c.told-in-12.result c.in-12.is is;
      takes = told_takes c.told-in-12.result 0x22 input is;
      memory = tt;
      wanted = tt;
    }

pub returns-in-14 : goal.returns-in-14
returns-in-14 c =
    let q = c.args.request.now in
    let input = c.args.self.now in
    let is = c.select_disk.ensures in
    record {
      answer = ap (λ a. taking_none a input) is ∙ sym (by_function input q 14 c.in-14.is);
      fits = selected_fits q q.shape.arg c.select_disk.result c.in-14.is is;
      takes = selected_takes q.shape.arg c.select_disk.result input is;
      memory = tt;
      wanted = tt;
    }
