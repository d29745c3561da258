use Rattle.std.proofs.lemmas.Result.{IfOk-from_err}
use Rattle.cpu86.proofs.cpu.Cpu86.new.Goals as goal

pub returns-in_err-code : goal.returns-in_err-code
returns-in_err-code c =
    let r = c.from_residual in
    record {
      state = IfOk-from_err r.result _ r.ensures.0;
      idle = IfOk-from_err r.result _ r.ensures.0;
      code = IfOk-from_err r.result _ r.ensures.0;
    }

pub returns-in_err-memory : goal.returns-in_err-memory
returns-in_err-memory c =
    let r = c.from_residual-in_err-memory in
    record {
      state = IfOk-from_err r.result _ r.ensures.0;
      idle = IfOk-from_err r.result _ r.ensures.0;
      code = IfOk-from_err r.result _ r.ensures.0;
    }
