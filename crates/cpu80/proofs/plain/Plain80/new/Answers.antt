use Rattle.std.proofs.lemmas.Result.{IfOk-from_err}
use Rattle.cpu80.proofs.plain.Plain80.new.Goals as goal

pub returns-in_err-memory : goal.returns-in_err-memory
returns-in_err-memory c =
    let r = c.from_residual in
    record {
      state = IfOk-from_err r.result _ r.ensures.0;
      idle = IfOk-from_err r.result _ r.ensures.0;
      machine = IfOk-from_err r.result _ r.ensures.0;
    }
