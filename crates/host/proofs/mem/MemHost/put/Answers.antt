use Rattle.std.proofs.Common.{refl, arith}
use Rattle.std.proofs.lemmas.Map.Text.{text_keys}
use Rattle.std.proofs.lemmas.Result.{IfOk-from_err}
use Rattle.host.specs.MemHost.{KeepsFiles}
use Rattle.host.proofs.Counting.{any_err}
use Rattle.host.proofs.mem.MemHost.put.Goals as goal

pub returns-clause-ok : goal.returns-clause-ok
returns-clause-ok c = record {
  file = grind (arith, text_keys);
  others = λ other apart. grind (arith, text_keys);
}

-- want of memory for the name
pub returns-in_err-key : goal.returns-in_err-key
returns-in_err-key c =
    let r = c.from_residual in
    let host = c.args.self.now in
    record {
      ok = IfOk-from_err r.result _ r.ensures.0;
      err = any_err {P = KeepsFiles host host} r.result (λ name. refl);
      said = refl;
      counts = record { calls = refl; fails = refl; read_faults = refl; write_faults = refl; memory_faults = refl };
    }

-- want of memory for the bytes
pub returns-in_err-held : goal.returns-in_err-held
returns-in_err-held c =
    let r = c.from_residual-in_err-held in
    let host = c.args.self.now in
    record {
      ok = IfOk-from_err r.result _ r.ensures.0;
      err = any_err {P = KeepsFiles host host} r.result (λ name. refl);
      said = refl;
      counts = record { calls = refl; fails = refl; read_faults = refl; write_faults = refl; memory_faults = refl };
    }
