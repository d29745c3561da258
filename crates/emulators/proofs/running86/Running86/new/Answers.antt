use Rattle.std.proofs.Common.{subst}
use Rattle.i86.specs.Decode.{IsOnlyReader}
use Rattle.i86.specs.Decoder.{decoded}
use Rattle.emulators.proofs.running86.Running86.new.Goals as goal

pub returns-in_err-cpu-clause-reader : goal.returns-in_err-cpu-clause-reader
returns-in_err-cpu-clause-reader c = subst (λ l. IsOnlyReader l (decoded l)) c.code.ensures.value c.decoded_is_only_reader.ensures

pub returns-clause-reader : goal.returns-clause-reader
returns-clause-reader c = subst (λ l. IsOnlyReader l (decoded l)) c.code.ensures.value c.decoded_is_only_reader.ensures
