use Rattle.std.proofs.Common.{Some}
use Rattle.std.proofs.lemmas.Result.{IfOk-from_err}
use Rattle.cpu86.proofs.cpu.Cpu86.asked.Goals as goal

pub request_of-requires : goal.request_of-requires
request_of-requires c = record {
  function = Some c.args.self.now.processor.registers.cl;
  d = Some c.args.self.now.processor.registers.dh;
  e = Some c.args.self.now.processor.registers.dl;
  dma = c.args.self.now.processor.dma;
  given = c.args.self.now.asked c.in-Answer.shape c.in-Answer.is;
}

pub returns-in_err-request-in-Answer-clause-event : goal.returns-in_err-request-in-Answer-clause-event
returns-in_err-request-in-Answer-clause-event c = IfOk-from_err c.from_residual.result _ c.from_residual.ensures.0

pub returns-in_err-request-in-Answer-clause-said : goal.returns-in_err-request-in-Answer-clause-said
returns-in_err-request-in-Answer-clause-said c = IfOk-from_err c.from_residual.result _ c.from_residual.ensures.0

pub returns-in_err-request-in-Answer-clause-lawful : goal.returns-in_err-request-in-Answer-clause-lawful
returns-in_err-request-in-Answer-clause-lawful c = IfOk-from_err c.from_residual.result _ c.from_residual.ensures.0
