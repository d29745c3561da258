use Rattle.std.proofs.Common.{ap, ◌∙◌}
use Rattle.std.specs.Result.{result_ok}
use Rattle.cpu80.specs.ProcessorState.{untagged_state}
use Rattle.cpu80.proofs.Asking.{shape_is}
use Rattle.cpu80.proofs.processor.Processor.shape.Goals as goal

pub returns : goal.returns
returns c = shape_is (untagged_state c.args.self.now) _ (c.ok.ensures.value ∙ ap result_ok c.shape_of.ensures)
