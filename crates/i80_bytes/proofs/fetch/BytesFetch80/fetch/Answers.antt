use Rattle.cpu80.specs.ProcessorState.{untagged_memory}
use Rattle.i80_bytes.proofs.Fetched.{fetched, none_fetched}
use Rattle.i80_bytes.proofs.fetch.BytesFetch80.fetch.Goals as goal

pub returns-in-Some-clause-value : goal.returns-in-Some-clause-value
returns-in-Some-clause-value c =
    fetched (untagged_memory c.args.processor.now.memory) c.args.at c.get.result c.get-2.result c.get-3.result c.in-Some.instr c.in-Some.field-0-1 c.get.ensures c.get-2.ensures c.get-3.ensures c.in-Some.ensures.decoded

pub returns-in-None-clause-value : goal.returns-in-None-clause-value
returns-in-None-clause-value c =
    none_fetched (untagged_memory c.args.processor.now.memory) c.args.at c.get.result c.get-2.result c.get-3.result c.get.type_inv c.get-2.type_inv c.get-3.type_inv c.get.ensures c.get-2.ensures c.get-3.ensures c.in-None.ensures.decoded
