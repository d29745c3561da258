use Rattle.std.proofs.Common.{arith}
use Rattle.std.proofs.lemmas.Result.{IfOk-from_err}
use Rattle.flow.specs.Cut.{EndsInMemory}
use Rattle.templates.proofs.Joined.{put_one, all_behind, first_of}
use Rattle.templates.proofs.blocks.put_instrs.Goals as goal

pub loop-placed-preserved : goal.loop-placed-preserved
loop-placed-preserved c = record {
  so_far = λ n all. put_one n c.args.jumps.now c.loop-placed.text c.put_written.new.text _ c.loop-placed.first c.loop-placed.known c.is_pair-last.result c.knows_function-known.result c.in-Some.placed.now c.loop-placed.rest.now c.in-Some.after.now
      c.in-Some.ensures.cases.0 (c.is_pair-last.ensures n all) c.knows_function-known.ensures (c.in_ok-put_written.ensures.value n all) (c.loop-placed.invariant.so_far n all);
  whole = all_behind EndsInMemory c.in-Some.placed.now c.loop-placed.rest.now c.in-Some.after.now c.in-Some.ensures.cases.0 c.loop-placed.invariant.whole;
  most = let more = c.in_ok-put_written.ensures.most in let left = c.in-Some.ensures.cases.1 in let before = c.loop-placed.invariant.most in omega (arith, more, left, before);
}

pub is_pair-last-requires-clause-whole : goal.is_pair-last-requires-clause-whole
is_pair-last-requires-clause-whole c = first_of EndsInMemory c.in-Some.placed.now c.loop-placed.rest.now c.in-Some.after.now c.in-Some.ensures.cases.0 c.loop-placed.invariant.whole

pub is_pair-last-requires-clause-rest : goal.is_pair-last-requires-clause-rest
is_pair-last-requires-clause-rest c = all_behind EndsInMemory c.in-Some.placed.now c.loop-placed.rest.now c.in-Some.after.now c.in-Some.ensures.cases.0 c.loop-placed.invariant.whole

pub put_written-requires-clause-whole : goal.put_written-requires-clause-whole
put_written-requires-clause-whole c = first_of EndsInMemory c.in-Some.placed.now c.loop-placed.rest.now c.in-Some.after.now c.in-Some.ensures.cases.0 c.loop-placed.invariant.whole

pub knows_function-known-requires : goal.knows_function-known-requires
knows_function-known-requires c = (first_of EndsInMemory c.in-Some.placed.now c.loop-placed.rest.now c.in-Some.after.now c.in-Some.ensures.cases.0 c.loop-placed.invariant.whole).0

pub returns-in_err-put_written : goal.returns-in_err-put_written
returns-in_err-put_written c =
    let r = c.from_residual in
    record {
      value = λ n all. IfOk-from_err r.result _ r.ensures.0;
      most = IfOk-from_err r.result _ r.ensures.0;
    }
