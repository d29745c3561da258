use Rattle.std.proofs.Common.{◌≤◌, ◌∙◌, ◌++◌, length, sym, ap, subst, arith}
use Rattle.std.proofs.lemmas.Result.{IfOk-from_err}
use Rattle.i80.specs.declared.Instr80.TheVariants.{Nop}
use Rattle.templates.specs.Plain.{body}
use Rattle.templates.proofs.Growing.{next_fits, marked, thirteen, body_more, body_longer, body_whole, body_most}
use Rattle.templates.proofs.plain.put_body.Goals as goal

pub push-requires : goal.push-requires
push-requires c = next_fits (length c.args.text.now) (length c.loop-placed.text) c.loop-placed.placed-index _ 1 c.requires c.loop-placed.invariant.most c.loop-placed-test.true c.instrs-instrs.ensures.few (omega arith)

pub template-requires : goal.template-requires
template-requires c = (c.instrs-instrs.ensures.laid c.loop-placed.placed-index (record { at = 0; line = 0; instr = Nop }) c.loop-placed-test.true).good

pub append-requires : goal.append-requires
append-requires c =
    let whole = c.as_slice.ensures in
    let few : length c.as_slice.result.now ≤ 12 = subst (λ xs. length xs ≤ 12) (sym whole.value) whole.most in
    marked c.loop-placed.text c.push.new.self _ _ c.in_ok-push.ensures
    (next_fits (length c.args.text.now) (length c.loop-placed.text) c.loop-placed.placed-index _ _ c.requires c.loop-placed.invariant.most c.loop-placed-test.true c.instrs-instrs.ensures.few (thirteen _ few))

pub loop-placed-preserved : goal.loop-placed-preserved
loop-placed-preserved c =
    let whole = c.as_slice.ensures in
    let so_far = c.loop-placed.invariant in
    record {
      so_far = body_more c.loop-placed.text c.push.new.self c.append.new.self c.as_slice.result.now _ c.instrs-instrs.result.now c.loop-placed.placed-index (record { at = 0; line = 0; instr = Nop }) c.loop-placed-test.true c.in_ok-push.ensures c.in_ok-append.ensures (whole.value ∙ c.template.ensures) so_far.so_far;
      most = body_longer (length c.args.text.now) c.loop-placed.placed-index c.loop-placed.text c.push.new.self c.append.new.self c.as_slice.result.now _ so_far.most c.in_ok-push.ensures c.in_ok-append.ensures (subst (λ xs. length xs ≤ 12) (sym whole.value) whole.most);
    }

pub returns : goal.returns
returns c =
    let so_far = c.loop-placed.invariant in
    record {
      value = body_whole c.loop-placed.text _ c.instrs-instrs.result.now c.loop-placed.placed-index c.loop-placed-test.false so_far.so_far ∙ ap (λ xs. c.args.text.now ++ body xs) c.instrs-instrs.ensures.value;
      most = body_most (length c.args.text.now) (length c.loop-placed.text) c.loop-placed.placed-index _ so_far.most c.loop-placed.auto.placed-index-end c.instrs-instrs.ensures.few;
    }

pub returns-in_err-push : goal.returns-in_err-push
returns-in_err-push c =
    let r = c.from_residual in
    record {
      value = IfOk-from_err r.result _ r.ensures.0;
      most = IfOk-from_err r.result _ r.ensures.0;
    }

pub returns-in_err-append : goal.returns-in_err-append
returns-in_err-append c =
    let r = c.from_residual-in_err-append in
    record {
      value = IfOk-from_err r.result _ r.ensures.0;
      most = IfOk-from_err r.result _ r.ensures.0;
    }
