-- How the text grows, part by part.
use Rattle.std.proofs.Common.{◌∙◌, ◌+◌, ◌*◌, ◌^◌, [], ◌∷◌, ◌++◌, length, ap, le_refl, lit<}
use Rattle.std.proofs.lemmas.Result.{on_ok_weaker, IfOk-from_err}
use Rattle.asm86_line_types.specs.declared.line.Stmt86.TheVariants.{Dseg}
use Rattle.templates.specs.Plain.{runtime, data_from, ending}
use Rattle.templates.proofs.Growing.{few, longer, more, below, room, end_parts}
use Rattle.templates.proofs.plain.put_end.Goals as goal

pub append-requires : goal.append-requires
append-requires c =
    let r = c.as_slice.result.now in
    room (length c.args.text.now) (length r) (8 + 13 * 65022) 12 (2 ^ 32) c.requires (few r c.runtime.result 12 c.as_slice.ensures.value c.as_slice.ensures.most) (lit< tt)

pub push-requires : goal.push-requires
push-requires c =
    let r = c.as_slice.result.now in
    let x1 = c.append.new.self in
    room (length x1) 1 (8 + 13 * 65022 + 12) 1 (2 ^ 32) (longer c.args.text.now x1 r (8 + 13 * 65022) 12 c.requires (few r c.runtime.result 12 c.as_slice.ensures.value c.as_slice.ensures.most) c.in_ok-append.ensures) (le_refl 1) (lit< tt)

pub put_data-requires : goal.put_data-requires
put_data-requires c =
    let r = c.as_slice.result.now in
    let x1 = c.append.new.self in
    let x2 = c.push.new.self in
    let b1 = longer c.args.text.now x1 r (8 + 13 * 65022) 12 c.requires (few r c.runtime.result 12 c.as_slice.ensures.value c.as_slice.ensures.most) c.in_ok-append.ensures in
    below (length x2) (8 + 13 * 65022 + 12 + 1) (2 ^ 20) (longer x1 x2 (Dseg ∷ []) (8 + 13 * 65022 + 12) 1 b1 (le_refl 1) c.in_ok-push.ensures) (lit< tt)

pub append-requires-2 : goal.append-requires-2
append-requires-2 c =
    let r = c.as_slice.result.now in
    let e = c.as_slice-2.result.now in
    let x1 = c.append.new.self in
    let x2 = c.push.new.self in
    let x3 = c.put_data.new.text in
    let b1 = longer c.args.text.now x1 r (8 + 13 * 65022) 12 c.requires (few r c.runtime.result 12 c.as_slice.ensures.value c.as_slice.ensures.most) c.in_ok-append.ensures in
    let b2 = longer x1 x2 (Dseg ∷ []) (8 + 13 * 65022 + 12) 1 b1 (le_refl 1) c.in_ok-push.ensures in
    room (length x3) (length e) (8 + 13 * 65022 + 12 + 1 + 2 * 65022) 12 (2 ^ 32) (more (length x3) (length x2) (8 + 13 * 65022 + 12 + 1) (2 * 65022) b2 c.in_ok-put_data.ensures.most)
    (few e c.ending.result 12 c.as_slice-2.ensures.value c.as_slice-2.ensures.most) (lit< tt)

pub returns : goal.returns
returns c =
    let p = c.args.program.now in
    let x0 = c.args.text.now in
    let x1 = c.append.new.self in
    let x2 = c.push.new.self in
    let x3 = c.put_data.new.text in
    let x4 = c.append-2.new.self in
    let r = c.as_slice.result.now in
    let e = c.as_slice-2.result.now in
    let b1 = longer x0 x1 r (8 + 13 * 65022) 12 c.requires (few r c.runtime.result 12 c.as_slice.ensures.value c.as_slice.ensures.most) c.in_ok-append.ensures in
    let b2 = longer x1 x2 (Dseg ∷ []) (8 + 13 * 65022 + 12) 1 b1 (le_refl 1) c.in_ok-push.ensures in
    let b3 = more (length x3) (length x2) (8 + 13 * 65022 + 12 + 1) (2 * 65022) b2 c.in_ok-put_data.ensures.most in
    record {
      value = on_ok_weaker c.append-2.result
          (λ put. end_parts x0 x1 x2 x3 x4 runtime (data_from 0 p.cells) (ending p.top)
          (c.in_ok-append.ensures ∙ ap (λ z. x0 ++ z) (c.as_slice.ensures.value ∙ c.runtime.ensures))
          c.in_ok-push.ensures
          c.in_ok-put_data.ensures.value
          (put ∙ ap (λ z. x3 ++ z) (c.as_slice-2.ensures.value ∙ c.ending.ensures ∙ ap ending c.top.ensures.value)))
          c.append-2.ensures;
      most = on_ok_weaker c.append-2.result
          (λ put. below (length x4) (8 + 13 * 65022 + 12 + 1 + 2 * 65022 + 12) (2 ^ 20) (longer x3 x4 e (8 + 13 * 65022 + 12 + 1 + 2 * 65022) 12 b3 (few e c.ending.result 12 c.as_slice-2.ensures.value c.as_slice-2.ensures.most) put) (lit< tt))
          c.append-2.ensures;
    }

pub returns-in_err-append : goal.returns-in_err-append
returns-in_err-append c =
    let r = c.from_residual in
    record {
      value = IfOk-from_err r.result _ r.ensures.0;
      most = IfOk-from_err r.result _ r.ensures.0;
    }

pub returns-in_err-push : goal.returns-in_err-push
returns-in_err-push c =
    let r = c.from_residual-in_err-push in
    record {
      value = IfOk-from_err r.result _ r.ensures.0;
      most = IfOk-from_err r.result _ r.ensures.0;
    }

pub returns-in_err-put_data : goal.returns-in_err-put_data
returns-in_err-put_data c =
    let r = c.from_residual-in_err-put_data in
    record {
      value = IfOk-from_err r.result _ r.ensures.0;
      most = IfOk-from_err r.result _ r.ensures.0;
    }
