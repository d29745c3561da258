use Rattle.std.proofs.Common.{◌≡◌, ◌+◌, ◌-◌, ◌*◌, length, take, drop, sym, ap, ◌∙◌, subst, arith}
use Rattle.std.specs.List.{All}
use Rattle.std.proofs.lemmas.List.{length_push, length-take-le, length-drop}
use Rattle.std.proofs.lemmas.List.Elements.{All-push}
use Rattle.std.proofs.lemmas.Result.{IfOk-from_err}
use Rattle.bdos_small.proofs.Languages.{records_more}
use Rattle.bdos_small.proofs.reading.read_records.Goals as goal

pub returns-in_err-push : goal.returns-in_err-push
returns-in_err-push c =
    let r = c.from_residual in
    record {
      bytes = IfOk-from_err r.result _ r.ensures.0;
      count = IfOk-from_err r.result _ r.ensures.0;
      records = IfOk-from_err r.result _ r.ensures.0;
    }

pub loop-k-preserved : goal.loop-k-preserved
loop-k-preserved c =
    let bytes = c.args.bytes.now in
    let k = c.loop-k.k in
    let r = c.of.result in
    let items = c.in_ok-push.ensures.items in
    let size : k * 128 + 128 - k * 128 ≡ 128 = omega arith in
    let is : r ≡ take 128 (drop (k * 128) bytes) = c.of.ensures ∙ ap (λ n. take n (drop (k * 128) bytes)) size in
    let long : length r ≡ 128 = ap length is ∙ length-take-le 128 (drop (k * 128) bytes) (omega (arith, length-drop (k * 128) bytes, c.requires.whole, c.loop-k-test.true)) in
    record {
      bytes_are = records_more c.loop-k.records.items c.push.new.self.items r bytes k c.loop-k.invariant.bytes_are items is;
      count_is = ap length items ∙ length_push c.loop-k.records.items r ∙ ap (λ n. n + 1) c.loop-k.invariant.count_is;
      whole = subst (All (λ r. length r ≡ 128)) (sym items) (All-push (λ r. length r ≡ 128) c.loop-k.records.items r c.loop-k.invariant.whole long);
    }
