use Rattle.std.proofs.Common.{ℕ, ◌∙◌, ◌≡◌, sym, ap, ◌<◌, length, take, refl, arith}
use Rattle.std.specs.Prelude.{map}
use Rattle.std.proofs.lemmas.List.{take_all, take_more_set, map_more, length-replicate, length-set}
use Rattle.std.specs.Char.{to_ascii_uppercase}
use Rattle.dialogue.proofs.start_page.in_upper_case.Goals as goal

pub loop-k-init : goal.loop-k-init
loop-k-init c = record {
  size = ap length c.zeros-text.ensures ∙ length-replicate {A = ℕ} 126 0;
  upper = refl;
}

pub loop-k-preserved : goal.loop-k-preserved
loop-k-preserved c =
    let size : length c.loop-k.text ≡ 126 = c.loop-k.invariant.size in
    let within : c.loop-k.k < length c.loop-k.text = omega arith in
    let write = take_more_set c.loop-k.text c.loop-k.k c.to_ascii_uppercase.result within in
    let read = map_more to_ascii_uppercase c.args.tail.now c.loop-k.k 0 c.loop-k-test.true in
    let byte = c.to_ascii_uppercase.ensures.value in
    let upper = c.loop-k.invariant.upper in
    record {
      size = length-set c.loop-k.text c.loop-k.k c.to_ascii_uppercase.result ∙ size;
      upper = cc;
    }

pub returns : goal.returns
returns c =
    let end : c.loop-k.k ≡ length c.args.tail.now = omega arith in
    ap (λ n. take n c.loop-k.text) (sym end)
    ∙ c.loop-k.invariant.upper
    ∙ ap (map to_ascii_uppercase) (take_all c.loop-k.k c.args.tail.now c.loop-k-test.false)
