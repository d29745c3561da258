-- The next call is added, and the last one ends the loop.
use Rattle.std.proofs.Common.{ℕ, List, ◌≡◌, ◌-◌, ◌+◌, ap, ◌∙◌, arith}
use Rattle.std.specs.Prelude.{map}
use Rattle.std.specs.String.{string_bytes}
use Rattle.cmd_sample.specs.Written.{text_of_source}
use Rattle.cmd_sample.specs.Sample.{call, up_to}
use Rattle.cmd_sample.proofs.Texts.{joined, one_call_more}
use Rattle.cmd_sample.proofs.all_calls.Goals as goal
use Rattle.cmd_sample.proofs.all_calls.Goals.{else-loop-number-test, then-loop-number-test+in_ok-call+in_ok-push_str+else-number-routines}

pub loop-number-preserved : goal.loop-number-preserved
loop-number-preserved c =
    let i = c.loop-number.invariant in
    (omega arith, omega arith, joined _ _ _ _ _ c.in_ok-push_str.ensures.bytes i.2 (c.as_str.ensures.value ∙ c.in_ok-call.ensures) (one_call_more c.loop-number.number i.0))

pub returns : goal.returns
returns c =
    let i = c.loop-number.invariant in
    let text : ℕ → List ℕ = λ n. text_of_source (map call (up_to n)) in
    elim c.loop-number-test.branch [
      | else-loop-number-test w ↦
          let all : c.loop-number.number - 1 ≡ c.args.routines = omega arith in
          ap (λ s. string_bytes s) w.text-is ∙ i.2 ∙ ap text all
      | then-loop-number-test+in_ok-call+in_ok-push_str+else-number-routines w ↦
          let all : c.loop-number.number + 1 - 1 ≡ c.args.routines = omega arith in
          ap (λ s. string_bytes s) w.text-is ∙ joined _ _ _ _ _ w.in_ok-push_str.ensures.bytes i.2 (w.as_str.ensures.value ∙ w.in_ok-call.ensures) (one_call_more c.loop-number.number i.0) ∙ ap text all
    ]
