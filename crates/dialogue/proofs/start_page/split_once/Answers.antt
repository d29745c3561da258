use Rattle.std.proofs.Common.{◌≡◌, ◌∙◌, ◌+◌, ◌-◌, ◌<◌, ℕ, List, length, drop, take, get_or, not, ap, length-drop, arith, rules, tests}
use Rattle.std.proofs.lemmas.List.{take_all}
use Rattle.std.proofs.lemmas.List.Sums.{prefix_len-drop_yes, prefix_len-drop_no}
use Rattle.std.specs.List.{position_or_len}
use Rattle.dialogue.specs.StartPage.{is}
use Rattle.dialogue.proofs.start_page.split_once.Goals as goal

-- the first place, where it is behind place k, and where it is k
behind : (sign k : ℕ) (text : List ℕ) → k < length text → (get_or text k 0 ≡ sign → ⊥) →
    k + position_or_len (is sign) (drop k text) ≡ position_or_len (is sign) text →
    (k + 1) + position_or_len (is sign) (drop (k + 1) text) ≡ position_or_len (is sign) text
behind sign k text within other so_far =
    omega (arith, prefix_len-drop_yes (λ b. not (is sign b)) text k 0 within (search (rules, tests)))

here : (sign k : ℕ) (text : List ℕ) → k < length text → get_or text k 0 ≡ sign →
    k + position_or_len (is sign) (drop k text) ≡ position_or_len (is sign) text → k ≡ position_or_len (is sign) text
here sign k text within same so_far =
    omega (arith, prefix_len-drop_no (λ b. not (is sign b)) text k 0 within (search (rules, tests)))

all_behind : (k : ℕ) (text : List ℕ) → take (length text - k) (drop k text) ≡ drop k text
all_behind k text = take_all _ (drop k text) (omega (arith, length-drop k text))

pub loop-k-preserved : goal.loop-k-preserved
loop-k-preserved c = behind c.args.sign c.loop-k.k c.args.text.now c.loop-k-test.true c.if-text-k.false c.loop-k.invariant

pub returns-then-text-k : goal.returns-then-text-k
returns-then-text-k c =
    let place = here c.args.sign c.loop-k.k c.args.text.now c.loop-k-test.true c.if-text-k.true c.loop-k.invariant in
    record {
      before = ap (λ k. take k c.args.text.now) place;
      after = all_behind (c.loop-k.k + 1) c.args.text.now ∙ ap (λ k. drop (k + 1) c.args.text.now) place;
    }
