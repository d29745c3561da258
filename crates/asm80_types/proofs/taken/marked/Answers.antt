use Rattle.std.proofs.Common.{◌≡◌, ℕ, ◌+◌, ◌<◌, List, [], ◌∷◌, ◌++◌, length, get_or, take, filter, Bool, true, false, cond, sym, ap, ◌∙◌}
use Rattle.std.proofs.lemmas.List.{take_more, append-nil}
use Rattle.std.proofs.lemmas.List.Elements.{filter-append}
use Rattle.base.specs.Addresses.{has_address}
use Rattle.asm80_types.proofs.taken.marked.Goals.{then-contains+in_ok-push, else-contains}
use Rattle.asm80_types.proofs.taken.marked.Goals as goal

-- the filtered front with one element more
one_more : (test : ℕ → Bool) (xs before : List ℕ) (i : ℕ) (b : Bool) → i < length xs → before ≡ filter test (take i xs) → test (get_or xs i 0) ≡ b → before ++ cond b (get_or xs i 0 ∷ []) [] ≡ filter test (take (i + 1) xs)
one_more test xs before i b lt e is =
    ap (λ (front : List ℕ). front ++ cond b (get_or xs i 0 ∷ []) []) e ∙ ap (λ (c : Bool). filter test (take i xs) ++ cond c (get_or xs i 0 ∷ []) []) (sym is)
    ∙ sym (ap (filter test) (take_more xs i 0 lt) ∙ filter-append test (take i xs) (get_or xs i 0 ∷ []))

pub loop-address-preserved : goal.loop-address-preserved
loop-address-preserved c =
    let step = one_more (has_address c.args.set.now) c.args.addresses.now c.loop-address.marked.items c.loop-address.address-index in
    elim c.if-contains.branch [
      | then-contains+in_ok-push w ↦ rw w.marked-is (w.in_ok-push.ensures.items ∙ step true c.loop-address-test.true c.loop-address.invariant (sym c.contains.ensures ∙ w.if-contains.true))
      | else-contains w ↦ rw w.marked-is (sym (append-nil _) ∙ step false c.loop-address-test.true c.loop-address.invariant (sym c.contains.ensures ∙ w.if-contains.false))
    ]
