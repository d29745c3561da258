-- From blocks of up to sixteen turns of the first machine to whole runs of both.
use Rattle.std.proofs.Common.{◌≡◌, ℕ, zero, suc, ◌+◌, ◌-◌, ◌≤◌, ◌<◌, ◌*◌, List, [], sym, ap, ◌∙◌, subst, arith, ⊎_elim}
use Rattle.std.proofs.lemmas.Bool.{cases_lt}
use Rattle.dialogue.specs.Run.{Machine, Run, turns, IsNotStopped, IsFrontOf}
use Rattle.dialogue.specs.Same.{SameDialogue}
use Rattle.dialogue.proofs.Turns.{turns_add, not_stopped_below, grows_between}

-- Runs that are paired have the same dialogue, and the second of them has not stopped.
module _ {S X S' X' : Type 0} (m : Machine S X) (m' : Machine S' X') (cs : List ℕ) (Pair : Run S X → Run S' X' → Type 0) (same : (x : Run S X) (y : Run S' X') → Pair x y → x.dialogue ≡ y.dialogue) (going : (x : Run S X) (y : Run S' X') → Pair x y → IsNotStopped y.status) where
  -- a block: k turns of the first machine, of which the last alone may say something, and j of the second
  pub record Block (x : Run S X) (y : Run S' X') : Type 0 where
    pub k : ℕ
    pub j : ℕ
    pub some : 1 ≤ k
    pub few : k ≤ 16
    pub some' : 1 ≤ j
    pub few' : j ≤ 16 * k
    pub quiet : (i : ℕ) → i < k → (turns m [] i x).dialogue ≡ x.dialogue
    pub paired : IsNotStopped (turns m [] k x).status → Pair (turns m [] k x) (turns m' cs j y)

  pub record At (n : ℕ) (x : Run S X) (y : Run S' X') : Type 0 where
    pub n0 : ℕ
    pub m0 : ℕ
    pub low : n0 ≤ n
    pub high : n < n0 + 16
    pub slow : n0 ≤ 16 * m0
    pub fast : m0 ≤ 16 * n0
    pub paired : Pair (turns m [] n0 x) (turns m' cs m0 y)
    pub said : (turns m [] n x).dialogue ≡ (turns m [] n0 x).dialogue

  module _ (block : (x : Run S X) (y : Run S' X') → Pair x y → Block x y) where
    pub blocks_follow : (fuel n : ℕ) (x : Run S X) (y : Run S' X') → n ≤ fuel → Pair x y → IsNotStopped (turns m [] n x).status → At n x y
    blocks_follow zero n x y le p h =
        let z : 0 ≡ n = omega arith in
        record { n0 = 0; m0 = 0; low = omega arith; high = omega arith; slow = omega arith; fast = omega arith; paired = p; said = ap (λ i. (turns m [] i x).dialogue) (sym z) }
    blocks_follow (suc fuel) n x y le p h = by_size (block x y p) (blocks_follow fuel)
      where
        by_size : Block x y → ((n : ℕ) (x : Run S X) (y : Run S' X') → n ≤ fuel → Pair x y → IsNotStopped (turns m [] n x).status → At n x y) → At n x y
        by_size b rec =
            ⊎_elim
            (λ lt. record { n0 = 0; m0 = 0; low = omega arith; high = omega (arith, lt, b.few); slow = omega arith; fast = omega arith; paired = p; said = b.quiet n lt })
            (λ ge.
            let some = b.some in
            let e : b.k + (n - b.k) ≡ n = omega (arith, ge) in
            let t : turns m [] n x ≡ turns m [] (n - b.k) (turns m [] b.k x) = sym (ap (λ i. turns m [] i x) e) ∙ turns_add m [] b.k (n - b.k) x in
            let q = b.paired (not_stopped_below m [] b.k n x ge h) in
            let a = rec (n - b.k) (turns m [] b.k x) (turns m' cs b.j y) (omega arith) q (subst (λ r. IsNotStopped r.status) t h) in
            record {
              n0 = b.k + a.n0;
              m0 = b.j + a.m0;
              low = omega (arith, a.low, ge);
              high = omega (arith, a.high);
              slow = omega (arith, a.slow, b.few, b.some');
              fast = omega (arith, a.fast, b.few');
              paired = subst (λ r. Pair r (turns m' cs (b.j + a.m0) y)) (sym (turns_add m [] b.k a.n0 x)) (subst (λ r. Pair (turns m [] a.n0 (turns m [] b.k x)) r) (sym (turns_add m' cs b.j a.m0 y)) a.paired);
              said = ap (λ r. r.dialogue) t ∙ a.said ∙ ap (λ r. r.dialogue) (sym (turns_add m [] b.k a.n0 x));
            })
            (cases_lt n b.k)

    pub blocks_same : (x : Run S X) (y : Run S' X') (j : ℕ) → j ≤ 16 → Pair x (turns m' cs j y) → SameDialogue S X S' X' (λ n. turns m [] n x) (λ k. turns m' cs k y)
    blocks_same x y j le p = record {
      follows = λ n k h lt.
          let a = at n h in
          subst (λ d. IsFrontOf d (turns m' cs k y).dialogue) (sym (is a)) (grows_between m' cs (j + a.m0) k y (omega (arith, a.fast, a.low, lt)));
      leads = λ n k h lt.
          let a = at n h in
          subst (λ d. IsFrontOf (turns m' cs k y).dialogue d) (sym (is a)) (grows_between m' cs k (j + a.m0) y (omega (arith, a.slow, a.high, lt)));
      goes_on = λ n k h lt.
          let a = at n h in
          not_stopped_below m' cs k (j + a.m0) y (omega (arith, a.slow, a.high, lt)) (subst (λ r. IsNotStopped r.status) (sym (turns_add m' cs j a.m0 y)) (going _ _ a.paired));
    }
      where
        at : (n : ℕ) → IsNotStopped (turns m [] n x).status → At n x (turns m' cs j y)
        at n h = blocks_follow n n x (turns m' cs j y) (omega arith) p h

        is : {n : ℕ} → (a : At n x (turns m' cs j y)) → (turns m [] n x).dialogue ≡ (turns m' cs (j + a.m0) y).dialogue
        is a = a.said ∙ same _ _ a.paired ∙ ap (λ r. r.dialogue) (sym (turns_add m' cs j a.m0 y))
