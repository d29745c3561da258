-- Bytes that spell a value in two parts, one after the other.
use Rattle.std.proofs.Common.{◌≡◌, ℕ, suc, ◌+◌, ◌≤◌, List, [], ◌∷◌, ◌++◌, length, take, drop, refl, sym, ap, ◌∙◌, inl, inr, subst, arith, append_assoc}
use Rattle.std.proofs.lemmas.Bool.{cases_lt}
use Rattle.std.proofs.lemmas.List.{length-append, length-take-le, take-append-drop, take-append-le, take_at, drop_at}
use Rattle.bdos_small.specs.Spelled.{BreaksAt}

-- two ways to part a list
pub same_front : (p q u v : List ℕ) → p ++ u ≡ q ++ v → length p ≡ length q → (p ≡ q) × (u ≡ v)
same_front p q u v e n = (
  sym (take_at p u (length q) n) ∙ ap (take (length q)) e ∙ take_at q v (length q) refl,
  sym (drop_at p u (length q) n) ∙ ap (drop (length q)) e ∙ drop_at q v (length q) refl,
)

front_of : (p q u v : List ℕ) → p ++ u ≡ q ++ v → length q ≤ length p → p ≡ q ++ drop (length q) p
front_of p q u v e le =
    let start : take (length q) p ≡ q = sym (take-append-le (length q) p u le) ∙ ap (take (length q)) e ∙ take_at q v (length q) refl in
    sym (take-append-drop (length q) p) ∙ ap (λ l. l ++ drop (length q) p) start

-- the first bytes of a whole
take_past : (p u : List ℕ) (k : ℕ) → take (length p + k) (p ++ u) ≡ p ++ take k u
take_past [] u k = ap (λ n. take n u) zero-add'
  where
    zero-add' : 0 + k ≡ k
    zero-add' = omega arith
take_past (x ∷ p) u k =
    let one : suc (length p) + k ≡ suc (length p + k) = omega arith in
    ap (λ n. take n (x ∷ (p ++ u))) one ∙ ap (λ l. x ∷ l) (take_past p u k)

-- a value V is spelled by a part A and then, by what A is, a part B
module _ {A B V : Type 0} (IsA : A → Type 0) (spell_a : A → List ℕ) (IsB : A → B → Type 0) (spell_b : B → List ℕ) (Is : V → Type 0) (spell : V → List ℕ)
    (parts : (v : V) → Is v → (a : A) × (b : B) × IsA a × IsB a b × (spell v ≡ spell_a a ++ spell_b b))
    (join : (a : A) (b : B) → IsA a → IsB a b → (v : V) × Is v × (spell v ≡ spell_a a ++ spell_b b)) where
  -- it breaks where its first part does, if each first part can go on
  pub first_breaks : ((a : A) → IsA a → (b : B) × IsB a b) → (bytes : List ℕ) (k : ℕ) → BreaksAt IsA spell_a bytes k → BreaksAt Is spell bytes k
  first_breaks some bytes k h = record {
    within = h.within;
    so_far =
        let f = h.so_far in
        let b = some f.0 f.1 in
        let v = join f.0 b.0 f.1 b.1 in
        (v.0, v.1, (f.2.0 ++ spell_b b.0, v.2 ∙ ap (λ l. l ++ spell_b b.0) f.2.1 ∙ append_assoc (take k bytes) f.2.0 (spell_b b.0)));
    none = λ v is begins.
        let p = parts v is in
        h.none p.0 p.2 (spell_b p.1 ++ begins.0, begins.1 ∙ ap (λ l. l ++ begins.0) p.4 ∙ append_assoc (spell_a p.0) (spell_b p.1) begins.0);
    no_further = λ lt v is begins.
        let p = parts v is in
        let front = take (k + 1) bytes in
        let size : length front ≡ k + 1 = length-take-le (k + 1) bytes (omega (arith, lt)) in
        let same : spell_a p.0 ++ spell_b p.1 ≡ front ++ begins.0 = sym p.4 ∙ begins.1 in
        elim (cases_lt (length (spell_a p.0)) (length front)) [
          | inl shorter ↦
              let whole : front ≡ spell_a p.0 ++ drop (length (spell_a p.0)) front = front_of front (spell_a p.0) begins.0 (spell_b p.1) (sym same) (omega (arith, shorter)) in
              h.none p.0 p.2 (drop (length (spell_a p.0)) front ++ drop (k + 1) bytes, sym (take-append-drop (k + 1) bytes) ∙ ap (λ l. l ++ drop (k + 1) bytes) whole ∙ append_assoc (spell_a p.0) (drop (length (spell_a p.0)) front) (drop (k + 1) bytes))
          | inr longer ↦ h.no_further lt p.0 p.2 (drop (length front) (spell_a p.0), front_of (spell_a p.0) front (spell_b p.1) begins.0 same longer)
        ];
  }

  -- behind a first part it breaks where its second part does, if first parts are told by their bytes
  pub second_breaks : (a : A) → IsA a → ((c : A) → IsA c → (length (spell_a c) ≡ length (spell_a a)) × (spell_a c ≡ spell_a a → c ≡ a)) → (bytes rest : List ℕ) → bytes ≡ spell_a a ++ rest → (k : ℕ) → BreaksAt (IsB a) spell_b rest k → BreaksAt Is spell bytes (length (spell_a a) + k)
  second_breaks a is_a only bytes rest e k h =
      let n = length (spell_a a) in
      let long : length bytes ≡ n + length rest = ap length e ∙ length-append (spell_a a) rest in
      let seen : (j : ℕ) → take (n + j) bytes ≡ spell_a a ++ take j rest = λ j. ap (take (n + j)) e ∙ take_past (spell_a a) rest j in
      record {
        within = omega (arith, h.within);
        so_far =
            let f = h.so_far in
            let v = join a f.0 is_a f.1 in
            (v.0, v.1, (f.2.0, v.2 ∙ ap (λ l. spell_a a ++ l) f.2.1 ∙ sym (append_assoc (spell_a a) (take k rest) f.2.0) ∙ ap (λ l. l ++ f.2.0) (sym (seen k))));
        none = λ v is begins.
            let p = parts v is in
            let both = only p.0 p.2 in
            let same : spell_a p.0 ++ (spell_b p.1 ++ begins.0) ≡ spell_a a ++ rest = sym (append_assoc (spell_a p.0) (spell_b p.1) begins.0) ∙ ap (λ l. l ++ begins.0) (sym p.4) ∙ sym begins.1 ∙ e in
            let apart = same_front (spell_a p.0) (spell_a a) (spell_b p.1 ++ begins.0) rest same both.0 in
            h.none p.1 (subst (λ x. IsB x p.1) (both.1 apart.0) p.3) (begins.0, sym apart.1);
        no_further = λ lt v is begins.
            let p = parts v is in
            let both = only p.0 p.2 in
            let one : n + k + 1 ≡ n + (k + 1) = omega arith in
            let same : spell_a p.0 ++ spell_b p.1 ≡ spell_a a ++ (take (k + 1) rest ++ begins.0) = sym p.4 ∙ begins.1 ∙ ap (λ l. l ++ begins.0) (ap (λ j. take j bytes) one ∙ seen (k + 1)) ∙ append_assoc (spell_a a) (take (k + 1) rest) begins.0 in
            let apart = same_front (spell_a p.0) (spell_a a) (spell_b p.1) (take (k + 1) rest ++ begins.0) same both.0 in
            h.no_further (omega (arith, lt, long)) p.1 (subst (λ x. IsB x p.1) (both.1 apart.0) p.3) (begins.0, apart.1);
      }
