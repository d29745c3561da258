-- The names that the routines define: which there are, and which of them a label finds.
use Rattle.std.proofs.Common.{◌≡◌, ℕ, zero, suc, ◌+◌, ◌*◌, ◌^◌, ◌<◌, ◌≤◌, ◌⊎◌, inl, inr, Bool, true, false, cond, List, [], ◌∷◌, ◌++◌, length, drop, Some, None, refl, sym, ap, ap₂, ◌∙◌, subst, nat_lt, arith}
use Rattle.std.specs.Option.{option_or}
use Rattle.std.specs.Str.{bytes_eq}
use Rattle.std.specs.Fmt.{decimal}
use Rattle.std.proofs.lemmas.Bool.{cases_lt}
use Rattle.std.proofs.lemmas.Fmt.{decimal_injective}
use Rattle.std.proofs.lemmas.Slice.Eq.{bytes_eq-Decides}
use Rattle.std.proofs.lemmas.List.{length_push}
use Rattle.std.proofs.lemmas.List.Folds.{find-append}
use Rattle.asm80_source_def.specs.declared.meaning.NameKind.TheVariants.{Label}
use Rattle.asm80_source_def.specs.Names.{Name, named, most_names, defined}

-- the label of a letter and a number, at an address
abbrev pub label : ℕ → ℕ → ℕ → Name
label c k a = record { text = c ∷ decimal k; kind = Label; meaning = record { value = Some a; is_place = true } }

abbrev pub with_name : List Name → Name → List Name
with_name ns n = ns ++ n ∷ []

-- those of routine k, which begins at an address: R, Q and W
abbrev pub with_routine : List Name → ℕ → ℕ → List Name
with_routine ns k a = with_name (with_name (with_name ns (label 82 k a)) (label 81 k (a + 5))) (label 87 k (a + 19))

-- where routine k+1 begins, if the first does at `base`
abbrev pub start_of : ℕ → ℕ → ℕ
start_of base k = base + 20 * k

-- those of the first n routines
unfoldable pub names_to : ℕ → ℕ → List Name
names_to base zero = []
names_to base (suc n) = with_routine (names_to base n) (suc n) (start_of base n)

-- ---- texts

pub same_text : (xs : List ℕ) → bytes_eq xs xs ≡ true
same_text xs = (bytes_eq-Decides xs xs).1 refl

differ_by : (c d i j : ℕ) → (i ≡ j → ⊥) → i < 2 ^ 64 → j < 2 ^ 64 → (b : Bool) → bytes_eq (c ∷ decimal i) (d ∷ decimal j) ≡ b → b ≡ false
differ_by c d i j other small_i small_j false e = refl
differ_by c d i j other small_i small_j true e =
    absurd (other (decimal_injective i j small_i small_j (ap (λ (xs : List ℕ). drop 1 xs) ((bytes_eq-Decides (c ∷ decimal i) (d ∷ decimal j)).0 e))))

-- labels with other numbers are other names
pub differ : (c d i j : ℕ) → (i ≡ j → ⊥) → i < 2 ^ 64 → j < 2 ^ 64 → bytes_eq (c ∷ decimal i) (d ∷ decimal j) ≡ false
differ c d i j other small_i small_j = differ_by c d i j other small_i small_j (bytes_eq (c ∷ decimal i) (d ∷ decimal j)) refl

-- ---- one name more

pub found_before : (ns : List Name) (n m : Name) (t : List ℕ) → named ns t ≡ Some m → named (with_name ns n) t ≡ Some m
found_before ns n m t e = find-append (λ (x : Name). bytes_eq x.text t) ns (n ∷ []) ∙ ap (λ o. option_or o (named (n ∷ []) t)) e

pub found_last : (ns : List Name) (n : Name) (t : List ℕ) → named ns t ≡ None → bytes_eq n.text t ≡ true → named (with_name ns n) t ≡ Some n
found_last ns n t e same = find-append (λ (x : Name). bytes_eq x.text t) ns (n ∷ []) ∙ ap₂ (λ o b. option_or o (cond b (Some n) None)) e same

pub still_new : (ns : List Name) (n : Name) (t : List ℕ) → named ns t ≡ None → bytes_eq n.text t ≡ false → named (with_name ns n) t ≡ None
still_new ns n t e other = find-append (λ (x : Name). bytes_eq x.text t) ns (n ∷ []) ∙ ap₂ (λ o b. option_or o (cond b (Some n) None)) e other

-- a new name, for which there is room: how it is defined
pub is_defined : (ns : List Name) (n : Name) → named ns n.text ≡ None → nat_lt (length ns) most_names ≡ true → defined ns n ≡ with_name ns n
is_defined ns n new room = rw (new, room) refl

-- ---- the names of the routines

-- no later routine's label is among them
pub is_new : (base n c i : ℕ) → n < i → i < 2 ^ 64 → named (names_to base n) (c ∷ decimal i) ≡ None
unfolding names_to
is_new base zero c i less small = refl
is_new base (suc n) c i less small =
    let a = start_of base n in
    let apart : suc n ≡ i → ⊥ = λ e. omega arith in
    let no : (d : ℕ) → bytes_eq (d ∷ decimal (suc n)) (c ∷ decimal i) ≡ false = λ d. differ d c (suc n) i apart (omega arith) small in
    let before : named (names_to base n) (c ∷ decimal i) ≡ None = is_new base n c i (omega arith) small in
    let t = c ∷ decimal i in
    let r = with_name (names_to base n) (label 82 (suc n) a) in
    let q = with_name r (label 81 (suc n) (a + 5)) in
    still_new q (label 87 (suc n) (a + 19)) t (still_new r (label 81 (suc n) (a + 5)) t (still_new (names_to base n) (label 82 (suc n) a) t before (no 82)) (no 81)) (no 87)

pub count_names : (base n : ℕ) → length (names_to base n) ≡ 3 * n
unfolding names_to
count_names base zero = refl
count_names base (suc n) =
    let a = start_of base n in
    let one = length_push (names_to base n) (label 82 (suc n) a) in
    let two = length_push (with_name (names_to base n) (label 82 (suc n) a)) (label 81 (suc n) (a + 5)) in
    let three = length_push (with_name (with_name (names_to base n) (label 82 (suc n) a)) (label 81 (suc n) (a + 5))) (label 87 (suc n) (a + 19)) in
    omega (arith, one, two, three, count_names base n)

-- a letter's label is found at an address that depends on where its routine begins
abbrev pub IsFound : (ℕ → ℕ) → ℕ → ℕ → ℕ → ℕ → Type 0
IsFound at c base n j = named (names_to base n) (c ∷ decimal (suc j)) ≡ Some (label c (suc j) (at (start_of base j)))

-- it is where one routine more defines it
abbrev pub IsDefinedAt : (ℕ → ℕ) → ℕ → Type 0
IsDefinedAt at c = (ns : List Name) (k a : ℕ) → named ns (c ∷ decimal k) ≡ None → named (with_routine ns k a) (c ∷ decimal k) ≡ Some (label c k (at a))

pub routine_defined : IsDefinedAt (λ a. a) 82
routine_defined ns k a new =
    let r = with_name ns (label 82 k a) in
    let found : named r (82 ∷ decimal k) ≡ Some (label 82 k a) = found_last ns (label 82 k a) (82 ∷ decimal k) new (same_text (82 ∷ decimal k)) in
    found_before (with_name r (label 81 k (a + 5))) (label 87 k (a + 19)) (label 82 k a) _ (found_before r (label 81 k (a + 5)) (label 82 k a) _ found)

pub loop_defined : IsDefinedAt (λ a. a + 5) 81
loop_defined ns k a new =
    let r = with_name ns (label 82 k a) in
    let found : named (with_name r (label 81 k (a + 5))) (81 ∷ decimal k) ≡ Some (label 81 k (a + 5)) =
    found_last r (label 81 k (a + 5)) (81 ∷ decimal k) (still_new ns (label 82 k a) (81 ∷ decimal k) new refl) (same_text (81 ∷ decimal k)) in
    found_before (with_name r (label 81 k (a + 5))) (label 87 k (a + 19)) (label 81 k (a + 5)) _ found

pub byte_defined : IsDefinedAt (λ a. a + 19) 87
byte_defined ns k a new =
    let r = with_name ns (label 82 k a) in
    let q = with_name r (label 81 k (a + 5)) in
    let new_r : named r (87 ∷ decimal k) ≡ None = still_new ns (label 82 k a) (87 ∷ decimal k) new refl in
    found_last q (label 87 k (a + 19)) (87 ∷ decimal k) (still_new r (label 81 k (a + 5)) (87 ∷ decimal k) new_r refl) (same_text (87 ∷ decimal k))

module _ (at : ℕ → ℕ) (c : ℕ) (base : ℕ) (known : IsDefinedAt at c) where
  found_in : (n j : ℕ) → n < 2 ^ 32 → ((j < n) ⊎ (j ≡ n)) → ((j < n) → IsFound at c base n j) → IsFound at c base (suc n) j
  unfolding names_to
  found_in n j small (inl less) before =
      let a = start_of base n in
      let one = found_before (names_to base n) (label 82 (suc n) a) _ _ (before less) in
      let two = found_before (with_name (names_to base n) (label 82 (suc n) a)) (label 81 (suc n) (a + 5)) _ _ one in
      found_before (with_name (with_name (names_to base n) (label 82 (suc n) a)) (label 81 (suc n) (a + 5))) (label 87 (suc n) (a + 19)) _ _ two
  found_in n j small (inr same) before =
      subst (λ j. IsFound at c base (suc n) j) (sym same) (known (names_to base n) (suc n) (start_of base n) (is_new base n c (suc n) (omega arith) (omega arith)))

  pub is_found : (n j : ℕ) → j < n → n < 2 ^ 32 → IsFound at c base n j
  is_found zero j less small = absurd (omega arith)
  is_found (suc n) j less small = found_in n j (omega arith) (at_most (cases_lt j n)) (λ before. is_found n j before (omega arith))
    where
      at_most : ((j < n) ⊎ (n ≤ j)) → (j < n) ⊎ (j ≡ n)
      at_most (inl x) = inl x
      at_most (inr x) = inr (omega arith)
