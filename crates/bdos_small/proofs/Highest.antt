-- The highest names, and the room below them.
use Rattle.std.proofs.Common.{◌≡◌, ℕ, ◌+◌, ◌-◌, ◌<◌, ◌≤◌, ◌==◌, ◌&&◌, nat_lt, nat_le, true, false, not, cond, List, [], ◌∷◌, ◌++◌, length, take, get_or, refl, sym, ap, ◌∙◌, inl, inr, ◌⊎◌, arith}
use Rattle.std.specs.List.{list_all}
use Rattle.std.specs.Ordering.{is_lt, ordering_then, ordering_reverse}
use Rattle.std.specs.declared.cmp.Ordering.{Ordering}
use Rattle.std.specs.declared.cmp.Ordering.TheVariants.{Less, Equal, Greater}
use Rattle.std.proofs.lemmas.Bool.{ltb-true, ltb-false, leb-false, lt-ltb, and_parts, and_cases, not-true, eqb-false, cases_Bool, false≢true}
use Rattle.std.proofs.lemmas.List.{length-take-le, take-append-drop, drop_all}
use Rattle.std.proofs.lemmas.Cmp.{nat_list_cmp_total}
use Rattle.std.proofs.Common.{drop-cons}
use Rattle.bdos_small.specs.Names.{is_name_byte, is_file_name, is_before, top_byte, highest}
use Rattle.bdos_small.proofs.Order.{compared, compared-append}
use Rattle.bdos_small.proofs.Going.{tops, tops_most, name_parts, first_not_below, all_parts}

-- the bytes from the highest down
top_cases : (k : ℕ) → ((k < 4) × (top_byte k ≡ 0x7E - k)) ⊎ (((4 ≤ k) × (k < 37) × (top_byte k ≡ 0x64 - k)) ⊎ ((37 ≤ k) × (top_byte k ≡ 0x63 - k)))
top_cases k =
    elim (cases_Bool (nat_lt k 4)) [
      | inl e ↦ inl (ltb-true k 4 e, ap (λ b. cond b (0x7E - k) (cond (nat_lt k 37) (0x64 - k) (0x63 - k))) e)
      | inr e ↦
          elim (cases_Bool (nat_lt k 37)) [
            | inl f ↦ inr (inl (ltb-false k 4 e, ltb-true k 37 f, ap (λ b. cond b (0x7E - k) (cond (nat_lt k 37) (0x64 - k) (0x63 - k))) e ∙ ap (λ b. cond b (0x64 - k) (0x63 - k)) f))
            | inr f ↦ inr (inr (ltb-false k 37 f, ap (λ b. cond b (0x7E - k) (cond (nat_lt k 37) (0x64 - k) (0x63 - k))) e ∙ ap (λ b. cond b (0x64 - k) (0x63 - k)) f))
          ]
    ]

-- a byte of a name is no `?` and no lower-case letter
byte_gaps : (b : ℕ) → is_name_byte b ≡ true → (b ≡ 0x3F → ⊥) × ((b < 0x61) ⊎ (0x7A < b))
byte_gaps b e =
    let low = and_parts (nat_le 0x20 b) (nat_lt b 0x7F && (not (b == 0x3F) && not (nat_le 0x61 b && nat_le b 0x7A))) e in
    let high = and_parts (nat_lt b 0x7F) (not (b == 0x3F) && not (nat_le 0x61 b && nat_le b 0x7A)) low.1 in
    let mark = and_parts (not (b == 0x3F)) (not (nat_le 0x61 b && nat_le b 0x7A)) high.1 in
    let small = not-true (nat_le 0x61 b && nat_le b 0x7A) mark.1 in (
      eqb-false b 0x3F (not-true (b == 0x3F) mark.0),
      elim (and_cases (nat_le 0x61 b) (nat_le b 0x7A) small) [ inl f ↦ inl (leb-false 0x61 b f) | inr f ↦ inr (leb-false b 0x7A f) ],
    )

-- no byte of a name stands between two of them that follow one another
next_top : (k x : ℕ) → k + 1 ≤ 63 → is_name_byte x ≡ true → x < top_byte k → x ≤ top_byte (k + 1)
next_top k x le name lt =
    let gaps = byte_gaps x name in
    let mark : x ≡ 0x3F → ⊥ = gaps.0 in
    elim (top_cases k) [
      | inl a ↦ elim (top_cases (k + 1)) [
        | inl b ↦ omega (arith, a.0, a.1, b.0, b.1)
        | inr (inl b) ↦ elim gaps.1 [ inl c ↦ omega (arith, a.0, a.1, b.0, b.1, b.2, c) | inr c ↦ omega (arith, a.0, a.1, b.0, b.1, b.2, c) ]
        | inr (inr b) ↦ absurd (omega (arith, a.0, b.0))
      ]
      | inr (inl a) ↦ elim (top_cases (k + 1)) [
        | inl b ↦ absurd (omega (arith, a.0, b.0))
        | inr (inl b) ↦ omega (arith, a.0, a.1, a.2, b.0, b.1, b.2)
        | inr (inr b) ↦ omega (arith, a.0, a.1, a.2, b.0, b.1, mark)
      ]
      | inr (inr a) ↦ elim (top_cases (k + 1)) [
        | inl b ↦ absurd (omega (arith, a.0, b.0))
        | inr (inl b) ↦ absurd (omega (arith, a.0, b.1))
        | inr (inr b) ↦ omega (arith, a.0, a.1, b.0, b.1)
      ]
    ]

lower_top : (k : ℕ) → k + 1 ≤ 63 → top_byte (k + 1) < top_byte k
lower_top k le =
    elim (top_cases k) [
      | inl a ↦ elim (top_cases (k + 1)) [
        | inl b ↦ omega (arith, a.0, a.1, b.0, b.1)
        | inr (inl b) ↦ omega (arith, a.0, a.1, b.0, b.1, b.2)
        | inr (inr b) ↦ absurd (omega (arith, a.0, b.0))
      ]
      | inr (inl a) ↦ elim (top_cases (k + 1)) [
        | inl b ↦ absurd (omega (arith, a.0, b.0))
        | inr (inl b) ↦ omega (arith, a.0, a.1, a.2, b.0, b.1, b.2)
        | inr (inr b) ↦ omega (arith, a.0, a.1, a.2, b.0, b.1)
      ]
      | inr (inr a) ↦ elim (top_cases (k + 1)) [
        | inl b ↦ absurd (omega (arith, a.0, b.0))
        | inr (inl b) ↦ absurd (omega (arith, a.0, b.1))
        | inr (inr b) ↦ omega (arith, a.0, a.1, b.0, b.1)
      ]
    ]

-- the order of single bytes
byte_before : (x y : ℕ) → is_before (x ∷ []) (y ∷ []) ≡ true → x < y
byte_before x y e = elim (cases_Bool (nat_lt x y)) [ inl f ↦ ltb-true x y f | inr f ↦ absurd (false≢true (sym (first_not_below x y Equal (ltb-false x y f) refl) ∙ e)) ]

byte_less : (x y : ℕ) → x < y → is_before (x ∷ []) (y ∷ []) ≡ true
byte_less x y lt = ap (λ b. is_lt (ordering_then (cond b Less (cond (x == y) Equal Greater)) Equal)) (lt-ltb x y lt)

pub highest_falls : (k : ℕ) → k + 1 ≤ 63 → is_before (highest (k + 1)) (highest k) ≡ true
highest_falls k le =
    ap is_lt (compared-append (tops 10) (tops 10) (top_byte (k + 1) ∷ []) (top_byte k ∷ []) refl)
    ∙ byte_less (top_byte (k + 1)) (top_byte k) (lower_top k le)

-- a name is its first ten bytes and the last
last_byte : (n : List ℕ) → length n ≡ 11 → n ≡ take 10 n ++ get_or n 10 0 ∷ []
last_byte n e =
    sym (take-append-drop 10 n)
    ∙ ap (λ l. take 10 n ++ l) (drop-cons n 10 0 (omega arith) ∙ ap (λ l. get_or n 10 0 ∷ l) (drop_all 11 n (omega arith)))

-- a name below the highest is not above the next
pub next_highest : (k : ℕ) (n : List ℕ) → k + 1 ≤ 63 → is_file_name n ≡ true → is_before n (highest k) ≡ true → is_before (highest (k + 1)) n ≡ false
next_highest k n le name below =
    let parts = name_parts n name in
    let a = take 10 n in
    let x = get_or n 10 0 in
    let whole = last_byte n parts.0 in
    let size : length a ≡ 10 = length-take-le 10 n (omega (arith, parts.0)) in
    let bytes = all_parts a (x ∷ []) (ap (list_all is_name_byte) (sym whole) ∙ parts.1) in
    let name_byte = (and_parts (is_name_byte x) true bytes.1).0 in
    let here : is_lt (ordering_then (compared a (tops 10)) (compared (x ∷ []) (top_byte k ∷ []))) ≡ true = sym (ap is_lt (ap (λ w. compared w (highest k)) whole ∙ compared-append a (tops 10) (x ∷ []) (top_byte k ∷ []) size)) ∙ below in
    let there : is_before (highest (k + 1)) n ≡ is_lt (ordering_then (compared (tops 10) a) (compared (top_byte (k + 1) ∷ []) (x ∷ []))) = ap is_lt (ap (compared (highest (k + 1))) whole ∙ compared-append (tops 10) a (top_byte (k + 1) ∷ []) (x ∷ []) (sym size)) in
    there ∙ by_order k x le name_byte (compared a (tops 10)) (compared (tops 10) a) (nat_list_cmp_total.antisymm (tops 10) a) here
  where
    by_order : (k x : ℕ) → k + 1 ≤ 63 → is_name_byte x ≡ true → (o p : Ordering) → p ≡ ordering_reverse o → is_lt (ordering_then o (compared (x ∷ []) (top_byte k ∷ []))) ≡ true → is_lt (ordering_then p (compared (top_byte (k + 1) ∷ []) (x ∷ []))) ≡ false
    by_order k x le name Less p back here = ap (λ r. is_lt (ordering_then r (compared (top_byte (k + 1) ∷ []) (x ∷ [])))) back
    by_order k x le name Equal p back here = ap (λ r. is_lt (ordering_then r (compared (top_byte (k + 1) ∷ []) (x ∷ [])))) back ∙ first_not_below (top_byte (k + 1)) x Equal (next_top k x le name (byte_before x (top_byte k) here)) refl
    by_order k x le name Greater p back here = cc

-- the highest of all
pub below_highest : (n : List ℕ) → is_file_name n ≡ true → is_before (highest 0) n ≡ false
below_highest n name =
    let parts = name_parts n name in
    ap (λ m. is_before (tops m) n) (sym parts.0) ∙ tops_most n parts.1
