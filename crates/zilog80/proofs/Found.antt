-- What was found in a table, by the rows that the definition has.
use Rattle.std.proofs.Common.{◌≡◌, ℕ, List, [], ◌∷◌, map, Bool, true, false, ◌&&◌, Option, Some, None, refl, sym, ap, ◌∙◌, subst, inl, inr, cond}
use Rattle.std.specs.Prelude.{find, option_map, is_some}
use Rattle.std.specs.Str.{bytes_eq}
use Rattle.std.proofs.lemmas.Bool.{ltb-true, leb-true}
use Rattle.asm80_types.specs.Name.{IsName}
use Rattle.asm80_types.specs.Tree.{Named, Operand, Whole}
use Rattle.asm80_text.proofs.Names.{letters_are_name}
use Rattle.zilog80.specs.Operands.{Spelt, Class, Names, renamed, operands}
use Rattle.zilog80.specs.Read.{class_of, is_word, are_words, BareEntry, UnaryEntry, BinaryEntry, bare_of, unary_of, binary_of, fits_unary, fits_binary, IsBareRow, IsUnaryRow, IsBinaryRow}
use Rattle.zilog80.proofs.Among.{Among, among, contained, passes, both, same_name, itself, found, not_found}

-- ---- names

pub word_is_name : (n : List ℕ) → is_word n ≡ true → IsName n
word_is_name n e =
    let parts = both _ _ e in
    let sizes = both _ _ parts.1 in
    letters_are_name n parts.0 (ltb-true _ _ sizes.0) (leb-true _ _ sizes.1)

-- ---- finding

among_map : {X Y : Type 0} (f : X → Y) (xs : List X) (x : X) → Among xs x → Among (map f xs) (f x)
among_map f [] x h = absurd h
among_map f (y ∷ ys) x (inl e) = inl (ap f e)
among_map f (y ∷ ys) x (inr h) = inr (among_map f ys x h)

-- what stands in a table, as it lies in the code
record Behind {X Y : Type 0} (f : X → Y) (xs : List X) (y : Y) : Type 0 where
  at : X
  in_list : Among xs at
  is : f at ≡ y

behind : {X Y : Type 0} (f : X → Y) (xs : List X) (y : Y) → Among (map f xs) y → Behind f xs y
behind f [] y h = absurd h
behind f (x ∷ xs) y (inl e) = record { at = x; in_list = inl refl; is = e }
behind f (x ∷ xs) y (inr h) = let b = behind f xs y h in record { at = b.at; in_list = inr b.in_list; is = b.is }

true_false : (b : Bool) → b ≡ true → b ≡ false → ⊥
true_false b e f = cc

-- the name in a row
found_name : {X : Type 0} (name : X → List ℕ) (xs : List X) (x : X) → are_words (map name xs) ≡ true → Among xs x → IsName (name x)
found_name name xs x words among = word_is_name (name x) (passes is_word (map name xs) (name x) words (among_map name xs x among))

-- ---- words without operands

abbrev pub is_beside : List ℕ → BareEntry → Bool
is_beside w r = bytes_eq r.0.now w

abbrev pub beside_of : List ℕ → List BareEntry → Option (List ℕ)
beside_of w table = option_map (λ (r : BareEntry). r.1.now) (find (is_beside w) table)

pub bare_is : (rows : List (List ℕ × List ℕ)) (table : List BareEntry) (w : List ℕ) (r : Option (List ℕ)) → map bare_of table ≡ rows → r ≡ beside_of w table → IsBareRow rows w r
bare_is rows table w r view e = subst (IsBareRow rows w) (sym e) (go (find (is_beside w) table) refl)
  where
    go : (o : Option BareEntry) → find (is_beside w) table ≡ o → IsBareRow rows w (option_map (λ (x : BareEntry). x.1.now) o)
    go None k = λ op h.
        let b = behind bare_of table (w, op) (subst (λ (xs : List (List ℕ × List ℕ)). Among xs (w, op)) (sym view) (among rows (w, op) h)) in
        let word : b.at.0.now ≡ w = ap (λ (x : List ℕ × List ℕ). x.0) b.is in
        true_false _ (ap (λ (v : List ℕ). bytes_eq v w) word ∙ itself w) (not_found (is_beside w) table b.at k b.in_list)
    go (Some x) k =
        let f = found (is_beside w) table x k in
        let row : bare_of x ≡ (w, x.1.now) = ap (λ (v : List ℕ). (v, x.1.now)) (same_name _ _ f.1) in
        contained rows (w, x.1.now) (subst (λ (xs : List (List ℕ × List ℕ)). Among xs (w, x.1.now)) view (subst (Among (map bare_of table)) row (among_map bare_of table x f.0)))

pub beside_name : (table : List BareEntry) (w : List ℕ) (x : BareEntry) → are_words (map (λ (y : BareEntry). y.1.now) table) ≡ true → find (is_beside w) table ≡ Some x → IsName x.1.now
beside_name table w x words e = found_name (λ (y : BareEntry). y.1.now) table x words (found (is_beside w) table x e).0

-- ---- an operand

pub unary_found : (rows : List (List ℕ × Class × List ℕ)) (table : List UnaryEntry) (w : List ℕ) (a : Spelt) (x : UnaryEntry) → map unary_of table ≡ rows → find (fits_unary w a) table ≡ Some x → IsUnaryRow rows w a (Some (x.1, x.2.now))
unary_found rows table w a x view e =
    let f = found (fits_unary w a) table x e in
    let passed = both _ _ f.1 in
    let row : unary_of x ≡ (w, class_of x.1, x.2.now) = ap (λ (v : List ℕ). (v, class_of x.1, x.2.now)) (same_name _ _ passed.0) in (
      contained rows (w, class_of x.1, x.2.now) (subst (λ (xs : List (List ℕ × Class × List ℕ)). Among xs (w, class_of x.1, x.2.now)) view (subst (Among (map unary_of table)) row (among_map unary_of table x f.0))),
      passed.1,
    )

no_some : (o : Option (List Operand)) (b : Bool) → b ≡ true → (b && is_some o) ≡ false → o ≡ None
no_some None b e f = refl
no_some (Some x) true e f = absurd cc
no_some (Some x) false e f = absurd cc

pub unary_none : (rows : List (List ℕ × Class × List ℕ)) (table : List UnaryEntry) (w : List ℕ) (a : Spelt) → map unary_of table ≡ rows → find (fits_unary w a) table ≡ None → IsUnaryRow rows w a None
unary_none rows table w a view e = λ c op h.
    let b = behind unary_of table (w, c, op) (subst (λ (xs : List (List ℕ × Class × List ℕ)). Among xs (w, c, op)) (sym view) (among rows (w, c, op) h)) in
    let word : b.at.0.now ≡ w = ap (λ (x : List ℕ × Class × List ℕ). x.0) b.is in
    let class : class_of b.at.1 ≡ c = ap (λ (x : List ℕ × Class × List ℕ). x.1) b.is in
    ap (λ (d : Class). operands d a) (sym class)
    ∙ no_some _ _ (ap (λ (v : List ℕ). bytes_eq v w) word ∙ itself w) (not_found (fits_unary w a) table b.at e b.in_list)

pub unary_name : (table : List UnaryEntry) (w : List ℕ) (a : Spelt) (x : UnaryEntry) → are_words (map (λ (y : UnaryEntry). y.2.now) table) ≡ true → find (fits_unary w a) table ≡ Some x → IsName x.2.now
unary_name table w a x words e = found_name (λ (y : UnaryEntry). y.2.now) table x words (found (fits_unary w a) table x e).0

-- ---- two operands

pub binary_found : (rows : List (List ℕ × Class × Class × List ℕ)) (table : List BinaryEntry) (w : List ℕ) (a b : Spelt) (x : BinaryEntry) → map binary_of table ≡ rows → find (fits_binary w a b) table ≡ Some x → IsBinaryRow rows w a b (Some (x.1, x.2, x.3.now))
binary_found rows table w a b x view e =
    let f = found (fits_binary w a b) table x e in
    let passed = both _ _ f.1 in
    let taken = both _ _ passed.1 in
    let row : binary_of x ≡ (w, class_of x.1, class_of x.2, x.3.now) = ap (λ (v : List ℕ). (v, class_of x.1, class_of x.2, x.3.now)) (same_name _ _ passed.0) in (
      contained rows (w, class_of x.1, class_of x.2, x.3.now) (subst (λ (xs : List (List ℕ × Class × Class × List ℕ)). Among xs (w, class_of x.1, class_of x.2, x.3.now)) view (subst (Among (map binary_of table)) row (among_map binary_of table x f.0))),
      taken.0,
      taken.1,
    )

both_some : (o p : Option (List Operand)) (x y : List Operand) (b : Bool) → b ≡ true → o ≡ Some x → p ≡ Some y → (b && (is_some o && is_some p)) ≡ false → ⊥
both_some o p x y b e f g h = true_false (b && (is_some o && is_some p)) (rw (e, f, g) refl) h

pub binary_none : (rows : List (List ℕ × Class × Class × List ℕ)) (table : List BinaryEntry) (w : List ℕ) (a b : Spelt) → map binary_of table ≡ rows → find (fits_binary w a b) table ≡ None → IsBinaryRow rows w a b None
binary_none rows table w a b view e = λ c d op x y h t u.
    let k = behind binary_of table (w, c, d, op) (subst (λ (xs : List (List ℕ × Class × Class × List ℕ)). Among xs (w, c, d, op)) (sym view) (among rows (w, c, d, op) h)) in
    let word : k.at.0.now ≡ w = ap (λ (z : List ℕ × Class × Class × List ℕ). z.0) k.is in
    let first : class_of k.at.1 ≡ c = ap (λ (z : List ℕ × Class × Class × List ℕ). z.1) k.is in
    let second : class_of k.at.2 ≡ d = ap (λ (z : List ℕ × Class × Class × List ℕ). z.2) k.is in
    both_some _ _ x y _ (ap (λ (v : List ℕ). bytes_eq v w) word ∙ itself w) (ap (λ (e : Class). operands e a) first ∙ t) (ap (λ (e : Class). operands e b) second ∙ u)
    (not_found (fits_binary w a b) table k.at e k.in_list)

pub binary_name : (table : List BinaryEntry) (w : List ℕ) (a b : Spelt) (x : BinaryEntry) → are_words (map (λ (y : BinaryEntry). y.3.now) table) ≡ true → find (fits_binary w a b) table ≡ Some x → IsName x.3.now
binary_name table w a b x words e = found_name (λ (y : BinaryEntry). y.3.now) table x words (found (fits_binary w a b) table x e).0

-- ---- names of Intel's

pub beside_renamed : (names : Names) (table : List BareEntry) (n : List ℕ) → map bare_of table ≡ names → option_map (λ (m : List ℕ). Whole (Named m) ∷ []) (beside_of n table) ≡ renamed names n
beside_renamed names [] n view = rw (← view) refl
beside_renamed names (x ∷ table) n view = rw (← view) (elim (bytes_eq x.0.now n) as (λ b. option_map (λ (m : List ℕ). Whole (Named m) ∷ []) (option_map (λ (r : BareEntry). r.1.now) (cond b (Some x) (find (is_beside n) table))) ≡ option_map (λ (r : List ℕ × List ℕ). Whole (Named r.1) ∷ []) (cond b (Some (bare_of x)) (find (λ (r : List ℕ × List ℕ). bytes_eq r.0 n) (map bare_of table)))) [
  | true ↦ refl
  | false ↦ beside_renamed (map bare_of table) table n refl
])
