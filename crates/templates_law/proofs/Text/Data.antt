-- The data of a program as bytes and words, ascending, and what their statements come to.
use Rattle.std.proofs.Common.{◌≡◌, ◌≢◌, ℕ, ◌+◌, ◌%◌, ◌/◌, ◌≤◌, ◌<◌, List, [], ◌∷◌, ◌++◌, refl, sym, ap, ◌∙◌, subst, arith, append_assoc, Bool, true, false, cond, not, ◌==◌, ◌&&◌, ◌||◌, nat_lt, nat_le}
use Rattle.std.specs.List.{list_any}
use Rattle.std.proofs.lemmas.Bool.{eq-eqb, ne_eqb, le-leb, lt-ltb, eqb-true}
use Rattle.cells.specs.declared.Place.TheVariants.{At as AtPlace}
use Rattle.cells.specs.declared.Cell.{Cell}
use Rattle.cells.specs.declared.Cell.TheVariants.{Num, Lo, Hi}
use Rattle.asm86_line_types.specs.declared.line.Label.{Label}
use Rattle.asm86_line_types.specs.declared.line.Label.TheVariants.{At}
use Rattle.asm86_line_types.specs.declared.line.Value16.TheVariants.{Offset}
use Rattle.asm86_line_types.specs.declared.line.Stmt86.{Stmt86}
use Rattle.asm86_line_types.specs.declared.line.Stmt86.TheVariants.{Org, Db, Dw}
use Rattle.asm86_line_types.specs.Order.{Reading, DataGroup, in_order, is_free_cell}
use Rattle.asm86_line_types.specs.Image.{cells_from, word_cells}
use Rattle.asm86_line_types.proofs.Statements.{Each}
use Rattle.templates.specs.Plain.{org_at, data_from, ending}
use Rattle.templates_law.proofs.Text.Statements.{each-append}

-- bytes, and words that are offsets of code addresses of a kind, ascending from a place on and below a limit
pub data HasData (G : ℕ → Type 0) (limit : ℕ) : ℕ → List (ℕ × Cell) → Type 0 where
  none : (from : ℕ) → HasData G limit from []
  byte : (from a n : ℕ) (cs : List (ℕ × Cell)) → from ≤ a → a < limit → n < 0x100 → HasData G limit (a + 1) cs → HasData G limit from ((a, Num n) ∷ cs)
  word : (from a q : ℕ) (cs : List (ℕ × Cell)) → from ≤ a → a + 1 < limit → G q → HasData G limit (a + 2) cs → HasData G limit from ((a, Lo (AtPlace q)) ∷ ((a + 1, Hi (AtPlace q)) ∷ cs))

-- a word has one statement for its two cells
word_statement : (next a q : ℕ) (cs : List (ℕ × Cell)) → data_from next ((a, Lo (AtPlace q)) ∷ ((a + 1, Hi (AtPlace q)) ∷ cs)) ≡ org_at next a ++ (Dw (Offset (At q)) ∷ data_from (a + 2) cs)
word_statement next a q cs =
    let e : a + 1 + 1 ≡ a + 2 = omega arith in
    ap (λ b. org_at next a ++ (Dw (Offset (At q)) ∷ (cond b [] (Org (a + 1) ∷ []) ++ data_from (a + 1 + 1) cs))) (eq-eqb (a + 1) (a + 1) refl)
    ∙ ap (λ n. org_at next a ++ (Dw (Offset (At q)) ∷ data_from n cs)) e

org_each : (P : Stmt86 → Type 0) (next a : ℕ) → P (Org a) → Each P (org_at next a)
org_each P next a h = by_test (a == next)
  where
    by_test : (t : Bool) → Each P (cond t [] (Org a ∷ []))
    by_test true = tt
    by_test false = (h, tt)

-- what holds of each kind of data statement holds of all statements of the data
pub data_each : (P : Stmt86 → Type 0) (G : ℕ → Type 0) (limit : ℕ) → ((a : ℕ) → a < limit → P (Org a)) → ((n : ℕ) → n < 0x100 → P (Db n)) → ((q : ℕ) → G q → P (Dw (Offset (At q)))) → (from : ℕ) (cs : List (ℕ × Cell)) → HasData G limit from cs → (next : ℕ) → Each P (data_from next cs)
data_each P G limit org db dw _ _ (none from) next = tt
data_each P G limit org db dw _ _ (byte from a n cs le lt small h) next =
    each-append P (org_at next a) (Db n ∷ data_from (a + 1) cs) (org_each P next a (org a lt)) (db n small, data_each P G limit org db dw (a + 1) cs h (a + 1))
data_each P G limit org db dw _ _ (word from a q cs le lt g h) next =
    subst (Each P) (sym (word_statement next a q cs))
    (each-append P (org_at next a) (Dw (Offset (At q)) ∷ data_from (a + 2) cs) (org_each P next a (org a (omega (arith, lt)))) (dw q g, data_each P G limit org db dw (a + 2) cs h (a + 2)))

-- ---- each cell is filled once

-- in the data, at an address, with these cells filled
abbrev pub in_cells : ℕ → List ℕ → Reading
in_cells at filled = record { group = DataGroup; code_came = true; data_came = true; at = at; filled = filled }

abbrev Below : ℕ → List ℕ → Type 0
Below k [] = Unit {0}
Below k (b ∷ bs) = (b < k) × Below k bs

below_more : (k m : ℕ) (bs : List ℕ) → Below k bs → k ≤ m → Below m bs
below_more k m [] h le = tt
below_more k m (b ∷ bs) h le = let lt = h.0 in (omega (arith, lt, le), below_more k m bs h.1 le)

none_there : (a : ℕ) (bs : List ℕ) → Below a bs → list_any (λ b. b == a) bs ≡ false
none_there a [] h = refl
none_there a (b ∷ bs) h =
    let lt = h.0 in
    let ne : b ≢ a = omega (arith, lt) in
    ap (λ t. t || list_any (λ b. b == a) bs) (ne_eqb b a ne) ∙ none_there a bs h.1

le_true : (a b : ℕ) → a ≤ b → nat_le a b ≡ true
le_true a b h = le-leb a b h

lt_true : (a b : ℕ) → a < b → nat_lt a b ≡ true
lt_true a b h = lt-ltb a b h

free : (at a : ℕ) (filled : List ℕ) → 0x100 ≤ a → a < 0x10000 → Below a filled → is_free_cell (in_cells at filled) a ≡ true
free at a filled low high h =
    ap (λ t. t && (nat_lt a 0x10000 && not (list_any (λ b. b == a) filled))) (le_true 0x100 a low)
    ∙ ap (λ t. t && not (list_any (λ b. b == a) filled)) (lt_true a 0x10000 high)
    ∙ ap not (none_there a filled h)

org_order : (next a : ℕ) (filled : List ℕ) (ys : List Stmt86) → in_order (in_cells next filled) (org_at next a ++ ys) ≡ in_order (in_cells a filled) ys
org_order next a filled ys = by_test (a == next) refl
  where
    by_test : (t : Bool) → (a == next) ≡ t → in_order (in_cells next filled) (cond t [] (Org a ∷ []) ++ ys) ≡ in_order (in_cells a filled) ys
    by_test true e = ap (λ n. in_order (in_cells n filled) ys) (sym (eqb-true a next e))
    by_test false e = refl

pub data_order : (G : ℕ → Type 0) (limit top : ℕ) → limit ≤ 0x10000 → (from : ℕ) (cs : List (ℕ × Cell)) → HasData G limit from cs → 0x100 ≤ from → (next : ℕ) (filled : List ℕ) → Below from filled → in_order (in_cells next filled) (data_from next cs ++ ending top) ≡ true
data_order G limit top high _ _ (none from) low next filled below = refl
data_order G limit top high _ _ (byte from a n cs le lt small h) low next filled below =
    let under = below_more from a filled below le in
    ap (in_order (in_cells next filled)) (append_assoc (org_at next a) (Db n ∷ data_from (a + 1) cs) (ending top))
    ∙ org_order next a filled (Db n ∷ (data_from (a + 1) cs ++ ending top))
    ∙ ap (λ t. t && in_order (in_cells (a + 1) (a ∷ filled)) (data_from (a + 1) cs ++ ending top)) (free a a filled (omega (arith, low, le)) (omega (arith, lt, high)) under)
    ∙ data_order G limit top high (a + 1) cs h (omega (arith, low, le)) (a + 1) (a ∷ filled) (omega arith, below_more a (a + 1) filled under (omega arith))
data_order G limit top high _ _ (word from a q cs le lt g h) low next filled below =
    let under = below_more from a filled below le in
    let rest : Bool = in_order (in_cells (a + 2) (a ∷ ((a + 1) ∷ filled))) (data_from (a + 2) cs ++ ending top) in
    ap (λ xs. in_order (in_cells next filled) (xs ++ ending top)) (word_statement next a q cs)
    ∙ ap (in_order (in_cells next filled)) (append_assoc (org_at next a) (Dw (Offset (At q)) ∷ data_from (a + 2) cs) (ending top))
    ∙ org_order next a filled (Dw (Offset (At q)) ∷ (data_from (a + 2) cs ++ ending top))
    ∙ ap (λ t. (t && is_free_cell (in_cells a filled) (a + 1)) && rest) (free a a filled (omega (arith, low, le)) (omega (arith, lt, high)) under)
    ∙ ap (λ t. t && rest) (free a (a + 1) filled (omega (arith, low, le)) (omega (arith, lt, high)) (below_more a (a + 1) filled under (omega arith)))
    ∙ data_order G limit top high (a + 2) cs h (omega (arith, low, le)) (a + 2) (a ∷ ((a + 1) ∷ filled)) (omega arith, (omega arith, below_more a (a + 2) filled under (omega arith)))

-- ---- the bytes

-- the byte of a cell, where the labels have these offsets
abbrev pub byte_of : (Label → ℕ) → Cell → ℕ
byte_of off (Num n) = n
byte_of off (Lo (AtPlace q)) = off (At q) % 256
byte_of off (Hi (AtPlace q)) = off (At q) / 256
byte_of off c = 0

abbrev pub bytes_of : (Label → ℕ) → List (ℕ × Cell) → List (ℕ × ℕ)
bytes_of off [] = []
bytes_of off (c ∷ cs) = (c.0, byte_of off c.1) ∷ bytes_of off cs

org_cells : (off : Label → ℕ) (next a : ℕ) (ys : List Stmt86) → cells_from off next (org_at next a ++ ys) ≡ cells_from off a ys
org_cells off next a ys = by_test (a == next) refl
  where
    by_test : (t : Bool) → (a == next) ≡ t → cells_from off next (cond t [] (Org a ∷ []) ++ ys) ≡ cells_from off a ys
    by_test true e = ap (λ n. cells_from off n ys) (sym (eqb-true a next e))
    by_test false e = refl

pub data_cells : (off : Label → ℕ) (G : ℕ → Type 0) (limit top from : ℕ) (cs : List (ℕ × Cell)) → HasData G limit from cs → (next : ℕ) → cells_from off next (data_from next cs ++ ending top) ≡ bytes_of off cs
data_cells off G limit top _ _ (none from) next = refl
data_cells off G limit top _ _ (byte from a n cs le lt small h) next =
    ap (cells_from off next) (append_assoc (org_at next a) (Db n ∷ data_from (a + 1) cs) (ending top))
    ∙ org_cells off next a (Db n ∷ (data_from (a + 1) cs ++ ending top))
    ∙ ap (λ ys. (a, n) ∷ ys) (data_cells off G limit top (a + 1) cs h (a + 1))
data_cells off G limit top _ _ (word from a q cs le lt g h) next =
    ap (λ xs. cells_from off next (xs ++ ending top)) (word_statement next a q cs)
    ∙ ap (cells_from off next) (append_assoc (org_at next a) (Dw (Offset (At q)) ∷ data_from (a + 2) cs) (ending top))
    ∙ org_cells off next a (Dw (Offset (At q)) ∷ (data_from (a + 2) cs ++ ending top))
    ∙ ap (word_cells a (off (At q))) (data_cells off G limit top (a + 2) cs h (a + 2))
