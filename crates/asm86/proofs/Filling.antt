-- What is known of the cells while statements are left.
use Rattle.std.proofs.Common.{◌≡◌, ℕ, ◌+◌, ◌/◌, ◌%◌, ◌<◌, ◌&&◌, ◌||◌, true, not, nat_le, nat_lt, List, [], ◌∷◌, ◌++◌, length, drop, get_or, refl, sym, ap, subst, ◌∙◌, ltb-true, Fits, w16, arith}
use Rattle.std.proofs.lemmas.List.{drop_more}
use Rattle.std.proofs.lemmas.List.Sums.{fold-append}
use Rattle.std.specs.List.{fold}
use Rattle.std.proofs.lemmas.Bool.{and_parts}
use Rattle.asm86_line_types.specs.declared.line.Label.{Label}
use Rattle.asm86_line_types.specs.declared.line.Value16.{Value16}
use Rattle.asm86_line_types.specs.declared.line.Value16.TheVariants.{Num, Offset}
use Rattle.asm86_line_types.specs.declared.line.Stmt86.{Stmt86}
use Rattle.asm86_line_types.specs.declared.line.Stmt86.TheVariants.{Cseg, Dseg, Org, Rb, Db, Dw, Mark, Run, MovOffset, Jmp, Jmps, Jcc, Call, EndText}
use Rattle.asm86_line_types.specs.declared.line.Line86.{Line86}
use Rattle.asm86_line_types.specs.Order.{Reading, at_start, in_data, is_free_cell, may_stand, reading_after, in_order, ends_text, has_no_statement}
use Rattle.asm86_line_types.specs.Image.{statements, put_cell, cells_from}
use Rattle.asm86.specs.Places.{label_place, word_of_value}

-- the data address after a statement
abbrev pub address_after : ℕ → Stmt86 → ℕ
address_after at x = (reading_after (record at_start { at = at }) x).at

address_is : (r : Reading) (x : Stmt86) → (reading_after r x).at ≡ address_after r.at x
address_is r Cseg = refl
address_is r Dseg = refl
address_is r (Org w) = refl
address_is r (Rb w) = refl
address_is r (Db n) = refl
address_is r (Dw v) = refl
address_is r (Mark k) = refl
address_is r (Run i) = refl
address_is r (MovOffset q k) = refl
address_is r (Jmp k) = refl
address_is r (Jmps k) = refl
address_is r (Jcc j k) = refl
address_is r (Call k) = refl
address_is r EndText = refl

cells_first : (off : Label → ℕ) (at : ℕ) (x : Stmt86) (xs : List Stmt86) → cells_from off at (x ∷ xs) ≡ cells_from off at (x ∷ []) ++ cells_from off (address_after at x) xs
cells_first off at Cseg xs = refl
cells_first off at Dseg xs = refl
cells_first off at (Org w) xs = refl
cells_first off at (Rb w) xs = refl
cells_first off at (Db n) xs = refl
cells_first off at (Dw (Num w)) xs = refl
cells_first off at (Dw (Offset k)) xs = refl
cells_first off at (Mark k) xs = refl
cells_first off at (Run i) xs = refl
cells_first off at (MovOffset q k) xs = refl
cells_first off at (Jmp k) xs = refl
cells_first off at (Jmps k) xs = refl
cells_first off at (Jcc j k) xs = refl
cells_first off at (Call k) xs = refl
cells_first off at EndText xs = refl

-- statements that are left stand in order, from a reading at this data address
pub record StandsFrom (at : ℕ) (xs : List Stmt86) : Type 0 where
  pub reading : Reading
  pub address : reading.at ≡ at
  pub order : in_order reading xs ≡ true

pub stands_first : (at : ℕ) (x : Stmt86) (xs : List Stmt86) → StandsFrom at (x ∷ xs) → (r : Reading) × (r.at ≡ at) × (may_stand r x ≡ true)
stands_first at x xs h = (h.reading, h.address, (and_parts (may_stand h.reading x) ((not (ends_text x) || has_no_statement xs) && in_order (reading_after h.reading x) xs) h.order).0)

pub stands_rest : (at : ℕ) (x : Stmt86) (xs : List Stmt86) → StandsFrom at (x ∷ xs) → StandsFrom (address_after at x) xs
stands_rest at x xs h =
    let rest = and_parts (may_stand h.reading x) ((not (ends_text x) || has_no_statement xs) && in_order (reading_after h.reading x) xs) h.order in
    record {
      reading = reading_after h.reading x;
      address = address_is h.reading x ∙ ap (λ n. address_after n x) h.address;
      order = (and_parts (not (ends_text x) || has_no_statement xs) (in_order (reading_after h.reading x) xs) rest.1).1;
    }

pub filled_rest : (off : Label → ℕ) (at : ℕ) (x : Stmt86) (xs : List Stmt86) (cells more whole : List (ℕ × ℕ)) → fold put_cell cells (cells_from off at (x ∷ xs)) ≡ whole → more ≡ fold put_cell cells (cells_from off at (x ∷ [])) → fold put_cell more (cells_from off (address_after at x) xs) ≡ whole
filled_rest off at x xs cells more whole h e =
    ap (λ cs. fold put_cell cs (cells_from off (address_after at x) xs)) e
    ∙ sym (fold-append put_cell cells (cells_from off at (x ∷ [])) (cells_from off (address_after at x) xs))
    ∙ ap (fold put_cell cells) (sym (cells_first off at x xs))
    ∙ h

-- the statements that are left at a place
pub left : (lines : List Line86) (i : ℕ) (d : Line86) → i < length lines → statements (drop i lines) ≡ (get_or lines i d).stmt ∷ statements (drop (i + 1) lines)
left lines i d lt = ap statements (drop_more lines i d lt)

-- the cells of a statement that may stand are within memory
free_within : (r : Reading) (a : ℕ) → is_free_cell r a ≡ true → Fits w16 a
free_within r a h = omega (arith, ltb-true a 0x10000 (and_parts (nat_lt a 0x10000) _ (and_parts (nat_le 0x100 a) _ h).1).0)

pub byte_within : (r : Reading) (at n : ℕ) (x : Stmt86) → r.at ≡ at → may_stand r x ≡ true → x ≡ Db n → Fits w16 at
byte_within r at n x e h is = subst (Fits w16) e (free_within r r.at (and_parts (in_data r.group) (is_free_cell r r.at) (sym (ap (may_stand r) is) ∙ h)).1)

pub word_within : (r : Reading) (at : ℕ) (v : Value16) (x : Stmt86) → r.at ≡ at → may_stand r x ≡ true → x ≡ Dw v → at + 1 < 0x10000
word_within r at v x e h is =
    let free = and_parts (is_free_cell r r.at) (is_free_cell r (r.at + 1)) (and_parts (in_data r.group) (is_free_cell r r.at && is_free_cell r (r.at + 1)) (sym (ap (may_stand r) is) ∙ h)).1 in
    subst (λ k. k + 1 < 0x10000) e (omega (arith, free_within r (r.at + 1) free.1))

-- the two cells of a word
pub word_put : (labels : List (Label × ℕ)) (at w : ℕ) (v : Value16) (x : Stmt86) (cells put : List (ℕ × ℕ)) → x ≡ Dw v → w ≡ word_of_value labels v → put ≡ put_cell (put_cell cells (at, w % 256)) (at + 1, w / 256)
    → put ≡ fold put_cell cells (cells_from (label_place labels) at (x ∷ []))
word_put labels at w (Num n) x cells put is value both =
    both
    ∙ ap (λ k. put_cell (put_cell cells (at, k % 256)) (at + 1, k / 256)) value
    ∙ ap (λ y. fold put_cell cells (cells_from (label_place labels) at (y ∷ []))) (sym is)
word_put labels at w (Offset l) x cells put is value both =
    both
    ∙ ap (λ k. put_cell (put_cell cells (at, k % 256)) (at + 1, k / 256)) value
    ∙ ap (λ y. fold put_cell cells (cells_from (label_place labels) at (y ∷ []))) (sym is)

-- a statement that is no cell and moves to no other address
pub stays : (off : Label → ℕ) (at : ℕ) (x : Stmt86) → (x ≡ Dseg → ⊥) → ((w : ℕ) → x ≡ Org w → ⊥) → ((w : ℕ) → x ≡ Rb w → ⊥) → ((n : ℕ) → x ≡ Db n → ⊥) → ((v : Value16) → x ≡ Dw v → ⊥) → (at ≡ address_after at x) × (cells_from off at (x ∷ []) ≡ [])
stays off at Cseg dseg org rb db dw = (refl, refl)
stays off at Dseg dseg org rb db dw = absurd (dseg refl)
stays off at (Org w) dseg org rb db dw = absurd (org w refl)
stays off at (Rb w) dseg org rb db dw = absurd (rb w refl)
stays off at (Db n) dseg org rb db dw = absurd (db n refl)
stays off at (Dw v) dseg org rb db dw = absurd (dw v refl)
stays off at (Mark k) dseg org rb db dw = (refl, refl)
stays off at (Run i) dseg org rb db dw = (refl, refl)
stays off at (MovOffset q k) dseg org rb db dw = (refl, refl)
stays off at (Jmp k) dseg org rb db dw = (refl, refl)
stays off at (Jmps k) dseg org rb db dw = (refl, refl)
stays off at (Jcc j k) dseg org rb db dw = (refl, refl)
stays off at (Call k) dseg org rb db dw = (refl, refl)
stays off at EndText dseg org rb db dw = (refl, refl)
