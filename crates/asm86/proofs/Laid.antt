-- What is known of the labels of the statements that were looked at.
use Rattle.std.proofs.Common.{◌≡◌, ℕ, ◌+◌, ◌<◌, List, [], ◌∷◌, ◌++◌, ◌≤◌, length, take, drop, get_or, None, Some, refl, sym, ap, subst, ◌∙◌, length-append, arith}
use Rattle.std.proofs.lemmas.List.{take_all, take_more, take-append-drop, map-append}
use Rattle.asm86_line_types.specs.declared.line.Label.{Label}
use Rattle.asm86_line_types.specs.declared.line.Stmt86.{Stmt86}
use Rattle.asm86_line_types.specs.declared.line.Stmt86.TheVariants.{Cseg, Dseg, Org, Rb, Db, Dw, Mark, Run, MovOffset, Jmp, Jmps, Jcc, Call, EndText}
use Rattle.asm86_line_types.specs.declared.line.Line86.{Line86}
use Rattle.asm86_line_types.specs.Layout.{size_of, sizes_of, marked, bytes_at, code_from}
use Rattle.asm86_line_types.specs.Image.{statements, offset_in, IsDefinedOnce, labels_before, labels_from}
use Rattle.asm86_line_types.proofs.Sizes.{length_bytes, sizes_of-append}
use Rattle.asm86.specs.Places.{AreLabelsLaid}
use Rattle.asm86.proofs.Texts.{labels_from-append, code_from-append, offset_is, defined_more, defined_again, defined_still}

-- the statements up to the one at a place, and those with it
abbrev pub up_to : List Line86 → ℕ → List Stmt86
up_to lines i = statements (take i lines)

pub one_more : (lines : List Line86) (i : ℕ) (d : Line86) → i < length lines → up_to lines (i + 1) ≡ up_to lines i ++ (get_or lines i d).stmt ∷ []
one_more lines i d lt =
    ap statements (take_more lines i d lt)
    ∙ map-append (λ (x : Line86). x.stmt) (take i lines) (get_or lines i d ∷ [])

-- all of them
pub up_to_all : (lines : List Line86) (i : ℕ) → length lines ≤ i → up_to lines i ≡ statements lines
up_to_all lines i le = ap statements (take_all i lines le)

front : (lines : List Line86) (i : ℕ) → statements lines ≡ up_to lines i ++ statements (drop i lines)
front lines i =
    sym (ap statements (take-append-drop i lines))
    ∙ map-append (λ (x : Line86). x.stmt) (take i lines) (drop i lines)

-- sizes of the statements up to a place, with the one there, and of all
pub size_next : (lines : List Line86) (i : ℕ) (d : Line86) → i < length lines → sizes_of (up_to lines (i + 1)) ≡ sizes_of (up_to lines i) + size_of (get_or lines i d).stmt
size_next lines i d lt =
    let e = sizes_of-append (up_to lines i) ((get_or lines i d).stmt ∷ []) in
    ap sizes_of (one_more lines i d lt) ∙ e ∙ omega arith

pub size_within : (lines : List Line86) (i : ℕ) (d : Line86) → i < length lines → sizes_of (up_to lines i) + size_of (get_or lines i d).stmt ≤ sizes_of (statements lines)
size_within lines i d lt =
    let next = size_next lines i d lt in
    let whole = ap sizes_of (front lines (i + 1)) in
    let joined = sizes_of-append (up_to lines (i + 1)) (statements (drop (i + 1) lines)) in
    omega (arith, next, whole, joined)

pub laid_mark : (xs : List Stmt86) (labels more : List (Label × ℕ)) (at : ℕ) (x : Stmt86) (l : Label) → x ≡ Mark l → offset_in labels l ≡ None → more ≡ labels ++ (l, at) ∷ [] → AreLabelsLaid xs labels at → AreLabelsLaid (xs ++ x ∷ []) more (at + size_of x)
laid_mark xs labels more at x l is none added h =
    let joined = sizes_of-append xs (Mark l ∷ []) in
    let size = h.size in
    let here : at ≡ 0 + sizes_of xs = omega (arith, size) in
    subst (λ y. AreLabelsLaid (xs ++ y ∷ []) more (at + size_of y)) (sym is)
    (record {
      found =
          added
          ∙ ap (λ ls. ls ++ (l, at) ∷ []) h.found
          ∙ ap (λ n. labels_from 0 xs ++ (l, n) ∷ []) here
          ∙ sym (labels_from-append 0 xs (Mark l ∷ []));
      size = omega (arith, joined, size);
      once = defined_more xs l h.once (offset_is 0 xs l ∙ ap (λ ls. offset_in ls l) (sym h.found) ∙ none);
    })

-- a label that is there may not be defined
pub laid_again : (xs : List Stmt86) (labels : List (Label × ℕ)) (at a : ℕ) (x : Stmt86) (l : Label) → x ≡ Mark l → offset_in labels l ≡ Some a → AreLabelsLaid xs labels at → IsDefinedOnce (xs ++ x ∷ []) → ⊥
laid_again xs labels at a x l is some h once =
    defined_again xs l a (offset_is 0 xs l ∙ ap (λ ls. offset_in ls l) (sym h.found) ∙ some) (subst (λ y. IsDefinedOnce (xs ++ y ∷ [])) is once)

-- a statement that is no label
pub unmarked : (x : Stmt86) → ((l : Label) → x ≡ Mark l → ⊥) → marked x ≡ None
unmarked Cseg h = refl
unmarked Dseg h = refl
unmarked (Org w) h = refl
unmarked (Rb w) h = refl
unmarked (Db n) h = refl
unmarked (Dw v) h = refl
unmarked (Mark k) h = absurd (h k refl)
unmarked (Run i) h = refl
unmarked (MovOffset r k) h = refl
unmarked (Jmp k) h = refl
unmarked (Jmps k) h = refl
unmarked (Jcc j k) h = refl
unmarked (Call k) h = refl
unmarked EndText h = refl

append_nothing : {A : Type 0} (xs : List A) → xs ≡ xs ++ []
append_nothing [] = refl
append_nothing (y ∷ ys) = ap (λ zs. y ∷ zs) (append_nothing ys)

pub laid_other : (xs : List Stmt86) (labels : List (Label × ℕ)) (at : ℕ) (x : Stmt86) → marked x ≡ None → AreLabelsLaid xs labels at → AreLabelsLaid (xs ++ x ∷ []) labels (at + size_of x)
laid_other xs labels at x none h =
    let joined = sizes_of-append xs (x ∷ []) in
    let size = h.size in
    record {
      found =
          h.found
          ∙ append_nothing (labels_from 0 xs)
          ∙ ap (λ m. labels_from 0 xs ++ labels_before m (0 + sizes_of xs) []) (sym none)
          ∙ sym (labels_from-append 0 xs (x ∷ []));
      size = omega (arith, joined, size);
      once = defined_still xs x none h.once;
    }

-- the bytes of the statements up to a place, with those of the one there
pub record IsCode (off : Label → ℕ) (xs : List Stmt86) (code : List ℕ) : Type 0 where
  pub size : length code ≡ sizes_of xs
  pub bytes : code ≡ code_from off 0 xs

pub code_more : (off : Label → ℕ) (xs : List Stmt86) (x : Stmt86) (code more : List ℕ) → IsCode off xs code → more ≡ code ++ bytes_at off (length code) x → IsCode off (xs ++ x ∷ []) more
code_more off xs x code more h e =
    let joined = sizes_of-append xs (x ∷ []) in
    let size = h.size in
    let place : length code ≡ 0 + sizes_of xs = omega (arith, size) in
    let lengths = ap length e ∙ length-append code (bytes_at off (length code) x) in
    let one = length_bytes off (length code) x in
    record {
      size = omega (arith, joined, size, lengths, one);
      bytes =
          e
          ∙ ap (λ n. code ++ bytes_at off n x) place
          ∙ ap (λ bs. code ++ bs) (append_nothing (bytes_at off (0 + sizes_of xs) x))
          ∙ ap (λ bs. bs ++ (bytes_at off (0 + sizes_of xs) x ++ [])) h.bytes
          ∙ sym (code_from-append off 0 xs (x ∷ []));
    }
