-- Bytes put one after another into cells that hold 0.
use Rattle.std.proofs.Common.{◌≡◌, refl, sym, ◌∙◌, ap, ℕ, ◌+◌, ◌-◌, ◌≤◌, min, ltb, Bool, List, [], ◌∷◌, ◌++◌, length, take, drop, arith, append_assoc, append-nil, length-append}
use Rattle.std.proofs.lemmas.Bool.{ltb-true, ltb-false}
use Rattle.std.proofs.lemmas.List.{take_all, take_at, drop_at, length-replicate, replicate-append-replicate, length-take-le, take-append-le, take-replicate, drop-replicate}
use Rattle.std.proofs.Math.Seq.{take-append-add}
use Rattle.std.specs.Prelude.{replicate, map, Some, ◌==◌, true, false}
use Rattle.std.specs.Char.{to_ascii_uppercase}
use Rattle.dialogue.specs.StartPage.{name_in_tail, type_of, field, control_block, counted, tail_area, is_tail, page, page_of_tail}

-- bytes put into cells of which the first are given and the others are 0: they stand after a gap
pub put-zeros : (given bytes cells : List ℕ) (gap left total start : ℕ) → cells ≡ given ++ replicate total 0 →
    total ≡ gap + (length bytes + left) → start ≡ length given + gap →
    take start cells ++ (bytes ++ drop (start + length bytes) cells) ≡ (given ++ (replicate gap 0 ++ bytes)) ++ replicate left 0
put-zeros given bytes cells gap left total start holds fits place =
    let front : List ℕ = given ++ replicate gap 0 in
    let size : length front ≡ start = length-append given (replicate gap 0) ∙ ap (λ k. length given + k) (length-replicate gap 0) ∙ sym place in
    let first : cells ≡ front ++ replicate (length bytes + left) 0 =
    holds ∙ ap (λ k. given ++ replicate k 0) fits ∙ ap (λ xs. given ++ xs) (sym (replicate-append-replicate gap (length bytes + left) 0))
    ∙ sym (append_assoc given (replicate gap 0) (replicate (length bytes + left) 0)) in
    let second : cells ≡ (front ++ replicate (length bytes) 0) ++ replicate left 0 =
    first ∙ ap (λ xs. front ++ xs) (sym (replicate-append-replicate (length bytes) left 0))
    ∙ sym (append_assoc front (replicate (length bytes) 0) (replicate left 0)) in
    let taken : take start cells ≡ front = ap (take start) first ∙ take_at front (replicate (length bytes + left) 0) start size in
    let behind : length (front ++ replicate (length bytes) 0) ≡ start + length bytes =
    length-append front (replicate (length bytes) 0) ∙ ap (λ k. length front + k) (length-replicate (length bytes) 0)
    ∙ ap (λ k. k + length bytes) size in
    let dropped : drop (start + length bytes) cells ≡ replicate left 0 =
    ap (drop (start + length bytes)) second ∙ drop_at (front ++ replicate (length bytes) 0) (replicate left 0) (start + length bytes) behind in
    rw (taken, dropped, append_assoc) (sym (append_assoc4 given (replicate gap 0) bytes (replicate left 0)))
  where
    append_assoc4 : (a b c d : List ℕ) → (a ++ (b ++ c)) ++ d ≡ a ++ (b ++ (c ++ d))
    append_assoc4 a b c d = rw (append_assoc, append_assoc) refl

-- a list cut to so many bytes behind which others stand
take-filled : (k left x : ℕ) (xs : List ℕ) → k ≡ length xs + left → left ≤ k → take k (xs ++ replicate k x) ≡ xs ++ replicate left x
take-filled k left x xs fits le =
    ap (λ n. take n (xs ++ replicate k x)) fits ∙ take-append-add xs (replicate k x) left
    ∙ ap (λ ys. xs ++ ys) (take-replicate left k x le)

-- a list put over the first of k bytes is cut to k bytes
pub over-filled : (n m x : ℕ) (xs cells : List ℕ) → m ≡ min (length xs) n → cells ≡ take 0 (replicate n x) ++ (take m xs ++ drop (0 + length (take m xs)) (replicate n x)) → cells ≡ take n (xs ++ replicate n x)
over-filled n m x xs cells e put = put ∙ by_order (ltb (length xs) n) refl
  where
    by_order : (b : Bool) → ltb (length xs) n ≡ b → take m xs ++ drop (0 + length (take m xs)) (replicate n x) ≡ take n (xs ++ replicate n x)
    by_order true h =
        let lt = ltb-true (length xs) n h in
        let same : m ≡ length xs = omega arith in
        let left = n - (0 + length xs) in
        ap (λ j. take j xs ++ drop (0 + length (take j xs)) (replicate n x)) same
        ∙ ap (λ ys. ys ++ drop (0 + length ys) (replicate n x)) (take_all (length xs) xs (omega arith))
        ∙ ap (λ ys. xs ++ ys) (drop-replicate (0 + length xs) n x)
        ∙ sym (take-filled n left x xs (omega arith) (omega arith))
    by_order false h =
        let le = ltb-false (length xs) n h in
        let same : m ≡ n = omega arith in
        let size = length-take-le n xs le in
        let none : n - (0 + length (take n xs)) ≡ 0 = omega arith in
        ap (λ j. take j xs ++ drop (0 + length (take j xs)) (replicate n x)) same
        ∙ ap (λ ys. take n xs ++ ys) (drop-replicate (0 + length (take n xs)) n x ∙ ap (λ j. replicate j x) none)
        ∙ append-nil (take n xs)
        ∙ sym (take-append-le n xs (replicate n x) le)

pub length-field : (k : ℕ) (part : List ℕ) → length (field k part) ≡ k
length-field k part = by_parts _ _
  where
    by_parts : (stem : List ℕ) (fill : ℕ) → length (take k (stem ++ replicate k fill)) ≡ k
    by_parts stem fill =
        length-take-le k (stem ++ replicate k fill)
        (omega (arith, length-append stem (replicate k fill), length-replicate {A = ℕ} k fill))

pub length-control_block : (word : List ℕ) → length (control_block word) ≡ 16
length-control_block word =
    let name = length-field 8 (name_in_tail word) in
    let kind = length-field 3 (type_of word) in
    rw (length-append, length-append, name, kind) refl

-- a control block, by its parts
pub block-is : (drive : ℕ) (name kind b0 b1 b2 b3 : List ℕ) → length name ≡ 8 → length kind ≡ 3 → b0 ≡ replicate 16 0 →
    b1 ≡ take 0 b0 ++ ((drive ∷ []) ++ drop (0 + 1) b0) →
    b2 ≡ take 1 b1 ++ (name ++ drop (1 + length name) b1) →
    b3 ≡ take 9 b2 ++ (kind ++ drop (9 + length kind) b2) →
    b3 ≡ drive ∷ (name ++ (kind ++ replicate 4 0))
block-is drive name kind b0 b1 b2 b3 eight three e0 e1 e2 e3 =
    let first = e1 ∙ put-zeros [] (drive ∷ []) b0 0 15 16 0 e0 refl refl in
    let second = e2 ∙ put-zeros (drive ∷ []) name b1 0 7 15 1 first (omega arith) refl in
    let third = e3 ∙ put-zeros (drive ∷ name) kind b2 0 4 7 9 second (omega arith) (omega arith) in
    third ∙ append_assoc (drive ∷ name) kind (replicate 4 0)

-- the area of a tail that is not empty
pub area-is : (text b0 b1 b2 : List ℕ) → length text ≤ 126 → (length text == 0) ≡ false → b0 ≡ replicate 128 0 →
    b1 ≡ take 0 b0 ++ (((length text + 1) ∷ (0x20 ∷ [])) ++ drop (0 + 2) b0) →
    b2 ≡ take 2 b1 ++ (text ++ drop (2 + length text) b1) →
    b2 ≡ tail_area text
area-is [] b0 b1 b2 short some e0 e1 e2 = cc
area-is (t ∷ ts) b0 b1 b2 short some e0 e1 e2 =
    let text : List ℕ = t ∷ ts in
    let left = 126 - length text in
    let first = e1 ∙ put-zeros [] ((length text + 1) ∷ (0x20 ∷ [])) b0 0 126 128 0 e0 refl refl in
    let second = e2 ∙ put-zeros ((length text + 1) ∷ (0x20 ∷ [])) text b1 0 left 126 2 first (omega arith) refl in
    second ∙ sym (take-filled 128 left 0 (counted text) (omega arith) (omega arith))

-- the page, by its parts
pub page-is : (first second area c0 c1 c2 c3 : List ℕ) → length first ≡ 16 → length second ≡ 16 → length area ≡ 128 → c0 ≡ replicate 164 0 →
    c1 ≡ take 0 c0 ++ (first ++ drop (0 + length first) c0) →
    c2 ≡ take 16 c1 ++ (second ++ drop (16 + length second) c1) →
    c3 ≡ take 36 c2 ++ (area ++ drop (36 + length area) c2) →
    c3 ≡ first ++ (second ++ (replicate 4 0 ++ area))
page-is first second area c0 c1 c2 c3 size1 size2 size3 e0 e1 e2 e3 =
    let one = e1 ∙ put-zeros [] first c0 0 148 164 0 e0 (omega arith) refl in
    let two = e2 ∙ put-zeros first second c1 0 132 148 16 one (omega arith) (omega arith) in
    let three = e3 ∙ put-zeros (first ++ second) area c2 4 0 132 36 two (omega arith) (omega (arith, length-append first second)) in
    three ∙ append-nil _ ∙ append_assoc first second (replicate 4 0 ++ area)

pub length-tail_area : (text : List ℕ) → length (tail_area text) ≡ 128
length-tail_area text = by_bytes (counted text)
  where
    by_bytes : (bytes : List ℕ) → length (take 128 (bytes ++ replicate 128 0)) ≡ 128
    by_bytes bytes =
        length-take-le 128 (bytes ++ replicate 128 0)
        (omega (arith, length-append bytes (replicate 128 0), length-replicate {A = ℕ} 128 0))

pub same_page : (a b c d e f : List ℕ) → a ≡ b → c ≡ d → e ≡ f → a ++ (c ++ (replicate 4 0 ++ e)) ≡ b ++ (d ++ (replicate 4 0 ++ f))
same_page a b c d e f p q r = cc

pub page_of_tail-is : (tail cells : List ℕ) → is_tail tail ≡ true → cells ≡ page (map to_ascii_uppercase tail) → Some cells ≡ page_of_tail tail
page_of_tail-is tail cells good same = rw (good, same) refl
