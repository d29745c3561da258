-- A line of input, byte by byte.
use Rattle.std.proofs.Common.{◌≡◌, ◌≢◌, ℕ, zero, suc, ◌+◌, ◌-◌, ◌<◌, ◌≤◌, nat_le, not, true, false, cond, List, [], ◌∷◌, ◌++◌, length, take, drop, get_or, refl, sym, ap, ◌∙◌, arith, append_assoc, add-one, drop-cons}
use Rattle.std.proofs.lemmas.List.{append-nil, length-append}
use Rattle.std.proofs.Math.ListN.{drop_of_length-le}
use Rattle.std.proofs.Math.Seq.{take-nil}
use Rattle.std.proofs.lemmas.Bool.{le-leb}
use Rattle.std.proofs.Math.Dec.{leb-suc-suc, leb-suc-zero}
use Rattle.std.specs.List.{filter, position_or_len, after_first}
use Rattle.bdos_small.specs.Console.{is_lf, is_no_cr, first_line, after_kept, line_read, line_left}

-- a LF in front
line-lf : (b : ℕ) (bs : List ℕ) → is_lf b ≡ true → first_line (b ∷ bs) ≡ []
line-lf b bs e = ap (λ t. filter is_no_cr (take (cond (not t) (1 + position_or_len is_lf bs) 0) (b ∷ bs))) e

after-lf : (b : ℕ) (bs : List ℕ) → is_lf b ≡ true → after_first is_lf (b ∷ bs) ≡ bs
after-lf b bs e = ap (λ t. drop (cond (not t) (1 + position_or_len is_lf bs) 0 + 1) (b ∷ bs)) e

-- another byte in front
line-other : (b : ℕ) (bs : List ℕ) → is_lf b ≡ false → first_line (b ∷ bs) ≡ cond (is_no_cr b) (b ∷ first_line bs) (first_line bs)
line-other b bs e =
    let n = position_or_len is_lf bs in
    let one : 1 + n ≡ suc n = omega arith in
    ap (λ t. filter is_no_cr (take (cond (not t) (1 + n) 0) (b ∷ bs))) e ∙ ap (λ k. filter is_no_cr (take k (b ∷ bs))) one

after-other : (b : ℕ) (bs : List ℕ) → is_lf b ≡ false → after_first is_lf (b ∷ bs) ≡ after_first is_lf bs
after-other b bs e =
    let n = position_or_len is_lf bs in
    let one : 1 + n + 1 ≡ suc (n + 1) = omega arith in
    ap (λ t. drop (cond (not t) (1 + n) 0 + 1) (b ∷ bs)) e ∙ ap (λ k. drop k (b ∷ bs)) one

-- what is left, by the first line
abbrev left_by : ℕ → List ℕ → List ℕ → List ℕ
left_by m input line = cond (nat_le m (length line)) (after_kept m input) (after_first is_lf input)

-- how a line goes on
left-nil : (m : ℕ) → line_left m [] ≡ []
left-nil zero = refl
left-nil (suc m) = ap (λ t. cond {A = List ℕ} t [] []) (leb-suc-zero m)

left-full : (bs : List ℕ) → line_left 0 bs ≡ bs
left-full bs =
    let n = length (first_line bs) in
    ap (λ t. cond t bs (after_first is_lf bs)) (le-leb 0 n (omega arith))

read-lf : (m b : ℕ) (bs : List ℕ) → is_lf b ≡ true → line_read m (b ∷ bs) ≡ []
read-lf m b bs e = ap (take m) (line-lf b bs e) ∙ take-nil m

left-lf : (m b : ℕ) (bs : List ℕ) → is_lf b ≡ true → line_left (suc m) (b ∷ bs) ≡ bs
left-lf m b bs e =
    ap (left_by (suc m) (b ∷ bs)) (line-lf b bs e)
    ∙ ap (λ t. cond t (after_kept (suc m) (b ∷ bs)) (after_first is_lf (b ∷ bs))) (leb-suc-zero m)
    ∙ after-lf b bs e

line-kept : (b : ℕ) (bs : List ℕ) → is_lf b ≡ false → is_no_cr b ≡ true → first_line (b ∷ bs) ≡ b ∷ first_line bs
line-kept b bs e f = line-other b bs e ∙ ap (λ t. cond t (b ∷ first_line bs) (first_line bs)) f

line-skipped : (b : ℕ) (bs : List ℕ) → is_lf b ≡ false → is_no_cr b ≡ false → first_line (b ∷ bs) ≡ first_line bs
line-skipped b bs e f = line-other b bs e ∙ ap (λ t. cond t (b ∷ first_line bs) (first_line bs)) f

read-kept : (m b : ℕ) (bs : List ℕ) → is_lf b ≡ false → is_no_cr b ≡ true → line_read (suc m) (b ∷ bs) ≡ b ∷ line_read m bs
read-kept m b bs e f = ap (take (suc m)) (line-kept b bs e f)

left-kept : (m b : ℕ) (bs : List ℕ) → is_lf b ≡ false → is_no_cr b ≡ true → line_left (suc m) (b ∷ bs) ≡ line_left m bs
left-kept m b bs e f =
    ap (left_by (suc m) (b ∷ bs)) (line-kept b bs e f)
    ∙ ap (λ t. cond t (after_kept (suc m) (b ∷ bs)) (after_first is_lf (b ∷ bs))) (leb-suc-suc m (length (first_line bs)))
    ∙ ap (λ t. cond (nat_le m (length (first_line bs))) (cond t (after_kept m bs) (after_kept (suc m) bs)) (after_first is_lf (b ∷ bs))) f
    ∙ ap (λ x. cond (nat_le m (length (first_line bs))) (after_kept m bs) x) (after-other b bs e)

read-skipped : (m b : ℕ) (bs : List ℕ) → is_lf b ≡ false → is_no_cr b ≡ false → line_read m (b ∷ bs) ≡ line_read m bs
read-skipped m b bs e f = ap (take m) (line-skipped b bs e f)

left-skipped : (m b : ℕ) (bs : List ℕ) → is_lf b ≡ false → is_no_cr b ≡ false → line_left (suc m) (b ∷ bs) ≡ line_left (suc m) bs
left-skipped m b bs e f =
    ap (left_by (suc m) (b ∷ bs)) (line-skipped b bs e f)
    ∙ ap (λ t. cond (nat_le (suc m) (length (first_line bs))) (cond t (after_kept m bs) (after_kept (suc m) bs)) (after_first is_lf (b ∷ bs))) f
    ∙ ap (λ x. cond (nat_le (suc m) (length (first_line bs))) (after_kept (suc m) bs) x) (after-other b bs e)

-- of the first i bytes of the input these are kept so far: the line goes on in the rest
pub record Stands (room : ℕ) (input so_far : List ℕ) (i : ℕ) : Type 0 where
  pub within : length so_far ≤ room
  pub bytes : so_far ++ line_read (room - length so_far) (drop i input) ≡ line_read room input
  pub left : line_left (room - length so_far) (drop i input) ≡ line_left room input

-- the line and what is left, where it ends
pub record Ends (room : ℕ) (input line rest : List ℕ) : Type 0 where
  pub bytes : line ≡ line_read room input
  pub left : rest ≡ line_left room input

-- the byte at an index comes next
next : (input : List ℕ) (i d : ℕ) → i < length input → drop i input ≡ get_or input i d ∷ drop (i + 1) input
next input i d lt = drop-cons input i d lt ∙ ap (λ k. get_or input i d ∷ drop k input) (sym (add-one i))

module _ (room : ℕ) (input so_far : List ℕ) (i d : ℕ) where
  pub stands_full : Stands room input so_far i → length so_far ≡ room → Ends room input so_far (drop i input)
  stands_full s e =
      let none : 0 ≡ room - length so_far = omega arith in
      record {
        bytes = sym (append-nil so_far) ∙ ap (λ m. so_far ++ line_read m (drop i input)) none ∙ s.bytes;
        left = sym (left-full (drop i input)) ∙ ap (λ m. line_left m (drop i input)) none ∙ s.left;
      }

  pub stands_done : Stands room input so_far i → length input ≤ i → Ends room input so_far (drop (length input) input)
  stands_done s le =
      let m = room - length so_far in
      let none : drop i input ≡ [] = drop_of_length-le input le in
      let all : drop (length input) input ≡ [] = drop_of_length-le input (omega arith) in
      record {
        bytes = sym (append-nil so_far) ∙ ap (λ l. so_far ++ l) (sym (take-nil m)) ∙ ap (λ l. so_far ++ line_read m l) (sym none) ∙ s.bytes;
        left = all ∙ sym (left-nil m) ∙ ap (line_left m) (sym none) ∙ s.left;
      }

  module _ (lt : i < length input) where
    stands_next : Stands room input so_far i → (so_far ++ line_read (room - length so_far) (get_or input i d ∷ drop (i + 1) input) ≡ line_read room input) × (line_left (room - length so_far) (get_or input i d ∷ drop (i + 1) input) ≡ line_left room input)
    stands_next s =
        let e = sym (next input i d lt) in
        (ap (λ l. so_far ++ line_read (room - length so_far) l) e ∙ s.bytes, ap (line_left (room - length so_far)) e ∙ s.left)

    more : Stands room input so_far i → length so_far ≢ room → suc (room - (length so_far + 1)) ≡ room - length so_far
    more s ne = let le = s.within in omega arith

    pub stands_lf : Stands room input so_far i → length so_far ≢ room → is_lf (get_or input i d) ≡ true → Ends room input so_far (drop (i + 1) input)
    stands_lf s ne e =
        let b = get_or input i d in
        let rest = drop (i + 1) input in
        let m = room - (length so_far + 1) in
        let go = stands_next s in
        record {
          bytes = sym (append-nil so_far) ∙ ap (λ l. so_far ++ l) (sym (read-lf (room - length so_far) b rest e)) ∙ go.0;
          left = sym (left-lf m b rest e) ∙ ap (λ k. line_left k (b ∷ rest)) (more s ne) ∙ go.1;
        }

    pub stands_skipped : Stands room input so_far i → length so_far ≢ room → is_lf (get_or input i d) ≡ false → is_no_cr (get_or input i d) ≡ false → Stands room input so_far (i + 1)
    stands_skipped s ne e f =
        let b = get_or input i d in
        let rest = drop (i + 1) input in
        let m = room - (length so_far + 1) in
        let go = stands_next s in
        record {
          within = s.within;
          bytes = ap (λ l. so_far ++ l) (sym (read-skipped (room - length so_far) b rest e f)) ∙ go.0;
          left = ap (λ k. line_left k rest) (sym (more s ne)) ∙ sym (left-skipped m b rest e f) ∙ ap (λ k. line_left k (b ∷ rest)) (more s ne) ∙ go.1;
        }

    pub stands_kept : Stands room input so_far i → length so_far ≢ room → is_lf (get_or input i d) ≡ false → is_no_cr (get_or input i d) ≡ true → Stands room input (so_far ++ get_or input i d ∷ []) (i + 1)
    stands_kept s ne e f =
        let b = get_or input i d in
        let rest = drop (i + 1) input in
        let m = room - (length so_far + 1) in
        let go = stands_next s in
        let le : length so_far ≤ room = s.within in
        let size : length (so_far ++ b ∷ []) ≡ length so_far + 1 = length-append so_far (b ∷ []) in
        let fewer : room - length (so_far ++ b ∷ []) ≡ m = ap (λ n. room - n) size in
        record {
          within = omega arith;
          bytes =
              ap (λ k. (so_far ++ b ∷ []) ++ line_read k rest) fewer
              ∙ append_assoc so_far (b ∷ []) (line_read m rest)
              ∙ ap (λ l. so_far ++ l) (sym (read-kept m b rest e f) ∙ ap (λ k. line_read k (b ∷ rest)) (more s ne))
              ∙ go.0;
          left = ap (λ k. line_left k rest) fewer ∙ sym (left-kept m b rest e f) ∙ ap (λ k. line_left k (b ∷ rest)) (more s ne) ∙ go.1;
        }
