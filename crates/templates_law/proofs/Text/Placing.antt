-- Where the labels of a program's instructions stand in a text.
use Rattle.std.proofs.Common.{◌≡◌, ◌≢◌, ℕ, zero, suc, ◌+◌, ◌<◌, ◌≤◌, List, [], ◌∷◌, ◌++◌, get_or, length, map, Some, refl, ap, ◌∙◌, arith, append_assoc, Bool, true, false, cond, ◌==◌}
use Rattle.std.specs.Prelude.{is_some}
use Rattle.std.proofs.lemmas.Bool.{eq-eqb, ne_eqb, false≢true, eqb-true, eqb-false}
use Rattle.i80.specs.declared.Goal.{Goal}
use Rattle.i80.specs.Columns.{length80}
use Rattle.asm86_line_types.specs.declared.line.Label.{Label}
use Rattle.asm86_line_types.specs.declared.line.Label.TheVariants.{At as Line, Skip}
use Rattle.asm86_line_types.specs.declared.line.Stmt86.{Stmt86}
use Rattle.asm86_line_types.specs.declared.line.Stmt86.TheVariants.{Mark}
use Rattle.asm86_line_types.specs.Layout.{offset_from, marks, same_label}
use Rattle.asm86_line_types.specs.Image.{count_marks}
use Rattle.asm86_line_types.proofs.Sizes.{count_marks-append}
use Rattle.asm86_line_types.proofs.Statements.{MarksNot}
use Rattle.asm80_types.specs.declared.program.Placed.{Placed}
use Rattle.asm80_types.specs.Program.{placed_in, AreLaid}
use Rattle.asm80_types.proofs.Lookup.{above-laid, length80-positive}
use Rattle.flow.specs.Blocks.{extent}
use Rattle.flow.proofs.Cuts.{flat}
use Rattle.flow.proofs.Laid.{found_start}
use Rattle.templates.specs.Style.{Style, block_from, block_in_style, blocks_of}
use Rattle.templates_law.proofs.Text.Statements.{marks_not-append, stands_behind}
use Rattle.templates_law.proofs.Text.Shapes.{HasShape, straight, past, short, step_marks_not, steps_mark_not, shape_marks_not}
use Rattle.templates_law.proofs.Text.Body.{IsGroup, marked, bare, IsBody, none, more}

-- ---- the labels of blocks

-- the first of a block has its label
pub leader_stands : (s : Style) (bs : List (List Placed)) (i a n : ℕ) → i < length (map extent bs) → get_or (map extent bs) i (a, n) ≡ (a, n) → 1 ≤ n → (rest : List Stmt86) (at : ℕ) → is_some (offset_from at (blocks_of s bs ++ rest) (Line a)) ≡ true
leader_stands s [] i a n lt is some rest at = absurd (omega arith)
leader_stands s ([] ∷ bs) zero a n lt is some rest at = let no : 0 ≡ n = ap (λ (b : ℕ × ℕ). b.1) is in absurd (omega (arith, no, some))
leader_stands s ((x ∷ xs) ∷ bs) zero a n lt is some rest at =
    let same : x.at ≡ a = ap (λ (b : ℕ × ℕ). b.0) is in
    ap (λ t. is_some (cond t (Some at) (offset_from (at + 0) ((block_from s false false (x ∷ xs) ++ blocks_of s bs) ++ rest) (Line a)))) (eq-eqb x.at a same)
leader_stands s (b ∷ bs) (suc i) a n lt is some rest at =
    ap (λ ys. is_some (offset_from at ys (Line a))) (append_assoc (block_in_style s b) (blocks_of s bs) rest)
    ∙ stands_behind (Line a) (blocks_of s bs ++ rest) (leader_stands s bs i a n (omega arith) is some rest) (block_in_style s b) at

-- a text begins with the label of the first instruction
pub record Opens (from : ℕ) (xs : List Stmt86) : Type 0 where
  pub rest : List Stmt86
  pub is : xs ≡ Mark (Line from) ∷ rest

pub blocks_open : (s : Style) (bs : List (List Placed)) (x : Placed) (xs : List Placed) → flat bs ≡ x ∷ xs → Opens x.at (blocks_of s bs)
blocks_open s [] x xs h = absurd (cc)
blocks_open s ([] ∷ bs) x xs h = blocks_open s bs x xs h
blocks_open s ((y ∷ ys) ∷ bs) x xs h =
    let same : y ≡ x = cc in
    record { rest = block_from s false false (y ∷ ys) ++ blocks_of s bs; is = ap (λ (z : Placed). Mark (Line z.at) ∷ (block_from s false false (y ∷ ys) ++ blocks_of s bs)) same }

-- an instruction that starts somewhere starts at the lowest place or above it
pub start_above : (xs : List Placed) (from limit a : ℕ) → AreLaid from limit xs → is_some (placed_in xs a) ≡ true → from ≤ a
start_above xs from limit a laid h =
    let at = found_start xs a h in
    let le = above-laid xs from limit at.0 laid at.1 in
    omega (arith, le, at.2)

-- and below the limit
pub start_below : (xs : List Placed) (from limit a : ℕ) → AreLaid from limit xs → is_some (placed_in xs a) ≡ true → a < limit
start_below [] from limit a laid h = absurd (false≢true h)
start_below (y ∷ ys) from limit a laid h = by_test (y.at == a) refl h (start_below ys (y.at + length80 y.instr) limit a laid.3)
  where
    by_test : (t : Bool) → (y.at == a) ≡ t → is_some (cond t (Some y) (placed_in ys a)) ≡ true → (is_some (placed_in ys a) ≡ true → a < limit) → a < limit
    by_test true e g rec =
        let k : y.at ≡ a = eqb-true y.at a e in
        let within = laid.1 in
        let some = length80-positive y.instr in
        omega (arith, k, within, some)
    by_test false e g rec = rec g

-- ---- which labels do not stand

-- a label that is no other address's
abbrev pub IsOf : ℕ → Label → Type 0
IsOf a l = (b : ℕ) → b ≢ a → (same_label (Line b) l ≡ false) × (same_label (Skip b) l ≡ false)

pub line_of : (a : ℕ) → IsOf a (Line a)
line_of a b ne = (ne_eqb b a ne, refl)

pub skip_of : (a : ℕ) → IsOf a (Skip a)
skip_of a b ne = (refl, ne_eqb b a ne)

-- ---- how often labels stand

-- 1 where a test holds, and 0 else
abbrev counted : Bool → ℕ
counted b = cond b 1 0

counted_most : (b : Bool) → counted b ≤ 1
counted_most true = omega arith
counted_most false = omega arith

pub none_counted : (l : Label) (xs : List Stmt86) → MarksNot l xs → count_marks l xs ≡ 0
none_counted l [] h = refl
none_counted l (x ∷ xs) h =
    let here : counted (marks l x) ≡ 0 = ap counted h.0 in
    let rest = none_counted l xs h.1 in
    omega (arith, here, rest)

module _ (G : Goal → Type 0) where
  pub group_marks_not : (l : Label) (at : ℕ) → same_label (Line at) l ≡ false → same_label (Skip at) l ≡ false → (xs : List Stmt86) → IsGroup G at xs → MarksNot l xs
  group_marks_not l at line skip _ (marked xs h) = (line, shape_marks_not G l at skip xs h)
  group_marks_not l at line skip _ (bare xs h) = shape_marks_not G l at skip xs h

  -- no instruction's statements have a label that is neither an instruction's nor past a condition
  pub body_marks_not : (l : Label) → ((a : ℕ) → same_label (Line a) l ≡ false) → ((a : ℕ) → same_label (Skip a) l ≡ false) → (xs : List Placed) (ys : List Stmt86) → IsBody G xs ys → MarksNot l ys
  body_marks_not l line skip _ _ none = tt
  body_marks_not l line skip _ _ (more x xs ys zs g h) = marks_not-append l ys zs (group_marks_not l x.at (line x.at) (skip x.at) ys g) (body_marks_not l line skip xs zs h)

  -- a label of an address below the first instruction stands nowhere
  pub body_lacks_below : (l : Label) (a : ℕ) → IsOf a l → (xs : List Placed) (ys : List Stmt86) → IsBody G xs ys → (from limit : ℕ) → AreLaid from limit xs → a < from → MarksNot l ys
  body_lacks_below l a of _ _ none from limit laid lt = tt
  body_lacks_below l a of _ _ (more x xs ys zs g h) from limit laid lt =
      let above = laid.0 in
      let ne : x.at ≢ a = omega (arith, above) in
      marks_not-append l ys zs (group_marks_not l x.at (of x.at ne).0 (of x.at ne).1 ys g) (body_lacks_below l a of xs zs h (x.at + length80 x.instr) limit laid.3 (omega (arith, above)))

  shape_once : (l : Label) (at : ℕ) (xs : List Stmt86) → HasShape G at xs → count_marks l xs ≤ 1
  shape_once l at _ (straight xs s) = let none = none_counted l xs (steps_mark_not G l xs s) in omega (arith, none)
  shape_once l at _ (past j x s le) =
      let none : counted (marks l x) ≡ 0 = ap counted (step_marks_not G l x s) in
      let most = counted_most (same_label (Skip at) l) in
      omega (arith, none, most)
  shape_once l at _ (short j g s) = omega arith

  pub line_once : (a at : ℕ) (xs : List Stmt86) → IsGroup G at xs → count_marks (Line a) xs ≤ 1
  line_once a at _ (marked xs h) =
      let none = none_counted (Line a) xs (shape_marks_not G (Line a) at refl xs h) in
      let most = counted_most (at == a) in
      omega (arith, none, most)
  line_once a at _ (bare xs h) = let none = none_counted (Line a) xs (shape_marks_not G (Line a) at refl xs h) in omega (arith, none)

  pub skip_once : (a at : ℕ) (xs : List Stmt86) → IsGroup G at xs → count_marks (Skip a) xs ≤ 1
  skip_once a at _ (marked xs h) = let most = shape_once (Skip a) at xs h in omega (arith, most)
  skip_once a at _ (bare xs h) = shape_once (Skip a) at xs h

  pub body_once : (l : Label) (a : ℕ) → IsOf a l → ((at : ℕ) (xs : List Stmt86) → IsGroup G at xs → count_marks l xs ≤ 1) → (xs : List Placed) (ys : List Stmt86) → IsBody G xs ys → (from limit : ℕ) → AreLaid from limit xs → count_marks l ys ≤ 1
  body_once l a of once _ _ none from limit laid = omega arith
  body_once l a of once _ _ (more x xs ys zs g h) from limit laid = by_test (x.at == a) refl (body_once l a of once xs zs h (x.at + length80 x.instr) limit laid.3)
    where
      parts : count_marks l (ys ++ zs) ≡ count_marks l ys + count_marks l zs
      parts = count_marks-append l ys zs

      by_test : (b : Bool) → (x.at == a) ≡ b → count_marks l zs ≤ 1 → count_marks l (ys ++ zs) ≤ 1
      by_test true e le =
          let k : x.at ≡ a = eqb-true x.at a e in
          let some = length80-positive x.instr in
          let none = none_counted l zs (body_lacks_below l a of xs zs h (x.at + length80 x.instr) limit laid.3 (omega (arith, some, k))) in
          let here = once x.at ys g in
          omega (arith, parts, here, none)
      by_test false e le =
          let ne : x.at ≢ a = eqb-false x.at a e in
          let none = none_counted l ys (group_marks_not l x.at (of x.at ne).0 (of x.at ne).1 ys g) in
          omega (arith, parts, none, le)
