-- The lines that are left, one line further to the front.
use Rattle.std.proofs.Common.{◌≡◌, ℕ, suc, ◌+◌, ◌<◌, ◌≤◌, Bool, true, false, List, [], ◌∷◌, ◌++◌, length, get_or, take, drop, refl, sym, ap, ◌∙◌, subst, append_assoc, arith}
use Rattle.std.specs.Prelude.{◌↔◌, IsTrue, IfOk, Result, Ok, Err}
use Rattle.std.specs.declared.alloc.AllocError.{AllocError}
use Rattle.std.specs.List.{remove}
use Rattle.std.proofs.Math.Seq.{take-suc, take-length, take-append_seam, drop-cons, drop-length, drop-append_seam, get_or-append_seam}
use Rattle.std.proofs.lemmas.List.{append-nil, length-take-le, take-append-drop}
use Rattle.asm86_line_types.specs.declared.line.Line86.{Line86}
use Rattle.asm86_line_types.specs.Image.{Assembles}
use Rattle.asm80_types.specs.Program.{Program}
use Rattle.flow.specs.Solving.{Needs, AreAllNeeds}
use Rattle.shrink.specs.Candidates.{is_candidate}
use Rattle.shrink.specs.Shrunk.{Shrinks, none, left_out, kept as stays_there, MatchesBlocks}
use Rattle.shrink.proofs.Left.{assembles_less}

pub not_true : (b : Bool) → b ≡ false → IsTrue b → ⊥
not_true b e h = cc

-- a list without the line that stands between two parts of it
pub removed : (before : List Line86) (x : Line86) (after : List Line86) (at : ℕ) → length before ≡ at → remove (before ++ x ∷ after) at ≡ before ++ after
removed before x after at e = subst (λ n. remove (before ++ x ∷ after) n ≡ before ++ after) e (seam before)
  where
    seam : (before : List Line86) → remove (before ++ x ∷ after) (length before) ≡ before ++ after
    seam [] = refl
    seam (b ∷ before) = ap (λ ys. b ∷ ys) (seam before)

-- that line
pub found : (before : List Line86) (x : Line86) (after : List Line86) (at : ℕ) (d : Line86) → length before ≡ at → get_or (before ++ x ∷ after) at d ≡ x
found before x after at d e = subst (λ n. get_or (before ++ x ∷ after) n d ≡ x) e (get_or-append_seam before x after d)

module _ (IsRight : List Line86 → Type 0) (lines : List Line86) where
  -- all lines are before the place at the end
  pub begins : Shrinks IsRight (take (length lines) lines) (drop (length lines) lines) []
  begins = subst (λ xs. Shrinks IsRight (take (length lines) lines) xs []) (sym (drop-length lines)) none

  pub ends : (left kept : List Line86) → left ≡ take 0 lines ++ kept → Shrinks IsRight (take 0 lines) (drop 0 lines) kept → Shrinks IsRight [] lines left
  ends left kept is s = subst (Shrinks IsRight [] lines) (sym is) s

pub whole : (lines left : List Line86) → left ≡ lines → left ≡ take (length lines) lines ++ []
whole lines left e = e ∙ sym (take-length lines) ∙ sym (append-nil (take (length lines) lines))

-- the line before a place
module _ (lines : List Line86) (at k : ℕ) (next : k + 1 ≡ at) (within : at ≤ length lines) (d : Line86) where
  here : k < length lines
  here = omega (arith, next, within)

  place : suc k ≡ at
  place = omega (arith, next)

  split : take at lines ≡ take k lines ++ get_or lines k d ∷ []
  split = ap (λ n. take n lines) (sym place) ∙ take-suc lines k d here

  pub behind : drop k lines ≡ get_or lines k d ∷ drop at lines
  behind = drop-cons lines k d here ∙ ap (λ n. get_or lines k d ∷ drop n lines) place

  pub count : length (take k lines) ≡ k
  count = length-take-le k lines (omega (arith, here))

  -- what is left, by that line
  pub shape : (left kept : List Line86) → left ≡ take at lines ++ kept → left ≡ take k lines ++ get_or lines k d ∷ kept
  shape left kept is = is ∙ ap (λ xs. xs ++ kept) split ∙ append_assoc (take k lines) (get_or lines k d ∷ []) kept

  module _ (IsRight : List Line86 → Type 0) (kept : List Line86) (s : Shrinks IsRight (take at lines) (drop at lines) kept) where
    further : Shrinks IsRight (take k lines ++ get_or lines k d ∷ []) (drop at lines) kept
    further = subst (λ xs. Shrinks IsRight xs (drop at lines) kept) split s

    pub goes : is_candidate (get_or lines k d).stmt ≡ true → IsRight (take k lines ++ kept) → Shrinks IsRight (take k lines) (drop k lines) kept
    goes c r = subst (λ xs. Shrinks IsRight (take k lines) xs kept) (sym behind) (left_out further c r)

    pub stays : (is_candidate (get_or lines k d).stmt ≡ true → IsRight (take k lines ++ kept) → ⊥) → Shrinks IsRight (take k lines) (drop k lines) (get_or lines k d ∷ kept)
    stays n = subst (λ xs. Shrinks IsRight (take k lines) xs (get_or lines k d ∷ kept)) (sym behind) (stays_there further n)

-- ---- a line that may go

module _ (p : Program) (lines less : List Line86) (at : ℕ) (d : Line86) (is : less ≡ remove lines at) (candidate : is_candidate (get_or lines at d).stmt ≡ true) where
  abbrev MayGo : Bool → Type 0
  MayGo b = (n : Needs) (before after : List Line86) (x : Line86) → AreAllNeeds p n → lines ≡ before ++ x ∷ after → length before ≡ at → IsTrue b ↔ ((is_candidate x.stmt ≡ true) × MatchesBlocks p n (before ++ after))

  may_go : (b : Bool) → ((n : Needs) → AreAllNeeds p n → IsTrue b ↔ MatchesBlocks p n less) → MayGo b
  may_go b h n before after x needs parts count =
      let same : less ≡ before ++ after = is ∙ ap (λ xs. remove xs at) parts ∙ removed before x after at count in
      let line : get_or lines at d ≡ x = ap (λ xs. get_or xs at d) parts ∙ found before x after at d count in (
        λ t. (subst (λ (y : Line86). is_candidate y.stmt ≡ true) line candidate, subst (MatchesBlocks p n) same ((h n needs).0 t)),
        λ k. (h n needs).1 (subst (MatchesBlocks p n) (sym same) k.1),
      )

  pub may_go_if : (r : Result Bool AllocError) → IfOk r (λ b. (n : Needs) → AreAllNeeds p n → IsTrue b ↔ MatchesBlocks p n less) → IfOk r MayGo
  may_go_if (Ok b) h = may_go b h
  may_go_if (Err e) h = h

  pub assembles_on : Assembles lines → at < length lines → Assembles less
  assembles_on a lt =
      let parts : take at lines ++ get_or lines at d ∷ drop (suc at) lines ≡ lines = ap (λ xs. take at lines ++ xs) (sym (drop-cons lines at d lt)) ∙ take-append-drop at lines in
      subst Assembles (sym is) (assembles_less (take at lines) (drop (suc at) lines) (get_or lines at d) candidate (subst Assembles (sym parts) a))

  -- the lines with it again
  with_it : at < length lines → take at less ++ get_or lines at d ∷ drop at less ≡ lines
  with_it lt =
      let before = take at lines in
      let after = drop (suc at) lines in
      let x = get_or lines at d in
      let count : length before ≡ at = length-take-le at lines (omega (arith, lt)) in
      let parts : before ++ x ∷ after ≡ lines = ap (λ xs. before ++ xs) (sym (drop-cons lines at d lt)) ∙ take-append-drop at lines in
      let same : less ≡ before ++ after = is ∙ ap (λ xs. remove xs at) (sym parts) ∙ removed before x after at count in
      let front : take at less ≡ before = ap (take at) same ∙ ap (λ n. take n (before ++ after)) (sym count) ∙ take-append_seam before after in
      let back : drop at less ≡ after = ap (drop at) same ∙ ap (λ n. drop n (before ++ after)) (sym count) ∙ drop-append_seam before after in
      ap (λ xs. xs ++ x ∷ drop at less) front ∙ ap (λ xs. before ++ x ∷ xs) back ∙ parts

  pub matched_with : at < length lines → ((n : Needs) → AreAllNeeds p n → MatchesBlocks p n lines) → (x : Line86) × (is_candidate x.stmt ≡ true) × ((n : Needs) → AreAllNeeds p n → MatchesBlocks p n (take at less ++ x ∷ drop at less))
  matched_with lt m = (get_or lines at d, candidate, λ n needs. subst (MatchesBlocks p n) (sym (with_it lt)) (m n needs))
