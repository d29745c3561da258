-- Lines without a candidate, to which one block alone can come.
use Rattle.std.proofs.Common.{◌≡◌, ℕ, zero, suc, ◌+◌, ◌-◌, ◌<◌, ◌≤◌, Bool, true, ◌&&◌, List, [], ◌∷◌, ◌++◌, length, get_or, take, drop, Option, Some, None, refl, sym, ap, ◌∙◌, subst, append_assoc, arith}
use Rattle.std.specs.Prelude.{IsTrue, ◌↔◌, IfOk, Result, Ok, Err}
use Rattle.std.specs.declared.alloc.AllocError.{AllocError}
use Rattle.std.specs.List.{list_all}
use Rattle.std.proofs.Math.Seq.{drop-cons, take-append_seam, take-length, get_or-append_seam}
use Rattle.std.proofs.lemmas.List.{map-append, length-take-le, length-drop, take-append-drop}
use Rattle.asm86_line_types.specs.declared.line.Label.TheVariants.{At}
use Rattle.asm86_line_types.specs.declared.line.Stmt86.{Stmt86}
use Rattle.asm86_line_types.specs.declared.line.Stmt86.TheVariants.{Mark, Run}
use Rattle.asm86_line_types.specs.declared.line.Line86.{Line86}
use Rattle.asm86_line_types.specs.Image.{Image, image_of, statements}
use Rattle.asm80_types.specs.Program.{Program}
use Rattle.flow.specs.Blocks.{blocks, BlocksCut}
use Rattle.flow.specs.Solving.{Needs, AreAllNeeds}
use Rattle.sym_block_def.specs.declared.reason.Reason.{Reason}
use Rattle.sym_block_def.specs.BlockMatch.{block_reason}
use Rattle.block_check.specs.Comparing.{verdict_of}
use Rattle.block_check.specs.declared.block.Verdict.TheVariants.{Shown}
use Rattle.simulation_def.specs.Matches.{HasOpening, blocks_reason}
use Rattle.simulation_def.specs.Needed.{needed_by}
use Rattle.simulation_def.specs.Runtime.{HasRuntime}
use Rattle.text_check.specs.Parts.{DataStandIn}
use Rattle.text_check.specs.Findings.{HasFrame, Lacks, opening, runtime, cells}
use Rattle.shrink.specs.Candidates.{is_candidate}
use Rattle.shrink.specs.Apart.{is_inner, is_label, begins_with_label, IsBlockLabel, LabelStands, IsApart}
use Rattle.shrink.specs.Shrunk.{MatchesBlocks}
use Rattle.shrink.proofs.Left.{is_run}
use Rattle.shrink.proofs.Others.{others_stay}

-- a block that is shown has no reason
pub shown_none : (o : Option Reason) → Shown ≡ verdict_of o → o ≡ None
shown_none None e = refl
shown_none (Some r) e = absurd (cc)

-- lines that lack a part have not all of them
pub lacking : (p : Program) (text : List Stmt86) (image : Image) (lines : List Line86) (r : Reason) → text ≡ statements lines → image ≡ image_of lines → Lacks p text image r → HasFrame p (statements lines) (image_of lines) → ⊥
lacking p text image lines _ is made (opening none) f = none (subst (HasOpening p) (sym is) f.opening)
lacking p text image lines _ is made (runtime has none) f = none (subst HasRuntime (sym is) f.runtime)
lacking p text image lines _ is made (cells has runs none) f = none (subst (DataStandIn p) (sym made) f.cells)

-- a label that is found at a place stands there
pub stands_at : (p : Program) (lines : List Line86) (k : ℕ) (d : Line86) (a : ℕ) → k < length lines → IsBlockLabel p (get_or lines k d).stmt a → LabelStands p lines k a
stands_at p lines k d a lt is = record {
  first = take k lines;
  label = get_or lines k d;
  rest = drop (suc k) lines;
  are = sym (ap (λ xs. take k lines ++ xs) (sym (drop-cons lines k d lt)) ∙ take-append-drop k lines);
  here = length-take-le k lines (omega (arith, lt));
  is = is;
}

-- ---- lines up to a place, by one of them

pub upto : (xs : List Line86) (k m j : ℕ) (d : Line86) → k < length xs → suc (k + m) ≡ j → take j xs ≡ take k xs ++ get_or xs k d ∷ take m (drop (suc k) xs)
upto xs k m zero d lt e = absurd (omega (arith, e))
upto [] k m (suc j) d lt e = absurd (omega arith)
upto (x ∷ xs) zero m (suc j) d lt e = let same : j ≡ m = omega (arith, e) in ap (λ n. x ∷ take n xs) same
upto (x ∷ xs) (suc k) m (suc j) d lt e = ap (λ ys. x ∷ ys) (upto xs k m j d (omega (arith, lt)) (omega (arith, e)))

pub to_end : (k : ℕ) (xs : List Line86) → take (length xs - k) (drop k xs) ≡ drop k xs
to_end k xs = ap (λ n. take n (drop k xs)) (sym (length-drop k xs)) ∙ take-length (drop k xs)

-- ---- the statements of lines around one

around : (before : List Line86) (y : Line86) (after : List Line86) (s : Stmt86) → y.stmt ≡ s → statements (before ++ y ∷ after) ≡ statements before ++ s ∷ statements after
around before y after s is = map-append (λ (l : Line86). l.stmt) before (y ∷ after) ∙ ap (λ t. statements before ++ t ∷ statements after) is

all_statements : (f : Stmt86 → Bool) (xs : List Line86) → list_all (λ (line : Line86). f line.stmt) xs ≡ list_all f (statements xs)
all_statements f [] = refl
all_statements f (x ∷ xs) = ap (λ b. f x.stmt && b) (all_statements f xs)

module _ (p : Program) (cut : BlocksCut p) (n : Needs) (first inner rest : List Line86) (label x : Line86) (a : ℕ) (stands : IsBlockLabel p label.stmt a) (candidate : is_candidate x.stmt ≡ true) (apart : IsApart p inner rest) where
  abbrev less : List Line86
  less = first ++ label ∷ (inner ++ rest)

  abbrev more : List Line86
  more = first ++ label ∷ (inner ++ x ∷ rest)

  blocks_stay : block_reason p (statements less) (needed_by p n) a stands.count ≡ None → blocks_reason p (statements more) (needed_by p n) (blocks p) ≡ None → blocks_reason p (statements less) (needed_by p n) (blocks p) ≡ None
  blocks_stay here all =
      let run = is_run x.stmt candidate in
      let short : statements less ≡ statements first ++ Mark (At a) ∷ (statements inner ++ statements rest) =
      around first label (inner ++ rest) (Mark (At a)) stands.is_label ∙ ap (λ xs. statements first ++ Mark (At a) ∷ xs) (map-append (λ (l : Line86). l.stmt) inner rest) in
      let long : statements more ≡ statements first ++ Mark (At a) ∷ (statements inner ++ Run run.0 ∷ statements rest) =
      around first label (inner ++ x ∷ rest) (Mark (At a)) stands.is_label ∙ ap (λ xs. statements first ++ Mark (At a) ∷ xs) (around inner x rest (Run run.0) run.1) in
      subst (λ t. blocks_reason p t (needed_by p n) (blocks p) ≡ None) (sym short)
      (others_stay (statements first) (statements inner) (statements rest) a run.0 p cut stands.count stands.block
      (sym (all_statements (is_inner p) inner) ∙ apart.are_inner) (ap (λ b. b && begins_with_label (statements rest)) (sym (all_statements is_label inner)) ∙ apart.parted) (needed_by p n)
      (subst (λ t. block_reason p t (needed_by p n) a stands.count ≡ None) short here)
      (subst (λ t. blocks_reason p t (needed_by p n) (blocks p) ≡ None) long all))

  match_less : block_reason p (statements less) (needed_by p n) a stands.count ≡ None → HasFrame p (statements less) (image_of less) → MatchesBlocks p n more → MatchesBlocks p n less
  match_less here f m = record { opening = f.opening; runtime = f.runtime; cells = f.cells; blocks = blocks_stay here m.blocks }

-- lines with a place at which a candidate was left out, after the label of a block
module _ (p : Program) (cut : BlocksCut p) (lines : List Line86) (at place a : ℕ) (stands : LabelStands p lines at a) (past : at < place) (within : place ≤ length lines) (n : Needs) (x : Line86) (candidate : is_candidate x.stmt ≡ true) where
  abbrev inner : List Line86
  inner = take (place - (at + 1)) (drop (at + 1) lines)

  abbrev rest : List Line86
  rest = drop place lines

  front : take place lines ≡ stands.first ++ stands.label ∷ inner
  front =
      let size = stands.here in
      let begins : take at lines ≡ stands.first = ap (λ xs. take at xs) stands.are ∙ ap (λ m. take m (stands.first ++ stands.label ∷ stands.rest)) (sym size) ∙ take-append_seam stands.first (stands.label ∷ stands.rest) in
      let middle : get_or lines at stands.label ≡ stands.label = ap (λ xs. get_or xs at stands.label) stands.are ∙ ap (λ m. get_or (stands.first ++ stands.label ∷ stands.rest) m stands.label) (sym size) ∙ get_or-append_seam stands.first stands.label stands.rest stands.label in
      let next : suc at ≡ at + 1 = omega arith in
      upto lines at (place - (at + 1)) place stands.label (omega (arith, past, within)) (omega (arith, past))
      ∙ ap (λ m. take at lines ++ get_or lines at stands.label ∷ take (place - (at + 1)) (drop m lines)) next
      ∙ ap (λ xs. xs ++ get_or lines at stands.label ∷ inner) begins ∙ ap (λ y. stands.first ++ y ∷ inner) middle

  parts : lines ≡ stands.first ++ stands.label ∷ (inner ++ rest)
  parts = sym (take-append-drop place lines) ∙ ap (λ xs. xs ++ rest) front ∙ append_assoc stands.first (stands.label ∷ inner) rest

  with_x : take place lines ++ x ∷ rest ≡ stands.first ++ stands.label ∷ (inner ++ x ∷ rest)
  with_x = ap (λ xs. xs ++ x ∷ rest) front ∙ append_assoc stands.first (stands.label ∷ inner) (x ∷ rest)

  pub framed : (b : Bool) → IsApart p inner rest → (IsTrue b ↔ HasFrame p (statements lines) (image_of lines)) → block_reason p (statements lines) (needed_by p n) a stands.is.count ≡ None → MatchesBlocks p n (take place lines ++ x ∷ drop place lines) → IsTrue b ↔ MatchesBlocks p n lines
  framed b apart has here m = (
    λ t. subst (MatchesBlocks p n) (sym parts)
        (match_less p cut n stands.first inner rest stands.label x a stands.is candidate apart
        (subst (λ xs. block_reason p (statements xs) (needed_by p n) a stands.is.count ≡ None) parts here)
        (subst (λ xs. HasFrame p (statements xs) (image_of xs)) parts (has.0 t)) (subst (MatchesBlocks p n) with_x m)),
    λ k. has.1 (record { opening = k.opening; runtime = k.runtime; cells = k.cells }),
  )

module _ (p : Program) (cut : BlocksCut p) (lines : List Line86) (at place a : ℕ) (stands : LabelStands p lines at a) (past : at < place) (within : place ≤ length lines) (x : Line86) (candidate : is_candidate x.stmt ≡ true) where
  pub framed_if : (r : Result Bool AllocError) → IfOk r (λ b. IsTrue b ↔ HasFrame p (statements lines) (image_of lines)) → IsApart p (take (place - (at + 1)) (drop (at + 1) lines)) (drop place lines)
      → ((n : Needs) → AreAllNeeds p n → block_reason p (statements lines) (needed_by p n) a stands.is.count ≡ None)
      → ((n : Needs) → AreAllNeeds p n → MatchesBlocks p n (take place lines ++ x ∷ drop place lines))
      → IfOk r (λ b. (n : Needs) → AreAllNeeds p n → IsTrue b ↔ MatchesBlocks p n lines)
  framed_if (Ok b) has apart here m = λ n needs. framed p cut lines at place a stands past within n x candidate b apart has (here n needs) (m n needs)
  framed_if (Err e) has apart here m = has
