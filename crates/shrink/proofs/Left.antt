-- What is true of the lines that are left.
use Rattle.std.proofs.Common.{◌≡◌, ◌≤◌, ℕ, Bool, true, false, ◌||◌, List, [], ◌∷◌, ◌++◌, length, None, refl, sym, ap, ◌∙◌, subst, append_assoc, arith}
use Rattle.std.proofs.lemmas.List.{map-append}
use Rattle.i86.specs.declared.Instr86.{Instr86}
use Rattle.asm86_line_types.specs.declared.line.Stmt86.{Stmt86}
use Rattle.asm86_line_types.specs.declared.line.Stmt86.TheVariants.{Run}
use Rattle.asm86_line_types.specs.declared.line.Line86.{Line86}
use Rattle.asm86_line_types.specs.Layout.{sizes_of}
use Rattle.asm86_line_types.specs.Order.{ends_text}
use Rattle.asm86_line_types.specs.Image.{Assembles, statements}
use Rattle.asm86.specs.Stream.{has_end}
use Rattle.asm80_types.specs.Program.{Program}
use Rattle.flow.specs.Blocks.{blocks}
use Rattle.flow.specs.Solving.{Needs, AreAllNeeds}
use Rattle.flow.proofs.OneNeeds.{all_needs_once}
use Rattle.simulation_def.specs.Matches.{Finds, blocks as by_blocks}
use Rattle.simulation_def.specs.Needed.{needed_by}
use Rattle.text_check.specs.declared.finding.Finding.TheVariants.{Shown}
use Rattle.text_check.specs.Findings.{IsFinding}
use Rattle.text_check.proofs.Matching.{matched}
use Rattle.shrink.specs.Candidates.{is_candidate}
use Rattle.shrink.specs.Shrunk.{Shrinks, none, left_out, kept, MatchesBlocks, IsShrunk}
use Rattle.shrink.specs.Written.{HaveLines}
use Rattle.shrink.specs.Laws.{IsSublist, nothing, leaves, takes, IsLeftOf}
use Rattle.shrink.proofs.LeavingOut.{assembles_without}

pub is_run : (x : Stmt86) → is_candidate x ≡ true → (i : Instr86) × (x ≡ Run i)
is_run (Run i) h = (i, refl)
is_run x h = absurd cc

-- a candidate is left out of lines that assemble
pub assembles_less : (before after : List Line86) (x : Line86) → is_candidate x.stmt ≡ true → Assembles (before ++ x ∷ after) → Assembles (before ++ after)
assembles_less before after x h =
    let run = is_run x.stmt h in
    assembles_without (statements before) run.0 (statements after) (before ++ x ∷ after) (before ++ after)
    (map-append (λ (l : Line86). l.stmt) before (x ∷ after) ∙ ap (λ s. statements before ++ s ∷ statements after) run.1)
    (map-append (λ (l : Line86). l.stmt) before after)

no_end : (x : Stmt86) → is_candidate x ≡ true → ends_text x ≡ false
no_end (Run i) h = refl
no_end x h = absurd cc

module _ (IsRight : List Line86 → Type 0) where
  -- ---- among the lines that there were

  among : (before lines left : List Line86) → Shrinks IsRight before lines left → IsSublist left lines
  among before _ _ none = nothing
  among before _ _ (left_out {lines = lines} {left = left} {x = x} s c r) = leaves (among (before ++ x ∷ []) lines left s)
  among before _ _ (kept {lines = lines} {left = left} {x = x} s n) = takes (among (before ++ x ∷ []) lines left s)

  end_left : (before lines left : List Line86) → Shrinks IsRight before lines left → has_end lines ≡ true → has_end left ≡ true
  end_left before _ _ none h = h
  end_left before _ _ (left_out {lines = lines} {left = left} {x = x} s c r) h =
      end_left (before ++ x ∷ []) lines left s (sym (ap (λ b. b || has_end lines) (no_end x.stmt c)) ∙ h)
  end_left before _ _ (kept {lines = lines} {left = left} {x = x} s n) h = by_end (ends_text x.stmt) h (end_left (before ++ x ∷ []) lines left s)
    where
      by_end : (t : Bool) → (t || has_end lines) ≡ true → (has_end lines ≡ true → has_end left ≡ true) → (t || has_end left) ≡ true
      by_end true e rest = refl
      by_end false e rest = rest e

  -- ---- what holds of the whole list, through the list

  module _ (P : List Line86 → Type 0) (less : (before after : List Line86) (x : Line86) → is_candidate x.stmt ≡ true → IsRight (before ++ after) → P (before ++ x ∷ after) → P (before ++ after)) where
    keeps : (before lines left : List Line86) → Shrinks IsRight before lines left → P (before ++ lines) → P (before ++ left)
    keeps before _ _ none h = h
    keeps before _ _ (left_out {lines = lines} {left = left} {x = x} s c r) h =
        less before left x c r (subst P (append_assoc before (x ∷ []) left) (keeps (before ++ x ∷ []) lines left s (subst P (sym (append_assoc before (x ∷ []) lines)) h)))
    keeps before _ _ (kept {lines = lines} {left = left} {x = x} s n) h =
        subst P (append_assoc before (x ∷ []) left) (keeps (before ++ x ∷ []) lines left s (subst P (sym (append_assoc before (x ∷ []) lines)) h))

  -- ---- one list is left

  pub one_left : (before lines a b : List Line86) → Shrinks IsRight before lines a → Shrinks IsRight before lines b → a ≡ b
  one_left before _ _ _ none none = refl
  one_left before _ _ _ (left_out {lines = lines} {left = a} {x = x} s c r) (left_out {left = b} t d q) = one_left (before ++ x ∷ []) lines a b s t
  one_left before _ _ _ (left_out {lines = lines} {left = a} {x = x} s c r) (kept {left = b} t n) =
      absurd (n c (subst (λ ys. IsRight (before ++ ys)) (one_left (before ++ x ∷ []) lines a b s t) r))
  one_left before _ _ _ (kept {lines = lines} {left = a} {x = x} s n) (left_out {left = b} t d q) =
      absurd (n d (subst (λ ys. IsRight (before ++ ys)) (sym (one_left (before ++ x ∷ []) lines a b s t)) q))
  one_left before _ _ _ (kept {lines = lines} {left = a} {x = x} s n) (kept {left = b} t m) = ap (λ ys. x ∷ ys) (one_left (before ++ x ∷ []) lines a b s t)

sizes_among : (xs ys : List Line86) → IsSublist xs ys → sizes_of (statements xs) ≤ sizes_of (statements ys)
sizes_among _ _ nothing = omega arith
sizes_among _ _ (leaves {xs = xs} {ys = ys} s) = let le = sizes_among xs ys s in omega (arith, le)
sizes_among _ _ (takes {xs = xs} {ys = ys} s) = let le = sizes_among xs ys s in omega (arith, le)

fewer_among : (xs ys : List Line86) → IsSublist xs ys → length xs ≤ length ys
fewer_among _ _ nothing = omega arith
fewer_among _ _ (leaves {xs = xs} {ys = ys} s) = let le = fewer_among xs ys s in omega (arith, le)
fewer_among _ _ (takes {xs = xs} {ys = ys} s) = let le = fewer_among xs ys s in omega (arith, le)

lines_among : (xs ys : List Line86) → IsSublist xs ys → HaveLines (statements ys) → HaveLines (statements xs)
lines_among _ _ nothing h = tt
lines_among _ _ (leaves {xs = xs} {ys = ys} s) h = lines_among xs ys s h.1
lines_among _ _ (takes {xs = xs} {ys = ys} s) h = (h.0, lines_among xs ys s h.1)

module _ (p : Program) (lines left : List Line86) (is : IsShrunk p lines left) where
  abbrev Right : List Line86 → Type 0
  Right = MatchesBlocks p is.needs

  left_assembles : Assembles lines → Assembles left
  left_assembles = keeps Right Assembles (λ before after x c r a. assembles_less before after x c a) [] lines left is.shrinks

  left_matches : MatchesBlocks p is.needs lines → MatchesBlocks p is.needs left
  left_matches = keeps Right Right (λ before after x c r a. r) [] lines left is.shrinks

  by_needs : (n : Needs) → AreAllNeeds p n → MatchesBlocks p n lines → MatchesBlocks p n left
  by_needs n needs m =
      let same = all_needs_once p is.needs n is.are needs in
      subst (λ k. MatchesBlocks p k left) same (left_matches (subst (λ k. MatchesBlocks p k lines) (sym same) m))

  still_shown : (count : ℕ) → IsFinding p lines (Shown count) → IsFinding p left (Shown count)
  still_shown count f =
      let m = by_needs f.needs f.are (matched p lines (blocks p) (needed_by p f.needs) None f.finds refl) in
      record {
        needs = f.needs;
        are = f.are;
        finds = subst (Finds p left (blocks p) (needed_by p f.needs)) m.blocks (by_blocks m.opening m.runtime m.cells);
        counts = f.counts;
      }

  pub is_left : IsLeftOf p lines left
  is_left =
      let sublist = among Right [] lines left is.shrinks in
      record {
        among = sublist;
        fewer = fewer_among left lines sublist;
        shorter = sizes_among left lines sublist;
        assembles = left_assembles;
        writable = λ w. record {
          written = lines_among left lines sublist w.written;
          assembles = left_assembles w.assembles;
          has_end = end_left Right [] lines left is.shrinks w.has_end;
        };
        matches = by_needs;
        shown = still_shown;
      }

pub one_shrunk : (p : Program) (lines a b : List Line86) → IsShrunk p lines a → IsShrunk p lines b → a ≡ b
one_shrunk p lines a b is other =
    let same = all_needs_once p other.needs is.needs other.are is.are in
    one_left (MatchesBlocks p is.needs) [] lines a b is.shrinks (subst (λ k. Shrinks (MatchesBlocks p k) [] lines b) same other.shrinks)
