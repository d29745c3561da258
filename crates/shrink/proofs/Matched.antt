-- What a check of one block, and what is found of all, says of lines.
use Rattle.std.proofs.Common.{◌≡◌, ℕ, Bool, true, false, cond, ◌==◌, List, [], ◌∷◌, map, Option, Some, None, refl, sym, ap, ◌∙◌, subst, arith}
use Rattle.std.specs.List.{Contains}
use Rattle.std.proofs.lemmas.Bool.{eqb-true}
use Rattle.std.proofs.lemmas.List.Elements.{Contains-append_right}
use Rattle.std.proofs.lemmas.Option.{same_Some}
use Rattle.asm86_line_types.specs.declared.line.Stmt86.{Stmt86}
use Rattle.asm86_line_types.specs.declared.line.Line86.{Line86}
use Rattle.asm80_types.specs.Program.{Program}
use Rattle.flow.specs.Blocks.{blocks, count_in}
use Rattle.flow.specs.Solving.{Needs, AreAllNeeds}
use Rattle.flow.proofs.OneNeeds.{all_needs_once}
use Rattle.sym_block_def.specs.declared.reason.Reason.{Reason}
use Rattle.sym_block_def.specs.BlockMatch.{Keeps, block_reason}
use Rattle.block_check.specs.Comparing.{verdict_of}
use Rattle.block_check.specs.declared.block.Verdict.TheVariants.{NotShown as NotShownBlock}
use Rattle.simulation_def.specs.Matches.{blocks_reason}
use Rattle.simulation_def.specs.Needed.{needed_by}
use Rattle.text_check.specs.declared.finding.Finding.TheVariants.{Shown, NotShown}
use Rattle.text_check.specs.Findings.{IsFinding}
use Rattle.text_check.proofs.Matching.{matched, unmatched}
use Rattle.shrink.specs.Shrunk.{MatchesBlocks}
use Rattle.simulation_def.proofs.Reasons.{no_reason}

-- ---- a block that is there

leads : (bs : List (ℕ × ℕ)) (a n : ℕ) → count_in bs a ≡ Some n → Contains (map (λ (b : ℕ × ℕ). b.0) bs) a
leads [] a n e = absurd (cc)
leads (b ∷ bs) a n e = by_test (b.0 == a) refl e (leads bs a n)
  where
    by_test : (t : Bool) → (b.0 == a) ≡ t → cond t (Some b.1) (count_in bs a) ≡ Some n → (count_in bs a ≡ Some n → Contains (map (λ (c : ℕ × ℕ). c.0) bs) a) → Contains (map (λ (c : ℕ × ℕ). c.0) (b ∷ bs)) a
    by_test true is h rest = (0, omega arith, eqb-true b.0 a is)
    by_test false is h rest = Contains-append_right (b.0 ∷ []) (map (λ (c : ℕ × ℕ). c.0) bs) a (rest h)

pub is_leader : (p : Program) (a n : ℕ) → count_in (blocks p) a ≡ Some n → Contains (map (λ (b : ℕ × ℕ). b.0) (blocks p)) a
is_leader p a n e = leads (blocks p) a n e

-- ---- a block with a reason

all_without : (p : Program) (text : List Stmt86) (keeps : Keeps) (bs : List (ℕ × ℕ)) (a n : ℕ) → blocks_reason p text keeps bs ≡ None → count_in bs a ≡ Some n → block_reason p text keeps a n ≡ None
all_without p text keeps [] a n h e = absurd (cc)
all_without p text keeps (b ∷ bs) a n h e =
    let parts = no_reason b.0 (block_reason p text keeps b.0 b.1) (blocks_reason p text keeps bs) h in
    by_test (b.0 == a) refl e parts.0 (all_without p text keeps bs a n parts.1)
  where
    by_test : (t : Bool) → (b.0 == a) ≡ t → cond t (Some b.1) (count_in bs a) ≡ Some n → block_reason p text keeps b.0 b.1 ≡ None → (count_in bs a ≡ Some n → block_reason p text keeps a n ≡ None) → block_reason p text keeps a n ≡ None
    by_test true is f here rest = subst (λ m. block_reason p text keeps a m ≡ None) (same_Some b.1 n f) (subst (λ m. block_reason p text keeps m b.1 ≡ None) (eqb-true b.0 a is) here)
    by_test false is f here rest = rest f

-- what is answered of a block tells its reason
pub reason_is : (o : Option Reason) (r : Reason) → NotShownBlock r ≡ verdict_of o → o ≡ Some r
reason_is None r e = absurd (cc)
reason_is (Some q) r e = ap Some (same_reason q r (sym e))
  where
    same_reason : (q r : Reason) → NotShownBlock q ≡ NotShownBlock r → q ≡ r
    same_reason q r e = cc

-- lines of which a block has a reason do not match
pub not_block : (p : Program) (n : Needs) (lines : List Line86) (text : List Stmt86) (a count : ℕ) (r : Reason) → text ≡ (map (λ (l : Line86). l.stmt) lines) → count_in (blocks p) a ≡ Some count → block_reason p text (needed_by p n) a count ≡ Some r → MatchesBlocks p n lines → ⊥
not_block p n lines text a count r is e found m =
    let none = all_without p text (needed_by p n) (blocks p) a count (subst (λ xs. blocks_reason p xs (needed_by p n) (blocks p) ≡ None) (sym is) m.blocks) e in
    no_one r (sym found ∙ none)
  where
    no_one : (r : Reason) → Some r ≡ None → ⊥
    no_one r e = cc

-- ---- what is found of all

pub found_match : (p : Program) (n : Needs) (lines : List Line86) (count : ℕ) → AreAllNeeds p n → IsFinding p lines (Shown count) → MatchesBlocks p n lines
found_match p n lines count needs f =
    subst (λ k. MatchesBlocks p k lines) (all_needs_once p f.needs n f.are needs) (matched p lines (blocks p) (needed_by p f.needs) None f.finds refl)

pub found_none : (p : Program) (n : Needs) (lines : List Line86) (at : ℕ) (r : Reason) → AreAllNeeds p n → IsFinding p lines (NotShown at r) → MatchesBlocks p n lines → ⊥
found_none p n lines at r needs f m =
    unmatched p lines (blocks p) (needed_by p f.needs) (Some (at, r)) (at, r) f.finds refl
    (subst (λ k. MatchesBlocks p k lines) (all_needs_once p n f.needs needs f.are) m)
