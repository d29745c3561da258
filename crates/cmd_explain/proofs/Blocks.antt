-- From block to block, and what is told of each.
use Rattle.std.proofs.Common.{◌≡◌, ◌∙◌, ℕ, ◌+◌, ◌-◌, ◌≤◌, List, [], ◌++◌, length, Option, Some, None, refl, sym, ap, subst, append_assoc, append-nil}
use Rattle.std.specs.Prelude.{drop}
use Rattle.std.proofs.lemmas.List.{drop_all}
use Rattle.asm80_types.specs.Program.{Program, line_at}
use Rattle.asm86_line_types.specs.declared.line.Label.TheVariants.{At}
use Rattle.asm86_line_types.specs.declared.line.Line86.{Line86}
use Rattle.asm86_line_types.specs.declared.line.Stmt86.{Stmt86}
use Rattle.asm86_line_types.specs.Image.{statements}
use Rattle.flow.specs.Blocks.{blocks, place_after}
use Rattle.flow.proofs.Indexed.{IsBlockAt}
use Rattle.sym_block_def.specs.declared.reason.Reason.{Reason}
use Rattle.sym_block_def.specs.Walk86.{after_label}
use Rattle.sym_block_def.specs.BlockMatch.{Keeps, block_reason}
use Rattle.simulation_def.specs.Matches.{or_next, blocks_reason}
use Rattle.cmd_explain.specs.Lines.{block_line, source_lines}
use Rattle.cmd_explain.specs.Explained.{WhyTold, BlockTold, ToldIfAny, BlocksTold}
use Rattle.cmd_explain.specs.Telling.{Tells, or_later, first_of}

-- more was told after what was told
pub tells_more : (Claim More : List ℕ → Type 0) (old mid new : List ℕ) (front : List ℕ) → mid ≡ old ++ front → ((own : List ℕ) → Claim own → More (front ++ own)) → Tells Claim mid new → Tells More old new
tells_more Claim More old mid new front e f t = record {
  own = front ++ t.own;
  is = t.is ∙ ap (λ xs. xs ++ t.own) e ∙ append_assoc old front t.own;
  claim = f t.own t.claim;
}

-- a block is told by its head and what is told of its label
pub block_told : (p : Program) (lines : List Line86) (k : Keeps) (first count : ℕ) (reason : Reason) (last : ℕ) → last ≡ place_after p first (count - 1) → (from to : ℕ) → line_at p first ≡ Some from → line_at p last ≡ Some to → (own : List ℕ) → WhyTold p lines k first count reason (after_label (statements lines) (At first)) own → BlockTold p lines k first count reason ((block_line first reason ++ source_lines from to) ++ own)
block_told p lines k first count reason last e from to starts ends own h =
    record { from = from; to = to; starts = starts; ends = subst (λ a. line_at p a ≡ Some to) e ends; why = own; told = h; is = refl }

module _ (p : Program) (lines : List Line86) (k : Keeps) where
  -- what is told of the blocks from one on goes on from what was told
  abbrev pub GoesOn : List ℕ → List ℕ → ℕ → Type 0
  GoesOn old told i = (front : List ℕ) × (told ≡ old ++ front) × ((rest : List ℕ) → BlocksTold p lines k (drop i (blocks p)) rest → BlocksTold p lines k (blocks p) (front ++ rest))

  pub begins : (old : List ℕ) → GoesOn old old 0
  begins old = ([], sym (append-nil old), λ rest h. h)

  pub one_told : (old mid new : List ℕ) (i leader count : ℕ) → IsBlockAt p i leader count → GoesOn old mid i → Tells (ToldIfAny p lines k leader count (block_reason p (statements lines) k leader count)) mid new → GoesOn old new (i + 1)
  one_told old mid new i leader count b h t = (
    h.0 ++ t.own,
    t.is ∙ ap (λ xs. xs ++ t.own) h.1 ∙ append_assoc old h.0 t.own,
    λ rest r. subst (BlocksTold p lines k (blocks p)) (sym (append_assoc h.0 t.own rest)) (h.2 (t.own ++ rest) (subst (λ bs. BlocksTold p lines k bs (t.own ++ rest)) (sym b.rest) (t.own, rest, t.claim, r, refl))),
  )

  pub all_told : (old new : List ℕ) (i : ℕ) → length (blocks p) ≤ i → GoesOn old new i → Tells (BlocksTold p lines k (blocks p)) old new
  all_told old new i le h = record {
    own = h.0;
    is = h.1;
    claim = subst (BlocksTold p lines k (blocks p)) (append-nil h.0) (h.2 [] (subst (λ bs. BlocksTold p lines k bs []) (sym (drop_all i (blocks p) le)) refl));
  }

-- ---- the first reason

later_step : (first : Option (ℕ × Reason)) (leader : ℕ) (r : Option Reason) (later : Option (ℕ × Reason)) → or_later (first_of first leader r) later ≡ or_later first (or_next leader r later)
later_step (Some first) leader r later = refl
later_step None leader (Some r) later = refl
later_step None leader None later = refl

pub later_none : (first : Option (ℕ × Reason)) → or_later first None ≡ first
later_none (Some first) = refl
later_none None = refl

module _ (p : Program) (text : List Stmt86) (k : Keeps) where
  -- the first of those that were passed, or of those that are left, is the first of all
  abbrev pub IsFirstSoFar : Option (ℕ × Reason) → ℕ → Type 0
  IsFirstSoFar first i = or_later first (blocks_reason p text k (drop i (blocks p))) ≡ blocks_reason p text k (blocks p)

  pub first_step : (first : Option (ℕ × Reason)) (i leader count : ℕ) → IsBlockAt p i leader count → IsFirstSoFar first i → IsFirstSoFar (first_of first leader (block_reason p text k leader count)) (i + 1)
  first_step first i leader count b h =
      later_step first leader (block_reason p text k leader count) (blocks_reason p text k (drop (i + 1) (blocks p)))
      ∙ ap (λ bs. or_later first (blocks_reason p text k bs)) (sym b.rest)
      ∙ h

  pub first_is : (first : Option (ℕ × Reason)) (i : ℕ) → length (blocks p) ≤ i → IsFirstSoFar first i → first ≡ blocks_reason p text k (blocks p)
  first_is first i le h = sym (later_none first) ∙ ap (λ bs. or_later first (blocks_reason p text k bs)) (sym (drop_all i (blocks p) le)) ∙ h
